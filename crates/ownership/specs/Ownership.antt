-- RULES 8.1: the bits of a payload that a field owns, by their place in it.
use Rattle.std.specs.Prelude.{ℕ, ◌-◌, Bool, cond, List, length, replicate, eqb}
use Rattle.kinds.specs.declared.types.ByteOrder.{ByteOrder}
use Rattle.bits.specs.Bits.{bit_at, packed}
use Rattle.bits.specs.Moves.{within}
use Rattle.masks.specs.Mask.{Mask}
use Rattle.cutout.specs.CutOut.{owned_bit}
use Rattle.payload.specs.Writing.{in_cut_out, cut_bytes}

-- where a field is written: its cut-out begins at byte `at` and is ordered; there it has `size` bits from bit `pos` on, under a mask
pub record Cut : Type 0 where
  pub order : ByteOrder
  pub at : ℕ
  pub pos : ℕ
  pub size : ℕ
  pub mask : Mask

-- a change of the ordered cut-out, in a payload
abbrev pub in_cut : Cut → (List ℕ → List ℕ) → List ℕ → List ℕ
in_cut c f xs = in_cut_out c.order f c.at (cut_bytes c.pos c.size) xs

-- n zero bytes, but for the cut-out: bit k of its ordered form is f k
abbrev pub laid : Cut → (ℕ → ℕ) → ℕ → List ℕ
laid c f n = in_cut c (λ ys. packed (length ys) f) (replicate n 0)

-- of the ordered cut-out the field owns bit pos+i for each of its bits i that is owned
abbrev pub owned_at : Cut → ℕ → ℕ
owned_at c k = cond (within c.size c.pos k) (owned_bit c.mask (k - c.pos)) 0

-- n bytes with ones at the bits that are owned
unfoldable pub footprint : Cut → ℕ → List ℕ
footprint c n = laid c (owned_at c) n

-- the field owns bit k of n bytes
unfoldable pub owns : Cut → ℕ → ℕ → Bool
owns c n k = eqb (bit_at (footprint c n) k) 1
