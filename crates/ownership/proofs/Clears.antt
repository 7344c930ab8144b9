-- The clear law: what a clear makes of each bit of a payload.
use Rattle.std.proofs.Common.{◌≡◌, refl, ◌∙◌, Bool, true, false, cond, List, ℕ, zero, suc, ◌-◌, ◌*◌, ◌<◌, min, arith, length, eqb}
use Rattle.bits.specs.Bits.{bit_at}
use Rattle.bits.specs.Moves.{within, overlaid}
use Rattle.bits.proofs.Bytes.{Bytes, bit_at_lt}
use Rattle.bits.proofs.Moves.{bits_cond}
use Rattle.payload.specs.Writing.{cut_bytes}
use Rattle.cutout.specs.CutOut.{owned_bit, cleared}
use Rattle.ownership.specs.Ownership.{Cut, owned_at, owns}
use Rattle.ownership.proofs.Effects.{cleared_in, after_clear}
use Rattle.ownership.proofs.Places.{Pointwise, pointwise_packed, length-in_cut_out, bytes_in_cut_out}
use Rattle.ownership.proofs.Laid.{Inside, holds, stands_at, bit_at-in_cut, owned_bit-lt, bit_at-footprint}

-- ---- in the ordered cut-out

-- what a clear makes of the bit b at i
abbrev pub clears_to : Cut → ℕ → ℕ → ℕ
clears_to c i b = cond (eqb (owned_at c i) 1) 0 b

-- w: the bit is one of the field's; m: the field owns it
clear_bit : (w : Bool) (m b : ℕ) → m < 2 → b < 2 → cond w (min b (1 - m)) b ≡ cond (eqb (cond w m 0) 1) 0 b
clear_bit false m b lm lb = refl
clear_bit true zero b lm lb = omega arith
clear_bit true (suc zero) b lm lb = omega arith
clear_bit true (suc (suc m)) b lm lb = absurd (omega arith)

pub pointwise_cleared : (c : Cut) → Pointwise (cut_bytes c.pos c.size) (cleared c.mask c.size c.pos) (clears_to c)
unfolding cleared overlaid
pointwise_cleared c =
    pointwise_packed _ (λ ys k. cond (within c.size c.pos k) (min (bit_at ys k) (1 - owned_bit c.mask (k - c.pos))) (bit_at ys k)) (clears_to c)
    (λ ys k. bits_cond (within c.size c.pos k) (omega (arith, bit_at_lt ys k)) (bit_at_lt ys k))
    (λ ys k. clear_bit (within c.size c.pos k) (owned_bit c.mask (k - c.pos)) (bit_at ys k) (owned_bit-lt c.mask (k - c.pos)) (bit_at_lt ys k))

-- ---- by place in the payload

-- t: the bit is in the cut-out; m: it is owned
at_place : (t : Bool) (m x : ℕ) → cond t (cond (eqb m 1) 0 x) x ≡ cond (eqb (cond t m 0) 1) 0 x
at_place true m x = refl
at_place false m x = refl

module _ (c : Cut) (xs : List ℕ) (h : Inside c (length xs)) where
  pub length_cleared_in : length (cleared_in c xs) ≡ length xs
  length_cleared_in = length-in_cut_out c.order c.at (cut_bytes c.pos c.size) (cleared c.mask c.size c.pos) (clears_to c) (pointwise_cleared c) xs h

  pub bytes_cleared_in : Bytes xs → Bytes (cleared_in c xs)
  bytes_cleared_in = bytes_in_cut_out c.order c.at (cut_bytes c.pos c.size) (cleared c.mask c.size c.pos) (clears_to c) (pointwise_cleared c) xs h

  -- a clear leaves what is not owned, and owned bits are zero
  pub clear_law : (k : ℕ) → k < 8 * length xs → bit_at (cleared_in c xs) k ≡ after_clear c (length xs) xs k
  unfolding owns
  clear_law k l =
      rw (bit_at-footprint c (length xs) h k l)
      (bit_at-in_cut c (cleared c.mask c.size c.pos) (clears_to c) (pointwise_cleared c) xs h k l
      ∙ at_place (holds c (length xs) k) (owned_at c (stands_at c (length xs) k)) (bit_at xs k))
