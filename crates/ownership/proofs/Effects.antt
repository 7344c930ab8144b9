-- RULES 7 and 8: what a write and a clear make of a payload that reaches past the cut-out, and of each bit of it. The laws
-- speak of these; demand 3's statement does not need them.
use Rattle.std.proofs.Common.{ℕ, max, cond, List}
use Rattle.bits.specs.Bits.{bit_at}
use Rattle.bits.specs.Moves.{first, raised}
use Rattle.masks.specs.Mask.{Mask, no_mask, plain_mask, condensed_mask}
use Rattle.pack.specs.Source.{Source}
use Rattle.cutout.specs.CutOut.{cleared, put}
use Rattle.ownership.specs.Ownership.{Cut, in_cut, laid, owns}

-- ---- as a whole

abbrev pub source_for : Cut → (ℕ → ℕ) → Source
source_for c bits = record { size = c.size; bits = bits; mask = c.mask }

abbrev pub written_in : Cut → (ℕ → ℕ) → List ℕ → List ℕ
written_in c bits xs = in_cut c (put (source_for c bits) c.pos) xs

abbrev pub cleared_in : Cut → List ℕ → List ℕ
cleared_in c xs = in_cut c (cleared c.mask c.size c.pos) xs

-- ---- bit by bit

-- bit i of the source belongs at bit pos+i of the ordered cut-out
abbrev pub source_at : Cut → (ℕ → ℕ) → ℕ → ℕ
source_at c bits = raised c.pos (first c.size bits)

-- the source's bits in n zero bytes, each at its place
unfoldable pub imprint : Cut → (ℕ → ℕ) → ℕ → List ℕ
imprint c bits n = laid c (source_at c bits) n

-- what a write leaves of an owned bit before the source comes: under a mask nothing, and without one what was there
abbrev pub left : Mask → ℕ → ℕ
left no_mask old = old
left (plain_mask mask) old = 0
left (condensed_mask mask) old = 0

-- a write: the source's bits are ORed into what is left
abbrev pub after_write : Cut → (ℕ → ℕ) → ℕ → List ℕ → ℕ → ℕ
after_write c bits n xs k = max (cond (owns c n k) (left c.mask (bit_at xs k)) (bit_at xs k)) (bit_at (imprint c bits n) k)

-- a clear: owned bits are zero, and the others stay
abbrev pub after_clear : Cut → ℕ → List ℕ → ℕ → ℕ
after_clear c n xs k = cond (owns c n k) 0 (bit_at xs k)
