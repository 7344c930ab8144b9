-- Without a mask all bits of a length are owned, and a mask of ones clears them.
use Rattle.std.proofs.Common.{◌≡◌, ap, ◌∙◌, cond, List, [], ◌∷◌, ℕ, ◌-◌, ◌/◌, ◌%◌, min, arith, length}
use Rattle.bits.specs.Bits.{bit_at}
use Rattle.bits.specs.Moves.{within, overlaid}
use Rattle.bits.proofs.Numbers.{bit_not, bit_of_zero}
use Rattle.bits.proofs.Bytes.{packed_ext}
use Rattle.masks.specs.declared.plain.Kept.TheVariants.{UnderZeros}
use Rattle.masks.specs.Mask.{no_mask}
use Rattle.masks.specs.Plain.{bit_of_mask, masked}
use Rattle.cutout.specs.CutOut.{cleared}

-- a mask of one byte FF has ones alone: without a mask all bits are owned
ones : (i : ℕ) → bit_of_mask (0xFF ∷ []) i ≡ 1
unfolding bit_of_mask
ones i =
    let first : 1 - 1 - i / 8 ≡ 0 = omega arith in
    rw first (bit_not 8 0 (i % 8) (omega arith) (omega arith) ∙ ap (λ (b : ℕ). 1 - b) (bit_of_zero (i % 8)))

pub all_cleared : (len pos : ℕ) (xs : List ℕ) → masked UnderZeros len pos (0xFF ∷ []) xs ≡ cleared no_mask len pos xs
unfolding cleared overlaid
all_cleared len pos xs =
    packed_ext (length xs) (λ k. cond (within len pos k) (min (bit_at xs k) (1 - bit_of_mask (0xFF ∷ []) (k - pos))) (bit_at xs k))
    (λ k. cond (within len pos k) (min (bit_at xs k) (1 - 1)) (bit_at xs k)) (λ k l. rw (ones (k - pos)))
