-- Bits under a plain mask: what the code reads of it, and the bit that a loop comes to.
use Rattle.std.proofs.Common.{◌≡◌, ap, ◌∙◌, true, List, ℕ, ◌+◌, ◌-◌, ◌*◌, ◌/◌, ◌%◌, ◌<◌, arith, length, get_or, bit_and}
use lib.ListN.{get_or-eq_default}
use Rattle.bits.specs.Bits.{bit_at, or_bit}
use Rattle.bits.specs.Moves.{within}
use Rattle.bits.proofs.Numbers.{Bits, bit-lt, bit_of_zero, and_two}
use Rattle.bits.proofs.Bytes.{bit_at_lt}
use Rattle.bits.proofs.Moves.{within_out, bit_at-overlaid}
use Rattle.bits.proofs.Steps.{overlaid_step}
use Rattle.masks.specs.declared.plain.Kept.{Kept}
use Rattle.masks.specs.declared.plain.Kept.TheVariants.{UnderOnes, UnderZeros}
use Rattle.masks.specs.Plain.{bit_of_mask, keeps, kept_bit, masked}

pub mask_bit_empty : (mask : List ℕ) (i : ℕ) → length mask ≡ 0 → bit_of_mask mask i ≡ 0
unfolding bit_of_mask
mask_bit_empty mask i e =
    let none : get_or mask (length mask - 1 - i / 8) 0 ≡ 0 = get_or-eq_default mask 0 (omega arith) in
    rw none (bit_of_zero (i % 8))

pub mask_bit-lt : (mask : List ℕ) (i : ℕ) → bit_of_mask mask i < 2
unfolding bit_of_mask
mask_bit-lt mask i = bit-lt (get_or mask (length mask - 1 - i / 8) 0) (i % 8)

pub keeps-lt : (kept : Kept) (mask : List ℕ) (i : ℕ) → keeps kept (bit_of_mask mask i) < 2
keeps-lt UnderOnes mask i = mask_bit-lt mask i
keeps-lt UnderZeros mask i = omega arith

pub bits_kept_bit : (kept : Kept) (pos : ℕ) (mask xs : List ℕ) → Bits (kept_bit kept pos mask xs)
bits_kept_bit kept pos mask xs k = omega (arith, bit_at_lt xs k)

-- the bit that a loop comes to is as it was, so what it writes there is the bit that is left
pub masked_step : (kept : Kept) (pos i : ℕ) (mask xs ys : List ℕ) → pos + i < 8 * length xs → ys ≡ masked kept i pos mask xs
    → or_bit true ys (pos + i) (bit_and (bit_at ys (pos + i)) (keeps kept (bit_of_mask mask i))) ≡ masked kept (i + 1) pos mask xs
masked_step kept pos i mask xs ys l e =
    let new : ℕ → ℕ = kept_bit kept pos mask xs in
    let bits = bits_kept_bit kept pos mask xs in
    let back : pos + i - pos ≡ i = omega arith in
    let old : bit_at ys (pos + i) ≡ bit_at xs (pos + i) =
    ap (λ (zs : List ℕ). bit_at zs (pos + i)) e ∙ bit_at-overlaid (within i pos) new xs bits (pos + i) l ∙ rw (within_out i pos (pos + i) (omega arith)) in
    let here : bit_and (bit_at ys (pos + i)) (keeps kept (bit_of_mask mask i)) ≡ new (pos + i) =
    rw (old, back) (and_two (bit_at xs (pos + i)) (keeps kept (bit_of_mask mask i)) (bit_at_lt xs (pos + i)) (keeps-lt kept mask i)) in
    rw here (overlaid_step pos i new xs ys bits e)
