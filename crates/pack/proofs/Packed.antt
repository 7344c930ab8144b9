-- Packed data are bits, also under a mask.
use Rattle.std.proofs.Common.{◌≡◌, ◌&&◌, List, ℕ, ◌-◌, ◌*◌, ◌%◌, arith, length, ltb, leb, bit_and}
use Rattle.bits.proofs.Numbers.{Bits, bit-lt, and_two}
use Rattle.bits.proofs.Bytes.{bit_at_lt}
use Rattle.bits.proofs.Moves.{bits_cond}
use Rattle.masks.specs.Mask.{Mask, no_mask, plain_mask, condensed_mask}
use Rattle.masks.specs.Plain.{bit_of_mask}
use Rattle.masks.proofs.Masked.{mask_bit-lt}
use Rattle.condensed.proofs.Replaced.{bits_replaced}
use Rattle.pack.specs.declared.Packing.{Packing}
use Rattle.pack.specs.CodePacking.{framed_bit, packed_bit, packed_bits_under}

bits_framed : (p : Packing) (xs : List ℕ) → Bits (framed_bit p xs)
unfolding framed_bit
bits_framed p xs i =
    bits_cond (ltb i (8 * p.tail_len.0)) (bit-lt p.tail (i % 8))
    (bits_cond (ltb (i - 8 * p.tail_len.0) (8 * length xs)) (bit_at_lt xs (i - 8 * p.tail_len.0))
    (bits_cond (ltb (i - 8 * p.tail_len.0 - 8 * length xs) 64) (bit-lt p.head (i - 8 * p.tail_len.0 - 8 * length xs)) (omega arith)))

bits_trimmed : (p : Packing) (xs : List ℕ) → Bits (packed_bit p xs)
unfolding packed_bit
bits_trimmed p xs i = bits_cond (ltb i 8 && leb p.last_bits.0 i) (omega arith) (bits_framed p xs i)

pub bits_packed : (mask : Mask) (p : Packing) (xs : List ℕ) → Bits (packed_bits_under mask p xs)
bits_packed no_mask p xs i = bits_trimmed p xs i
bits_packed (plain_mask mask) p xs i = omega (arith, bits_trimmed p xs i)
bits_packed (condensed_mask mask) p xs i = bits_replaced mask xs i

-- under a plain mask, as the code has it
pub under_plain : (p : Packing) (mask xs : List ℕ) (i : ℕ) → bit_and (packed_bit p xs i) (bit_of_mask mask i) ≡ packed_bits_under (plain_mask mask) p xs i
under_plain p mask xs i = and_two (packed_bit p xs i) (bit_of_mask mask i) (bits_trimmed p xs i) (mask_bit-lt mask i)
