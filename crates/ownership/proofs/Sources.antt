-- What a Standard field writes is bits, and zero under mask zeros.
use Rattle.std.proofs.Common.{◌≡◌, ◌∙◌, not, ◌&&◌, List, ℕ, ◌*◌, ◌%◌, ◌<◌, arith, length, eqb, ltb, leb}
use Rattle.kinds.specs.declared.types.DataType.{DataType}
use Rattle.kinds.specs.Types.{bytes_for}
use Rattle.bits.specs.Bits.{bit_at}
use Rattle.bits.proofs.Numbers.{Bits}
use Rattle.bits.proofs.Bytes.{bit_at_in, bit_at_lt}
use Rattle.bits.proofs.Moves.{bits_cond}
use Rattle.masks.specs.Mask.{Mask, no_mask, plain_mask, condensed_mask}
use Rattle.masks.specs.Plain.{bit_of_mask}
use Rattle.condensed.specs.Condensed.{replaced}
use Rattle.condensed.proofs.Replaced.{bits_replaced}
use Rattle.pack.specs.Source.{aligned, standard_bits, standard_bits_under, size_under}
use Rattle.cutout.specs.CutOut.{owned_bit}
use Rattle.ownership.specs.Ownership.{Cut}
use Rattle.ownership.proofs.Writes.{Writable}

-- below its last bit a mask does not repeat
mask_bit_in : (mask : List ℕ) (i : ℕ) → i < 8 * length mask → bit_at mask i ≡ bit_of_mask mask i
unfolding bit_of_mask
mask_bit_in mask i l = bit_at_in mask i (omega arith)

bits_standard : (t : DataType) (len : ℕ) (input : List ℕ) → Bits (standard_bits t len input)
unfolding standard_bits
bits_standard t len input i =
    bits_cond (not (eqb (len % 8) 0) && (leb (len % 8) i && ltb i 8)) (omega arith) (bit_at_lt (aligned t (bytes_for len) input) i)

bits_under : (mask : Mask) (t : DataType) (len : ℕ) (input : List ℕ) → Bits (standard_bits_under mask t len input)
bits_under no_mask t len input i = bits_standard t len input i
bits_under (plain_mask mask) t len input i = omega (arith, bits_standard t len input i)
bits_under (condensed_mask mask) t len input i = bits_replaced mask input i

standard_under : (mask : Mask) (t : DataType) (len : ℕ) (input : List ℕ) (i : ℕ) → i < size_under mask len → owned_bit mask i ≡ 0 → standard_bits_under mask t len input i ≡ 0
unfolding replaced
standard_under no_mask t len input i l e = absurd (omega arith)
standard_under (plain_mask mask) t len input i l e = omega arith
standard_under (condensed_mask mask) t len input i l e = rw (mask_bit_in mask i l ∙ e)

-- what a Standard field writes may be written where its mask and its size put it
pub standard_writable : (c : Cut) (t : DataType) (len : ℕ) (input : List ℕ) → c.size ≡ size_under c.mask len → Writable c (standard_bits_under c.mask t len input)
standard_writable c t len input e =
    record { zero_one = bits_under c.mask t len input; under_zeros = λ i l z. standard_under c.mask t len input i (rw e at l) z }
