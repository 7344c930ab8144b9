-- How many bytes are taken from a field's cut.
use Rattle.std.proofs.Common.{◌≡◌, sym, ap, ◌∙◌, List, ℕ, ◌≤◌, length, take, length-take-le, Option, Some, None}
use Rattle.std.specs.Borrow.{Bor}
use Rattle.kinds.specs.Types.{bytes_for}
use Rattle.kinds.specs.declared.types.ByteOrder.{ByteOrder}
use Rattle.order.specs.Order.{ordered}
use Rattle.order.proofs.Index.{length-ordered}
use Rattle.bits.specs.Bits.{bit_at, packed}
use Rattle.bits.specs.Moves.{from, extracted}
use Rattle.bits.proofs.Moves.{length-extracted, length-overlaid}
use Rattle.masks.specs.Mask.{plain_of, condensed_mask}
use Rattle.condensed.specs.Condensed.{picked, bits_of, condensed_bytes}
use Rattle.condensed.proofs.Size.{condensed-packed, length-condensed}
use Rattle.unpack.specs.Unpacked.{unpacked}

-- turning bytes leaves their count
pub length_turned : (o : ByteOrder) (xs : List ℕ) → length (ordered o xs) ≡ length xs
length_turned o xs = length-ordered o xs

pub length_plain : (mask : Option (Bor (List ℕ))) (len pos : ℕ) (xs : List ℕ) → length (unpacked (plain_of mask) len pos xs) ≡ bytes_for len
unfolding unpacked
length_plain (Some mask) len pos xs = length-overlaid _ _ (extracted len pos xs) ∙ length-extracted len pos xs
length_plain None len pos xs = length-extracted len pos xs

-- the size of a condensed reading does not depend on the field's bits
pub length_condensed_field : (mask : List ℕ) (len pos : ℕ) (xs : List ℕ) → length (unpacked (condensed_mask mask) len pos xs) ≡ condensed_bytes mask len
unfolding unpacked
length_condensed_field mask len pos xs = length-condensed mask len (from pos (bit_at xs)) ∙ sym (length-condensed mask len (λ k. 0))

-- and what is gathered into so many bytes of an output is that reading
pub gathered_is : (mask : List ℕ) (len pos : ℕ) (xs output : List ℕ) (n : ℕ) → n ≤ length output → n ≡ condensed_bytes mask len
    → packed (length (take n output)) (bits_of (picked mask len (from pos (bit_at xs)))) ≡ unpacked (condensed_mask mask) len pos xs
unfolding unpacked
gathered_is mask len pos xs output n room e =
    ap (λ (m : ℕ). packed m (bits_of (picked mask len (from pos (bit_at xs))))) (length-take-le n output room ∙ e ∙ length-condensed mask len (λ k. 0))
    ∙ condensed-packed mask len (from pos (bit_at xs))
