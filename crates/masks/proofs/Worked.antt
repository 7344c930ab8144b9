-- Worked examples of bits, order and plain masks, as one table that the checker computes. Letters are the bench cases of RULES 13.
use Rattle.std.proofs.Common.{◌≡◌, refl, true, List, [], ◌∷◌}
use Rattle.kinds.proofs.Examples.{Example, hold, ◌is◌}
use Rattle.kinds.specs.declared.types.ByteOrder.TheVariants.{ReorderPairs, Reverse}
use Rattle.order.specs.Order.{ordered, swap_pairs}
use Rattle.bits.specs.Bits.{bit, bit_at, number, packed}
use Rattle.bits.specs.Moves.{extracted, injected, overlaid}
use Rattle.masks.specs.declared.plain.Kept.TheVariants.{UnderOnes, UnderZeros}
use Rattle.masks.specs.Plain.{bit_of_mask, masked}

examples : List Example
examples =
    -- b: 16 bits low-high; and three bytes of text of two bytes to a character
    (extracted 16 0 (ordered Reverse (0x12 ∷ 0x34 ∷ [])) is (0x34 ∷ 0x12 ∷ []))
    ∷ (ordered ReorderPairs (0x41 ∷ 0x00 ∷ 0x42 ∷ []) is (0x00 ∷ 0x41 ∷ 0x42 ∷ []))
    -- c: 4 bits at bit 4
    ∷ (extracted 4 4 (0xA5 ∷ []) is (0x0A ∷ []))
    -- d: 8 bits at bit 4, written; and the same low-high, where the whole cut-out turns
    ∷ (injected 8 4 (bit_at (0xFF ∷ [])) (0x00 ∷ 0x00 ∷ []) is (0x0F ∷ 0xF0 ∷ []))
    ∷ (ordered Reverse (injected 8 4 (bit_at (0xFF ∷ [])) (ordered Reverse (0x00 ∷ 0x00 ∷ []))) is (0xF0 ∷ 0x0F ∷ []))
    -- f: a write ORs; under a plain mask it takes the place of what was there
    ∷ (injected 8 0 (bit_at (0x01 ∷ [])) (0xF0 ∷ []) is (0xF1 ∷ []))
    ∷ (injected 8 0 (bit_at (masked UnderOnes 8 0 (0x0F ∷ []) (0xA5 ∷ []))) (masked UnderZeros 8 0 (0x0F ∷ []) (0x33 ∷ [])) is (0x35 ∷ []))
    -- g: a short mask repeats its first byte
    ∷ (masked UnderOnes 16 0 (0x0F ∷ []) (0xFF ∷ 0xFF ∷ []) is (0x0F ∷ 0x0F ∷ []))
    -- h: the mask meets the result from the bit position on; and an empty one leaves what is below it
    ∷ (masked UnderOnes 4 4 (0x00 ∷ []) (extracted 4 4 (0xF0 ∷ [])) is (0x0F ∷ []))
    ∷ (masked UnderOnes 4 2 [] (extracted 4 2 (0xFF ∷ [])) is (0x03 ∷ []))
    ∷ []

all_hold : hold examples ≡ true
unfolding examples ordered swap_pairs bit bit_at number packed extracted injected overlaid bit_of_mask
all_hold = refl
