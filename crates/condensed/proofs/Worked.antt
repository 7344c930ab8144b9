-- Worked examples of condensed masks, as one table that the checker computes. Letters are the bench cases of RULES 13.
use Rattle.std.proofs.Common.{◌≡◌, refl, true, List, [], ◌∷◌}
use lib.Count.{ones, ones_in}
use Rattle.kinds.proofs.Examples.{Example, hold, ◌is◌}
use Rattle.bits.specs.Bits.{bit, bit_at, number, packed}
use Rattle.bits.specs.Moves.{injected}
use Rattle.condensed.specs.Condensed.{front_bit, ones_below, gathered, condensed_count, condensed, replacement, replaced}
use Rattle.condensed.specs.Gathered.{ones_met}

examples : List Example
examples =
    -- i: gathered through a condensed mask, and put back to its ones
    (condensed (0xF0 ∷ []) 8 (bit_at (0xA5 ∷ [])) is (0x0A ∷ []))
    ∷ (injected 8 0 (replaced (0xF0 ∷ []) (0x0A ∷ [])) (0x05 ∷ []) is (0xA5 ∷ []))
    -- j: no one of the mask is met within 4 bits, and a byte is given for those that it has
    ∷ (condensed (0xF0 ∷ []) 4 (bit_at (0x0F ∷ [])) is (0x00 ∷ []))
    ∷ ((ones_met (0xF0 ∷ []) 4 ∷ []) is (0 ∷ []))
    -- k: 1 one is met and the mask has 17, so a byte is dropped and 16 bits are counted; and ones that no input is left for
    ∷ (condensed (0x00 ∷ 0x01 ∷ 0xFF ∷ 0xFF ∷ []) 16 (bit_at (0x00 ∷ 0x01 ∷ [])) is (0x01 ∷ []))
    ∷ ((condensed_count (0x00 ∷ 0x01 ∷ 0xFF ∷ 0xFF ∷ []) 16 ∷ []) is (16 ∷ []))
    ∷ ((ones_met (0x00 ∷ 0x01 ∷ 0xFF ∷ 0xFF ∷ []) 16 ∷ []) is (1 ∷ []))
    ∷ (injected 16 0 (replaced (0xFF ∷ 0xFF ∷ []) (0x12 ∷ [])) (0x00 ∷ 0x00 ∷ []) is (0xFF ∷ 0x12 ∷ []))
    -- 16 bits are gathered and 24 counted: of three bytes two are dropped, with gathered bits in them
    ∷ (condensed (0x00 ∷ 0xFF ∷ 0xFF ∷ 0xFF ∷ 0xFF ∷ []) 24 (bit_at (0x11 ∷ 0x22 ∷ 0x33 ∷ [])) is (0x33 ∷ []))
    ∷ ((ones_met (0x00 ∷ 0xFF ∷ 0xFF ∷ 0xFF ∷ 0xFF ∷ []) 24 ∷ []) is (16 ∷ []))
    -- a mask longer than the result is met in front, and a shorter one meets no last byte
    ∷ ((ones_met (0xF0 ∷ 0xFF ∷ []) 8 ∷ []) is (4 ∷ []))
    ∷ ((ones_met (0xFF ∷ []) 12 ∷ []) is (4 ∷ []))
    -- an empty mask has no ones, so there are no bits and no bytes
    ∷ (condensed [] 8 (bit_at (0xFF ∷ [])) is [])
    ∷ ((ones_met [] 8 ∷ []) is (0 ∷ []))
    ∷ []

all_hold : hold examples ≡ true
unfolding examples bit bit_at number packed injected front_bit gathered ones ones_in condensed ones_below replacement replaced
all_hold = refl
