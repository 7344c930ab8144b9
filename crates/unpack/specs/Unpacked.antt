-- RULES 5.1 to 5.4: what is taken from a field's ordered bytes, under its mask.
use Rattle.std.specs.Prelude.{ℕ, ◌+◌, ◌*◌, List, [], ◌∷◌, length, ltb}
use Rattle.kinds.specs.declared.refusals.Refusal.TheVariants.{BitPositionAboveSeven, BitsPastCut}
use Rattle.kinds.specs.Outcomes.{rule, first_among, Outcome, gives, after}
use Rattle.bits.specs.Bits.{bit_at}
use Rattle.bits.specs.Moves.{from, extracted}
use Rattle.masks.specs.declared.plain.Kept.TheVariants.{UnderOnes}
use Rattle.masks.specs.Mask.{Mask, no_mask, plain_mask, condensed_mask}
use Rattle.masks.specs.Plain.{masked}
use Rattle.condensed.specs.Condensed.{condensed_count, condensed}
use Rattle.unpack.specs.Found.{Found, found}
use Rattle.kinds.specs.Answers.{Check}

-- 26: bit position above 7; 27: bit position + length above 8 x cut bytes
abbrev pub unpack_refusal : ℕ → ℕ → ℕ → Check
unpack_refusal len pos n =
    first_among
    (rule (ltb 7 pos) BitPositionAboveSeven
    ∷ rule (ltb (8 * n) (pos + len)) BitsPastCut
    ∷ [])

-- the bit count
abbrev pub bit_count_of : Mask → ℕ → ℕ
bit_count_of no_mask len = len
bit_count_of (plain_mask mask) len = len
bit_count_of (condensed_mask mask) len = condensed_count mask len

-- `len` bits from `pos`, right-aligned; a plain mask then keeps or clears, a condensed one gathers
unfoldable pub unpacked : Mask → ℕ → ℕ → List ℕ → List ℕ
unpacked no_mask len pos xs = extracted len pos xs
unpacked (plain_mask mask) len pos xs = masked UnderOnes len pos mask (extracted len pos xs)
unpacked (condensed_mask mask) len pos xs = condensed mask len (from pos (bit_at xs))

abbrev pub unpacked_found : Mask → ℕ → ℕ → List ℕ → Found
unpacked_found mask len pos xs = found (bit_count_of mask len) (unpacked mask len pos xs)

-- what is found in a cut of ordered bytes
abbrev pub found_in : Mask → ℕ → ℕ → List ℕ → Outcome Found
found_in mask len pos xs = after (unpack_refusal len pos (length xs)) (gives (unpacked_found mask len pos xs))
