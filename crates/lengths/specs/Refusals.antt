-- RULES 11.8 to 11.12: what encode and clear refuse for a variant's sake, before 26 and 40 or 30.
use Rattle.std.specs.Prelude.{ℕ, ◌*◌, ◌^◌, Bool, true, false, ◌&&◌, [], ◌∷◌, length, eqb, ltb, leb}
use Rattle.kinds.specs.declared.types.DataType.{DataType}
use Rattle.kinds.specs.declared.refusals.Refusal.TheVariants.{LengthFieldTooWide, CountTooLarge, EmptyUntilEndOfPdu, MaskLongerThanLength, EmptyLengthField}
use Rattle.kinds.specs.Answers.{Check}
use Rattle.kinds.specs.Outcomes.{rule, first_among, or_else}
use Rattle.kinds.specs.Refusals.{bit_length_refusal}
use Rattle.coded.specs.declared.variants.Termination.{Termination}
use Rattle.coded.specs.declared.variants.Termination.TheVariants.{EndOfPdu, Zero, HexFF}
use Rattle.masks.specs.Mask.{Mask, no_mask, plain_mask, condensed_mask}

-- the bits of a condensed mask: 8 x its bytes
abbrev pub condensed_bits : Mask → ℕ
condensed_bits no_mask = 0
condensed_bits (plain_mask mask) = 0
condensed_bits (condensed_mask mask) = 8 * length mask

-- Standard: 21 to 25, 36
abbrev pub standard_refusal : DataType → ℕ → Mask → Check
standard_refusal t len mask = or_else (bit_length_refusal t len) (first_among (rule (ltb len (condensed_bits mask)) MaskLongerThanLength ∷ []))

-- Leading, with n bytes of input: 33, 32, 38
abbrev pub count_refusal : ℕ → ℕ → Check
count_refusal bits n =
    first_among
    (rule (ltb bits 64 && leb (2 ^ bits) n) CountTooLarge
    ∷ rule (ltb 64 bits) LengthFieldTooWide
    ∷ rule (eqb bits 0 && eqb n 0) EmptyLengthField
    ∷ [])

abbrev pub until_end_of_pdu : Termination → Bool
until_end_of_pdu EndOfPdu = true
until_end_of_pdu Zero = false
until_end_of_pdu HexFF = false

-- MinMax, with n bytes of input: 35
abbrev pub empty_refusal : Termination → ℕ → Check
empty_refusal t n = first_among (rule (until_end_of_pdu t && eqb n 0) EmptyUntilEndOfPdu ∷ [])
