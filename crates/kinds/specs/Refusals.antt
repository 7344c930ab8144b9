-- RULES 10, the numbers 20 to 25, in the order of RULES 11.
use Rattle.std.specs.Prelude.{ℕ, ◌%◌, not, ◌&&◌, [], ◌∷◌, eqb, ltb}
use Rattle.kinds.specs.declared.types.DataType.{DataType}
use Rattle.kinds.specs.declared.types.DataType.TheVariants.{Int32, UInt32, Float32, Float64}
use Rattle.kinds.specs.declared.refusals.Refusal.TheVariants.{ByteTypeAtBitPosition, ZeroBitLength, IntegerTooLong, Float32Length, Float64Length, UnicodeLength}
use Rattle.kinds.specs.Answers.{Check}
use Rattle.kinds.specs.Types.{among, is_byte_type, is_unicode_type}
use Rattle.kinds.specs.Outcomes.{rule, first_among}

-- 20: byte type, bit position not 0
abbrev pub bit_position_refusal : DataType → ℕ → Check
bit_position_refusal t bit_pos = first_among (rule (is_byte_type t && not (eqb bit_pos 0)) ByteTypeAtBitPosition ∷ [])

-- 21 to 25
abbrev pub bit_length_refusal : DataType → ℕ → Check
bit_length_refusal t bits =
    first_among
    (rule (eqb bits 0) ZeroBitLength
    ∷ rule (among t (Int32 ∷ UInt32 ∷ []) && ltb 64 bits) IntegerTooLong
    ∷ rule (among t (Float32 ∷ []) && not (eqb bits 32)) Float32Length
    ∷ rule (among t (Float64 ∷ []) && not (eqb bits 64)) Float64Length
    ∷ rule (is_unicode_type t && not (eqb (bits % 16) 0)) UnicodeLength
    ∷ [])
