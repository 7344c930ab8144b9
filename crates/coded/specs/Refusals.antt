-- RULES 10, the numbers 10 to 13: 12 and 13 of the limits, then 10 and 11 of the coded type.
use Rattle.std.specs.Prelude.{ℕ, ◌%◌, Bool, true, false, not, ◌&&◌, [], ◌∷◌, eqb, ltb, Option, Some, None}
use Rattle.kinds.specs.declared.types.DataType.{DataType}
use Rattle.kinds.specs.declared.refusals.Refusal.TheVariants.{NumericWithVariableLength, OddUnicodeLimits, ZeroMaximum, MaximumBelowMinimum}
use Rattle.kinds.specs.Answers.{Check, passed}
use Rattle.coded.specs.declared.variants.MinMaxLengthType.{MinMaxLengthType}
use Rattle.coded.specs.declared.variants.DiagCodedTypeVariant.{DiagCodedTypeVariant}
use Rattle.coded.specs.declared.variants.DiagCodedTypeVariant.TheVariants.{LeadingLengthInfo, MinMaxLength, StandardLength, ParamLengthInfo}
use Rattle.coded.specs.declared.coded_type.DiagCodedType.{DiagCodedType}
use Rattle.kinds.specs.Types.{is_numeric, is_unicode_type}
use Rattle.kinds.specs.Outcomes.{rule, first_among, or_else}

-- there is a maximum, and the test holds of it
abbrev pub some_max : (ℕ → Bool) → Option ℕ → Bool
some_max test (Some n) = test n
some_max test None = false

abbrev pub even : ℕ → Bool
even n = eqb (n % 2) 0

-- 12, 13: max is 0; max below min
abbrev pub min_max_refusal : ℕ → Option ℕ → Check
min_max_refusal min max =
    first_among
    (rule (some_max (λ n. eqb n 0) max) ZeroMaximum
    ∷ rule (some_max (λ n. ltb n min) max) MaximumBelowMinimum
    ∷ [])

-- LeadingLengthInfo or MinMaxLength
abbrev pub finds_its_length : DiagCodedTypeVariant → Bool
finds_its_length (LeadingLengthInfo bits) = true
finds_its_length (MinMaxLength m) = true
finds_its_length (StandardLength s) = false
finds_its_length (ParamLengthInfo name) = false

-- min and max are even, and there is a max
abbrev pub even_limits : MinMaxLengthType → Bool
even_limits m = even m.min_length && some_max even m.max_length

-- MinMaxLength with min odd, max odd or max missing
abbrev pub odd_limits : DiagCodedTypeVariant → Bool
odd_limits (MinMaxLength m) = not (even_limits m)
odd_limits (LeadingLengthInfo bits) = false
odd_limits (StandardLength s) = false
odd_limits (ParamLengthInfo name) = false

-- 10, 11
abbrev pub coded_type_refusal : DataType → DiagCodedTypeVariant → Check
coded_type_refusal t v =
    first_among
    (rule (finds_its_length v && is_numeric t) NumericWithVariableLength
    ∷ rule (odd_limits v && is_unicode_type t) OddUnicodeLimits
    ∷ [])

-- 12, 13 of a variant that has limits
abbrev pub limits_refusal : DiagCodedTypeVariant → Check
limits_refusal (MinMaxLength m) = min_max_refusal m.min_length m.max_length
limits_refusal (LeadingLengthInfo bits) = passed
limits_refusal (StandardLength s) = passed
limits_refusal (ParamLengthInfo name) = passed

-- 12, 13, 10, 11 of a coded type, however it was made
abbrev pub made_refusal : DiagCodedType → Check
made_refusal t = or_else (limits_refusal t.type_) (coded_type_refusal t.base_datatype t.type_)
