-- RULES 2.3: a coded type built through `MinMaxLengthType::new` and then `new`.
use Rattle.std.specs.Prelude.{ℕ, Bool, Option}
use Rattle.kinds.specs.declared.types.DataType.{DataType}
use Rattle.coded.specs.declared.variants.Termination.{Termination}
use Rattle.coded.specs.declared.variants.MinMaxLengthType.{MinMaxLengthType}
use Rattle.coded.specs.declared.variants.DiagCodedTypeVariant.{DiagCodedTypeVariant}
use Rattle.coded.specs.declared.coded_type.DiagCodedType.{DiagCodedType}
use Rattle.coded.specs.Refusals.{min_max_refusal, coded_type_refusal}
use Rattle.kinds.specs.Outcomes.{Outcome, gives, after}

abbrev pub new_min_max : ℕ → Option ℕ → Termination → Outcome MinMaxLengthType
new_min_max min max t = after (min_max_refusal min max) (gives (record { min_length = min; max_length = max; termination = t }))

abbrev pub new_coded_type : DataType → DiagCodedTypeVariant → Bool → Outcome DiagCodedType
new_coded_type t v high_low =
    after (coded_type_refusal t v) (gives (record { base_datatype = t; type_ = v; is_high_low_byte_order = high_low }))
