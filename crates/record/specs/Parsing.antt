-- RULES 9.2, 9.3: the coded type that the numbers of a record say, if they say one. What a variant lacks, or an unset
-- flag says is absent, is 0, other flag bits too.
use Rattle.std.specs.Prelude.{ℕ, Bool, cond, not, ◌||◌, ◌&&◌, List, length, eqb, Option, Some, None}
use Rattle.kinds.specs.declared.types.DataType.{DataType}
use Rattle.kinds.specs.Types.{type_of}
use Rattle.coded.specs.declared.variants.Termination.{Termination}
use Rattle.coded.specs.declared.variants.DiagCodedTypeVariant.{DiagCodedTypeVariant}
use Rattle.coded.specs.declared.variants.DiagCodedTypeVariant.TheVariants.{LeadingLengthInfo, MinMaxLength, StandardLength, ParamLengthInfo}
use Rattle.coded.specs.declared.coded_type.DiagCodedType.{DiagCodedType}
use Rattle.coded.specs.RecordCodes.{termination_of}
use Rattle.record.specs.declared.numbers.Numbers.{Numbers}
use Rattle.record.specs.Numbers.{record_size, numbers_of}

-- termination, max flag or max: of MinMax alone
abbrev pub has_limits : Numbers → Bool
has_limits n = not (eqb n.termination 0) || n.flags.max || not (eqb n.most 0)

-- mask flag or condensed flag: of Standard alone
abbrev pub has_mask : Numbers → Bool
has_mask n = n.flags.mask || n.flags.condensed

-- place or length of mask or key name
abbrev pub has_place : Numbers → Bool
has_place n = not (eqb n.place.at 0) || not (eqb n.place.len.0 0)

-- a variant, unless something stands where it has nothing
abbrev pub lacking : Bool → DiagCodedTypeVariant → Option DiagCodedTypeVariant
lacking something v = cond something None (Some v)

abbrev pub leading_of : Numbers → Option DiagCodedTypeVariant
leading_of n = lacking (has_limits n || has_mask n || has_place n) (LeadingLengthInfo (record { 0 = n.length }))

abbrev pub max_of : Numbers → Option ℕ
max_of n = cond n.flags.max (Some n.most) None

abbrev pub limits_of : Numbers → Termination → Option DiagCodedTypeVariant
limits_of n t =
    lacking (not n.flags.max && not (eqb n.most 0))
    (MinMaxLength (record { min_length = n.length; max_length = max_of n; termination = t }))

abbrev pub limits_by : Numbers → Option Termination → Option DiagCodedTypeVariant
limits_by n (Some t) = limits_of n t
limits_by n None = None

abbrev pub min_max_of : Numbers → Option DiagCodedTypeVariant
min_max_of n = cond (has_mask n || has_place n) None (limits_by n (termination_of n.termination))

-- condensed without a mask is legal
abbrev pub standard_of : Numbers → Option DiagCodedTypeVariant
standard_of n =
    lacking (has_limits n || (not n.flags.mask && has_place n))
    (StandardLength
    (record {
      bit_length = record { 0 = n.length };
      bit_mask = cond n.flags.mask (Some n.place) None;
      condensed = n.flags.condensed;
    }))

abbrev pub param_of : Numbers → Option DiagCodedTypeVariant
param_of n = lacking (has_limits n || has_mask n || not (eqb n.length 0)) (ParamLengthInfo n.place)

-- variant 1 to 4 in the order of RULES 2.2
abbrev pub variant_of : Numbers → Option DiagCodedTypeVariant
variant_of n =
    cond (eqb n.variant 1) (leading_of n)
    (cond (eqb n.variant 2) (min_max_of n)
    (cond (eqb n.variant 3) (standard_of n)
    (cond (eqb n.variant 4) (param_of n) None)))

abbrev pub made : Option DataType → Option DiagCodedTypeVariant → Bool → Option DiagCodedType
made (Some t) (Some v) high_low = Some (record { base_datatype = t; type_ = v; is_high_low_byte_order = high_low })
made (Some t) None high_low = None
made None v high_low = None

unfoldable pub coded_of : Numbers → Option DiagCodedType
coded_of n = cond (eqb n.flags.others 0) (made (type_of n.type_code) (variant_of n) n.flags.high_low) None

-- a record of another size is malformed too
abbrev pub coded_in : List ℕ → Option DiagCodedType
coded_in bytes = cond (eqb (length bytes) record_size) (coded_of (numbers_of bytes)) None
