-- RULES 9.1: a variant's code in a record, a termination's, and what such a code says.
use Rattle.std.specs.Prelude.{ℕ, cond, eqb, Option, Some, None}
use Rattle.coded.specs.declared.variants.Termination.{Termination}
use Rattle.coded.specs.declared.variants.Termination.TheVariants.{EndOfPdu, Zero, HexFF}
use Rattle.coded.specs.declared.variants.DiagCodedTypeVariant.{DiagCodedTypeVariant}
use Rattle.coded.specs.declared.variants.DiagCodedTypeVariant.TheVariants.{LeadingLengthInfo, MinMaxLength, StandardLength, ParamLengthInfo}

-- variant 1 to 4 in the order of RULES 2.2
abbrev pub variant_code : DiagCodedTypeVariant → ℕ
variant_code (LeadingLengthInfo bits) = 1
variant_code (MinMaxLength m) = 2
variant_code (StandardLength s) = 3
variant_code (ParamLengthInfo name) = 4

abbrev pub termination_code : Termination → ℕ
termination_code EndOfPdu = 1
termination_code Zero = 2
termination_code HexFF = 3

-- termination 1 to 3 for MinMax
abbrev pub termination_of : ℕ → Option Termination
termination_of code = cond (eqb code 1) (Some EndOfPdu) (cond (eqb code 2) (Some Zero) (cond (eqb code 3) (Some HexFF) None))
