-- How the code tells what bits say; no part of RULES.
use Rattle.std.specs.Prelude.{ℕ, ◌-◌, ◌^◌, ℤ, Result, Ok, Err}
use Rattle.kinds.specs.declared.refusals.Refusal.{Refusal}
use Rattle.kinds.specs.Outcomes.{Outcome, gives, refuses}
use Rattle.numerals.specs.declared.signed.Signed.{Signed}
use Rattle.numerals.specs.CodeSigned.{integer}
use Rattle.encodings.specs.declared.forms.Encoding.{Encoding}
use Rattle.encodings.specs.declared.forms.Encoding.TheVariants.{TwosComplement, OnesComplement, SignMagnitude, PackedDecimal}

-- of a number below zero the bits under the highest and the magnitude tell each other by one rule
abbrev pub opposite_of : Encoding → ℕ → ℕ → ℕ
opposite_of TwosComplement width n = 2 ^ (width - 1) - n
opposite_of OnesComplement width n = 2 ^ (width - 1) - 1 - n
opposite_of SignMagnitude width n = n
opposite_of PackedDecimal width n = 0

abbrev pub outcome_of_said : Result Signed Refusal → Outcome ℤ
outcome_of_said (Ok s) = gives (integer s)
outcome_of_said (Err r) = refuses r
