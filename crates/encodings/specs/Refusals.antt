-- RULES 10, the numbers 59 and 60.
use Rattle.std.specs.Prelude.{ℕ, not, [], ◌∷◌, ℤ}
use Rattle.kinds.specs.declared.refusals.Refusal.TheVariants.{ValueOutOfRange, DigitAboveNine}
use Rattle.kinds.specs.Answers.{Check}
use Rattle.kinds.specs.Outcomes.{rule, first_among}
use Rattle.encodings.specs.declared.forms.Encoding.{Encoding}
use Rattle.encodings.specs.Meaning.{legal_digits}
use Rattle.encodings.specs.Writing.{in_range}

-- 59
abbrev pub range_refusal : Encoding → ℕ → ℤ → Check
range_refusal e width v = first_among (rule (not (in_range e width v)) ValueOutOfRange ∷ [])

-- 60
abbrev pub digit_refusal : Encoding → ℕ → ℕ → Check
digit_refusal e width pattern = first_among (rule (not (legal_digits e width pattern)) DigitAboveNine ∷ [])
