-- How the code tells where a field's bits are; no part of RULES.
use Rattle.std.specs.Prelude.{ℕ, Result, Ok, Err}
use Rattle.kinds.specs.declared.refusals.PosInfo.{PosInfo}
use Rattle.kinds.specs.declared.refusals.Failure.{Failure}
use Rattle.kinds.specs.declared.refusals.Failure.TheVariants.{NotEnoughData, Refused}
use Rattle.kinds.specs.Outcomes.{Outcome, gives, lacks, refuses}

-- so many bits from a byte position on
pub record Span : Type 0 where
  pub start : ℕ
  pub bits : ℕ

abbrev pub span : ℕ → ℕ → Span
span start bits = record { start = start; bits = bits }

abbrev pub outcome_of_search : Result PosInfo Failure → Outcome Span
outcome_of_search (Ok found) = gives (span found.start_pos found.bit_len.0)
outcome_of_search (Err (NotEnoughData expected actual)) = lacks expected actual
outcome_of_search (Err (Refused r)) = refuses r
