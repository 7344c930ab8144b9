-- RULES 1.2: a payload to be written is a slice with a used length.
use Rattle.std.specs.Prelude.{ℕ, List}
use Rattle.kinds.specs.Answers.{wrote}
use Rattle.kinds.specs.Outcomes.{Outcome, Answer, answer, concluded}

pub record Payload : Type 0 where
  pub bytes : List ℕ
  pub used : ℕ

abbrev pub payload_of : List ℕ → ℕ → Payload
payload_of bytes used = record { bytes = bytes; used = used }

-- the answer of an encode or a clear: every byte of the payload and the used length are as they came, or those that were made
abbrev pub write_answer : Payload → Outcome Payload → Answer Payload
write_answer p = concluded p (answer wrote)
