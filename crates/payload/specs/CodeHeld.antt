-- A payload as the code has it.
use Rattle.std.specs.Prelude.{◌≡◌, length}
use Rattle.kinds.specs.Answers.{Writing, report_of_writing}
use Rattle.kinds.specs.Outcomes.{Outcome, answer}
use Rattle.payload.specs.declared.held.Payload as code
use Rattle.payload.specs.Payload.{Payload, payload_of, write_answer}

-- what it holds
abbrev pub held : code.Payload → Payload
held p = payload_of p.bytes.now p.used

-- it is the same slice that was lent, and as long
abbrev pub SameSlice : code.Payload → code.Payload → Type 0
SameSlice old new = (new.bytes.ghost_name ≡ old.bytes.ghost_name) × (length new.bytes.now ≡ length old.bytes.now)

-- a write: it answers what is made or refused, and leaves that in the same slice
abbrev pub Writes : Writing → code.Payload → code.Payload → Outcome Payload → Type 0
Writes result old new made = SameSlice old new × (answer (report_of_writing result) (held new) ≡ write_answer (held old) made)

-- a clear: a write that leaves as many bytes used
abbrev pub Clears : Writing → code.Payload → code.Payload → Outcome Payload → Type 0
Clears result old new made = Writes result old new made × (new.used ≡ old.used)
