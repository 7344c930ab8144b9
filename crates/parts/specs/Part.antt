-- RULES 6: the part of a payload that a read with a byte count given at run time hands back.
use Rattle.std.specs.Prelude.{◌≡◌, ℕ, ◌*◌, cond, not, ◌&&◌, List, [], length, eqb, ltb, Option, Some, None, Result, Ok, Err}
use Rattle.std.specs.Borrow.{Bor}
use Rattle.kinds.specs.declared.lent.Lent.{Lent}
use Rattle.kinds.specs.declared.refusals.Failure.{Failure}
use Rattle.kinds.specs.Answers.{read}
use Rattle.kinds.specs.Slices.{saturating_sum, cut, place_behind}
use Rattle.kinds.specs.Outcomes.{Outcome, gives, unless_short, Answer, answer, concluded}

-- 30 only; that part of the payload, unordered; count 0 gives the empty part at any position
abbrev pub runtime_part : List ℕ → ℕ → ℕ → Outcome (List ℕ)
runtime_part payload at count =
    unless_short (not (eqb count 0) && ltb (length payload) (saturating_sum at count)) (saturating_sum at count) (length payload)
    (gives (cut at count payload))

-- a part that is read and handed back; a refusal hands back the empty part
abbrev pub part_answer : Outcome (List ℕ) → Answer (List ℕ)
part_answer = concluded [] (λ part. answer (read (8 * length part) (length part)) part)

-- where a part of so many bytes starts, and 0 where it is empty
abbrev pub part_start : ℕ → ℕ → ℕ
part_start size at = cond (eqb size 0) 0 at

-- ---- the answer of the code

-- a refusal hands back no bytes
abbrev pub part_in : Result Lent Failure → List ℕ
part_in (Ok part) = part.bytes.now
part_in (Err failure) = []

-- a part lies in the payload where it was asked for
abbrev pub LiesIn : ℕ → Bor (List ℕ) → Lent → Type 0
LiesIn at payload part = part.bytes.ref_ptr ≡ place_behind (part_start (length part.bytes.now) at) payload.ref_ptr

-- a part that may be absent: its bytes, and none of the empty part
abbrev pub bytes_or_none : Option (Bor (List ℕ)) → List ℕ
bytes_or_none (Some part) = part.now
bytes_or_none None = []

-- and where it lies: the empty part where what was lent starts
abbrev pub place_or_start : Option (Bor (List ℕ)) → Bor (List ℕ) → ℕ × ℕ
place_or_start (Some part) lent = part.ref_ptr
place_or_start None lent = lent.ref_ptr
