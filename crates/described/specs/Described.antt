-- RULES 11.2, after the slices: what a coded type's own description is refused for, and then the call's own.
use Rattle.std.specs.Prelude.{ℕ, List, length}
use Rattle.kinds.specs.Outcomes.{Outcome, after}
use Rattle.coded.specs.declared.coded_type.DiagCodedType.{DiagCodedType}
use Rattle.field.specs.Refusals.{description_refusal}

-- 42 of the part of the store, 12, 13, 10, 11, and then the call's own
abbrev pub described : {A : Type 0} → DiagCodedType → List ℕ → (DiagCodedType → Outcome A) → Outcome A
described t store own = after (description_refusal t (length store)) (own t)
