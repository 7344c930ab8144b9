-- RULES 11.2, of a call that takes a record: 43, 44, and 42 of the record itself.
use Rattle.std.specs.Prelude.{ℕ, List, length, Option, Some, None}
use Rattle.kinds.specs.declared.refusals.Refusal.TheVariants.{MalformedRecord}
use Rattle.kinds.specs.Outcomes.{Outcome, gives, refuses, after}
use Rattle.coded.specs.declared.coded_type.DiagCodedType.{DiagCodedType}
use Rattle.field.specs.Refusals.{slices_refusal}
use Rattle.record.specs.Parsing.{coded_in}

-- 42: malformed record
abbrev pub well_formed : Option DiagCodedType → Outcome DiagCodedType
well_formed (Some t) = gives t
well_formed None = refuses MalformedRecord

-- the coded type that a record says, of a call that lends a store and two other slices besides, and of the last so many bytes are used
abbrev pub coded_by_record : List ℕ → ℕ → ℕ → ℕ → ℕ → Outcome DiagCodedType
coded_by_record bytes store a b used = after (slices_refusal (length bytes) store a b used) (well_formed (coded_in bytes))
