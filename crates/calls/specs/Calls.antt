-- RULES 11: the whole answer of each call, by a coded type or by its record. What is refused first is said once, in `called`.
use Rattle.std.specs.Prelude.{◌≡◌, ℕ, List, [], length, Result, Ok, Err}
use Rattle.std.specs.Borrow.{Bor}
use Rattle.kinds.specs.declared.refusals.Refusal.{Refusal}
use Rattle.kinds.specs.Answers.{wrote}
use Rattle.kinds.specs.Slices.{place_behind}
use Rattle.kinds.specs.Outcomes.{Outcome, gives, lacks, refuses, after, following, Answer, answer, concluded}
use Rattle.coded.specs.declared.coded_type.DiagCodedType.{DiagCodedType}
use Rattle.coded.specs.Getters.{key_place_of}
use Rattle.field.specs.Field.{field_of, part_at, start_at}
use Rattle.field.specs.Refusals.{slices_refusal}
use Rattle.record.specs.Parsing.{coded_in}
use Rattle.record.specs.Recorded.{well_formed}
use Rattle.parts.specs.Part.{runtime_part, part_answer}
use Rattle.unpack.specs.Found.{read_answer}
use Rattle.readers.specs.Finding.{field_finding}
use Rattle.payload.specs.Payload.{Payload, write_answer}
use Rattle.writers.specs.Shapes.{field_encoding}
use Rattle.clear.specs.Clear.{field_clearing}
use Rattle.described.specs.Described.{described}
use Rattle.std.specs.Prelude.{Option, Some}

-- what a call is told of its field: a coded type, or the bytes of a record
pub data Description : Type 0 where
  by_type : DiagCodedType → Description
  by_record : List ℕ → Description

-- the coded type that it says
abbrev pub coded_said : Description → Option DiagCodedType
coded_said (by_type t) = Some t
coded_said (by_record bytes) = coded_in bytes

-- the size of its record, which is a slice too
abbrev pub record_bytes : Description → ℕ
record_bytes (by_type t) = 0
record_bytes (by_record bytes) = length bytes

-- 43, 44, and 42 of a record: of a call that lends a store and two other slices, and of the last so many bytes are used
abbrev pub coded_by : Description → ℕ → ℕ → ℕ → ℕ → Outcome DiagCodedType
coded_by d store a b used = after (slices_refusal (record_bytes d) store a b used) (well_formed (coded_said d))

-- and then 42 of the part of the store, 12, 13, 10, 11, and the call's own
abbrev pub called : {A : Type 0} → Description → List ℕ → ℕ → ℕ → ℕ → (DiagCodedType → Outcome A) → Outcome A
called d store a b used own = following (coded_by d (length store) a b used) (λ t. described t store own)

unfoldable pub decoded : Description → List ℕ → List ℕ → ℕ → ℕ → List ℕ → Answer (List ℕ)
decoded d store payload at pos output =
    read_answer output (called d store (length payload) (length output) 0 (λ t. field_finding (field_of t store) payload at pos))

unfoldable pub encoded : Description → List ℕ → List ℕ → Payload → ℕ → ℕ → Answer Payload
encoded d store input p at pos =
    write_answer p (called d store (length input) (length p.bytes) p.used (λ t. field_encoding (field_of t store) input p at pos))

unfoldable pub cleared_field : Description → List ℕ → Payload → ℕ → ℕ → Answer Payload
cleared_field d store p at pos =
    write_answer p (called d store 0 (length p.bytes) p.used (λ t. field_clearing (field_of t store) p at pos))

-- the read with a byte count given at run time
unfoldable pub runtime_read : Description → List ℕ → List ℕ → ℕ → ℕ → Answer (List ℕ)
runtime_read d store payload at count = part_answer (called d store (length payload) 0 0 (λ t. runtime_part payload at count))

-- the name of the parameter that gives a field's length
abbrev pub name_answer : Outcome (List ℕ) → Answer (List ℕ)
name_answer = concluded [] (answer wrote)

unfoldable pub key_name : Description → List ℕ → Answer (List ℕ)
key_name d store = name_answer (called d store 0 0 0 (λ t. gives (part_at store (key_place_of t.type_))))

-- where that name starts in the store, and 0 where there is none
abbrev pub start_given : Outcome ℕ → ℕ
start_given (gives n) = n
start_given (lacks expected actual) = 0
start_given (refuses r) = 0

unfoldable pub name_start : Description → List ℕ → ℕ
name_start d store = start_given (called d store 0 0 0 (λ t. gives (start_at (length store) (key_place_of t.type_))))

-- ---- the answers of the code

abbrev pub outcome_of_name : Result (Bor (List ℕ)) Refusal → Outcome (List ℕ)
outcome_of_name (Ok name) = gives name.now
outcome_of_name (Err r) = refuses r

-- the name lies in the store where the coded type says
abbrev pub NameLiesIn : DiagCodedType → Bor (List ℕ) → Bor (List ℕ) → Type 0
NameLiesIn t store name = name.ref_ptr ≡ place_behind (name_start (by_type t) store.now) store.ref_ptr
