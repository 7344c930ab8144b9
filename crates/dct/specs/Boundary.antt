-- What C sees of a read and of a fetch: where a part starts, and the places of a record and a store. Of the other calls it sees their answers.
use Rattle.std.specs.Prelude.{ℕ, List, [], ◌∷◌, length}
use Rattle.kinds.specs.Answers.{wrote}
use Rattle.kinds.specs.Outcomes.{Answer, answer, concluded}
use Rattle.parts.specs.Part.{part_start}
use Rattle.table.specs.declared.Entry.{Entry}
use Rattle.table.specs.Table.{fetched}

-- the start in place of the part
abbrev pub start_answer : ℕ → Answer (List ℕ) → Answer ℕ
start_answer at a = answer a.report (part_start (length a.left) at)

-- where the record starts, where the store starts, and the store's length
abbrev pub places_of : Entry → List ℕ
places_of e = e.record_at ∷ e.store_at ∷ e.store_len.0 ∷ []

-- zeros on refusal
unfoldable pub places_fetched : List ℕ → ℕ → Answer (List ℕ)
places_fetched table number = concluded (0 ∷ 0 ∷ 0 ∷ []) (λ e. answer wrote (places_of e)) (fetched table number)
