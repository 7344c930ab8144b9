-- No second answer fits the contracts of `part` and `or_empty`: number, report, bytes and place follow from the arguments. `Learnt` is what a
-- caller learns of a contract, which the toolchain reads from the function's clauses.
use Rattle.std.proofs.Common.{◌≡◌, refl, sym, ap, ◌∙◌, List, ℕ, length, Option, Some, None, Result, Ok, Err, IfOk}
use Rattle.std.specs.Borrow.{Bor}
use Rattle.kinds.specs.declared.lent.Lent.{Lent}
use Rattle.kinds.specs.declared.refusals.Failure.{Failure}
use Rattle.kinds.specs.Answers.{number_in, counts_of_lent, report_of_part}
use Rattle.kinds.specs.Slices.{place_behind}
use Rattle.kinds.specs.Outcomes.{Answer, answer}
use Rattle.kinds.proofs.Reports.{failure_of, failure_told, never_done}
use Rattle.parts.specs.Part.{part_start, part_in, LiesIn, place_or_start}
use Rattle.parts.proofs.part.Reads as part
use Rattle.parts.proofs.or_empty.Reads as or-empty

-- two answers that are one: the same failure, or the same bytes at the same place
abbrev pub Same : Result Lent Failure → Result Lent Failure → Type 0
Same (Ok a) (Ok b) = (a.bytes.now ≡ b.bytes.now) × (a.bytes.ref_ptr ≡ b.bytes.ref_ptr)
Same (Ok a) (Err g) = ⊥
Same (Err f) (Ok b) = ⊥
Same (Err f) (Err g) = f ≡ g

-- what is answered beside the place: number, report and bytes
abbrev pub shown : Result Lent Failure → Answer (List ℕ)
shown r = answer (report_of_part r) (part_in r)

-- the part that is handed back, if there is one
abbrev pub given : Result Lent Failure → Option (Bor (List ℕ))
given (Ok part) = Some part.bytes
given (Err failure) = None

-- two answers to one payload: number, report and bytes are the same, the failure or the part is, and so is the place, which is that of the empty
-- part where there is a refusal
abbrev pub One : Bor (List ℕ) → Result Lent Failure → Result Lent Failure → Type 0
One payload r r' = (shown r ≡ shown r') × Same r r' × (place_or_start (given r) payload ≡ place_or_start (given r') payload)

one_place : (payload : Bor (List ℕ)) (r r' : Result Lent Failure) → Same r r' → place_or_start (given r) payload ≡ place_or_start (given r') payload
one_place payload (Ok a) (Ok b) s = s.1
one_place payload (Ok a) (Err g) s = absurd s
one_place payload (Err f) (Ok b) s = absurd s
one_place payload (Err f) (Err g) s = refl

-- what is shown of two answers, and where a part lies, tell that they are one
same_part : (at : ℕ) (payload : Bor (List ℕ)) (r r' : Result Lent Failure) → shown r ≡ shown r' → IfOk r (LiesIn at payload) → IfOk r' (LiesIn at payload) → Same r r'
same_part at payload (Ok a) (Ok b) e l l' =
    let same : a.bytes.now ≡ b.bytes.now = ap (λ (s : Answer (List ℕ)). s.left) e in
    (same, l ∙ ap (λ (xs : List ℕ). place_behind (part_start (length xs) at) payload.ref_ptr) same ∙ sym l')
same_part at payload (Ok a) (Err g) e l l' = never_done counts_of_lent g (sym (ap (λ (s : Answer (List ℕ)). number_in s.report) e))
same_part at payload (Err f) (Ok b) e l l' = never_done counts_of_lent f (ap (λ (s : Answer (List ℕ)). number_in s.report) e)
same_part at payload (Err f) (Err g) e l l' =
    sym (failure_told counts_of_lent f) ∙ ap (λ (s : Answer (List ℕ)). failure_of s.report) e ∙ failure_told counts_of_lent g

pub one_part : (at : ℕ) (payload : Bor (List ℕ)) (r r' : Result Lent Failure) → shown r ≡ shown r' → IfOk r (LiesIn at payload) → IfOk r' (LiesIn at payload) → One payload r r'
one_part at payload r r' e l l' =
    let same = same_part at payload r r' e l l' in (e, same, one_place payload r r' same)

pub part_one : (κs : _) (args : _) (r r' : _) (e e' : _) → part.Learnt κs args r e → part.Learnt κs args r' e' → One args.0.bytes r r'
part_one κs args r r' e e' h h' = one_part args.1.0 args.0.bytes r r' (h.0 ∙ sym h'.0) h.1 h'.1

-- the part, or the empty part of a refusal: its bytes and its place
pub or_empty_one : (κs : _) (args : _) (r r' : _) (e e' : _) → or-empty.Learnt κs args r e → or-empty.Learnt κs args r' e' → (r.now ≡ r'.now) × (r.ref_ptr ≡ r'.ref_ptr)
or_empty_one κs args r r' e e' h h' = (h.0 ∙ sym h'.0, h.1 ∙ sym h'.1)
