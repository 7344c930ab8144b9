-- What a report tells: the answer that it reports.
use Rattle.std.proofs.Common.{◌≡◌, refl, sym, ap, ◌∙◌, false, cond, true≢false, List, ℕ, eq-eqb, get_or, eqb, Ok, Err}
use Rattle.kinds.specs.declared.refusals.Failure.{Failure}
use Rattle.kinds.specs.declared.refusals.Failure.TheVariants.{NotEnoughData, Refused}
use Rattle.kinds.specs.declared.refusals.Counts.{Counts}
use Rattle.kinds.specs.Answers.{number_in, Check, passed, report_of_check, report_by}
use Rattle.kinds.proofs.Rows.{refusal_of, never_0, never_30, refusal_told}

abbrev pub check_of : List ℕ → Check
check_of r = cond (eqb (number_in r) 0) passed (Err (refusal_of (number_in r)))

pub check_told : (c : Check) → check_of (report_of_check c) ≡ c
check_told (Ok done) = refl
check_told (Err r) = rw (never_0 r) (ap Err (refusal_told r))

abbrev pub failure_of : List ℕ → Failure
failure_of r = cond (eqb (number_in r) 30) (NotEnoughData (get_or r 3 0) (get_or r 4 0)) (Refused (refusal_of (number_in r)))

module _ {A : Type 0} (counts : A → Counts) where
  pub failure_told : (f : Failure) → failure_of (report_by counts (Err f)) ≡ f
  failure_told (NotEnoughData e a) = refl
  failure_told (Refused r) = rw (never_30 r) (ap Refused (refusal_told r))

  -- no failure is reported as a success
  pub failure_seen : (f : Failure) → eqb (number_in (report_by counts (Err f))) 0 ≡ false
  failure_seen (NotEnoughData e a) = refl
  failure_seen (Refused r) = never_0 r

  pub never_done : (f : Failure) → number_in (report_by counts (Err f)) ≡ 0 → ⊥
  never_done f e = true≢false (sym (eq-eqb (number_in (report_by counts (Err f))) 0 e) ∙ failure_seen f)
