-- A refusal of each kind, and a call's end by what holds of whatever it made.
use Rattle.std.proofs.Common.{refl, inl, inr, ℕ, arith}
use Rattle.std.proofs.lemmas.Bool.{eqb-false}
use Rattle.kinds.specs.declared.refusals.Refusal.{Refusal}
use Rattle.kinds.specs.Answers.{number_of, refused, short}
use Rattle.kinds.specs.Outcomes.{Outcome, gives, lacks, refuses, Answer, answer, concluded}
use Rattle.kinds.proofs.Holding.{Holds}
use Rattle.kinds.proofs.Rows.{never_0}
use Rattle.demand_one.specs.Refusing.{row, thirty, Refuses, Ends}

pub refuses_row : {A : Type 0} (old : A) (r : Refusal) → Refuses old (answer (refused r) old)
refuses_row old r =
    record { number = number_of r; tabled = row r; not_0 = eqb-false (number_of r) 0 (never_0 r); expected = 0; actual = 0; reports = refl; alone = λ z. (refl, refl); keeps = refl }

pub refuses_30 : {A : Type 0} (old : A) (e a : ℕ) → Refuses old (answer (short e a) old)
refuses_30 old e a =
    record { number = 30; tabled = thirty; not_0 = λ z. absurd (omega arith); expected = e; actual = a; reports = refl; alone = λ z. absurd (z refl); keeps = refl }

-- a call whose answer is good if what was made is
pub ends : {A B : Type 0} (P : A → Type 0) (Good : Answer B → Type 0) (old : B) (made : A → Answer B) → ((a : A) → P a → Good (made a)) → (o : Outcome A)
    → Holds P o → Ends Good old (concluded old made o)
ends P Good old made f (gives a) h = inl (f a h)
ends P Good old made f (lacks e a) h = inr (refuses_30 old e a)
ends P Good old made f (refuses r) h = inr (refuses_row old r)
