-- Refusals in an order, what is made or refused, and the answer of a call: the words in which every call is defined.
use Rattle.std.specs.Prelude.{ℕ, Bool, cond, List, [], ◌∷◌, Result, Ok, Err}
use Rattle.kinds.specs.declared.refusals.Refusal.{Refusal}
use Rattle.kinds.specs.Answers.{Check, passed, refused, short}

-- a test, and the refusal that is given where it holds
pub record Rule : Type 0 where
  pub test : Bool
  pub refusal : Refusal

abbrev pub rule : Bool → Refusal → Rule
rule t r = record { test = t; refusal = r }

-- the refusal of the first rule whose test holds
abbrev pub first_among : List Rule → Check
first_among [] = passed
first_among (r ∷ rs) = cond r.test (Err r.refusal) (first_among rs)

-- one check, or the next where it passes
abbrev pub or_else : Check → Check → Check
or_else (Ok done) next = next
or_else (Err r) next = Err r

-- what is made; or 30 with what was expected and what there is; or another refusal
pub data Outcome (A : Type 0) : Type 0 where
  gives : A → Outcome A
  lacks : ℕ → ℕ → Outcome A
  refuses : Refusal → Outcome A

-- what the code makes, or refuses
abbrev pub outcome_of : {A : Type 0} → Result A Refusal → Outcome A
outcome_of (Ok made) = gives made
outcome_of (Err r) = refuses r

-- a check first, and what comes next where it passes
abbrev pub after : {A : Type 0} → Check → Outcome A → Outcome A
after (Ok done) next = next
after (Err r) next = refuses r

-- 30 first, where the test holds
abbrev pub unless_short : {A : Type 0} → Bool → ℕ → ℕ → Outcome A → Outcome A
unless_short test expected actual next = cond test (lacks expected actual) next

-- what comes next is made of what was made
abbrev pub following : {A B : Type 0} → Outcome A → (A → Outcome B) → Outcome B
following (gives a) next = next a
following (lacks expected actual) next = lacks expected actual
following (refuses r) next = refuses r

-- the answer of a call: what it reports, and what it leaves of all that it was lent to change or hands back
pub record Answer (A : Type 0) : Type 0 where
  pub report : List ℕ
  pub left : A

abbrev pub answer : {A : Type 0} → List ℕ → A → Answer A
answer report left = record { report = report; left = left }

-- a call that refuses leaves what is old; else its answer is made of what was made
abbrev pub concluded : {A B : Type 0} → B → (A → Answer B) → Outcome A → Answer B
concluded old made (gives a) = made a
concluded old made (lacks expected actual) = answer (short expected actual) old
concluded old made (refuses r) = answer (refused r) old
