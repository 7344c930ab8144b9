-- What holds of whatever an outcome gives: it goes through checks and steps.
use Rattle.std.proofs.Common.{◌≡◌, refl, Bool, true, false, ℕ, Ok, Err}
use Rattle.kinds.specs.Answers.{Check}
use Rattle.kinds.specs.Outcomes.{Outcome, gives, lacks, refuses, after, unless_short, following}

abbrev pub Holds : {A : Type 0} → (A → Type 0) → Outcome A → Type 0
Holds P (gives a) = P a
Holds P (lacks e a) = Unit {0}
Holds P (refuses r) = Unit {0}

module _ {A : Type 0} (P : A → Type 0) where
  pub holds_after : (c : Check) (o : Outcome A) → Holds P o → Holds P (after c o)
  holds_after (Ok done) o h = h
  holds_after (Err r) o h = tt

  pub holds_short : (t : Bool) (e a : ℕ) (o : Outcome A) → Holds P o → Holds P (unless_short t e a o)
  holds_short true e a o h = tt
  holds_short false e a o h = h

  pub holds_following : {B : Type 0} (o : Outcome B) (next : B → Outcome A) → ((b : B) → Holds P (next b)) → Holds P (following o next)
  holds_following (gives b) next h = h b
  holds_following (lacks e a) next h = tt
  holds_following (refuses r) next h = tt

pub holds_any : {A : Type 0} (o : Outcome A) → Holds (λ (a : A). a ≡ a) o
holds_any (gives a) = refl
holds_any (lacks e a) = tt
holds_any (refuses r) = tt
