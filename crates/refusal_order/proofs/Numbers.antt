-- The number that an outcome ends in, a law for each step: a check, 30, what follows, and the answer of a call.
use Rattle.std.proofs.Common.{◌≡◌, refl, Bool, true, false, cond, List, ℕ, length, ltb, Ok, Err}
use Rattle.kinds.specs.declared.refusals.Refusal.{Refusal}
use Rattle.kinds.specs.declared.refusals.Refusal.TheVariants.{OutputLacksRoom}
use Rattle.kinds.specs.Answers.{Check, passed, number_of, number_in}
use Rattle.kinds.specs.Outcomes.{or_else, Outcome, gives, lacks, refuses, after, unless_short, Answer, concluded}
use Rattle.unpack.specs.Found.{Found, filled, read_answer}

-- where something was made, its own number
abbrev pub ended : {A : Type 0} → Outcome A → (A → ℕ) → ℕ
ended (gives a) k = k a
ended (lacks e a) k = 30
ended (refuses r) k = number_of r

-- success, whatever was made
abbrev pub none : {A : Type 0} → A → ℕ
none a = 0

module _ {A : Type 0} (k : A → ℕ) where
  -- a rule, and what comes where its test does not hold
  pub step : (t : Bool) (r : Refusal) (c : Check) (o : Outcome A) {n : ℕ} → (t ≡ false → ended (after c o) k ≡ n)
      → ended (after (cond t (Err r) c) o) k ≡ cond t (number_of r) n
  step true r c o f = refl
  step false r c o f = f refl

  pub thirty : (t : Bool) (e a : ℕ) (o : Outcome A) {n : ℕ} → (t ≡ false → ended o k ≡ n) → ended (unless_short t e a o) k ≡ cond t 30 n
  thirty true e a o f = refl
  thirty false e a o f = f refl

  -- one check after another
  pub in_turn : (c d : Check) (o : Outcome A) {n : ℕ} → ended (after c (after d o)) k ≡ n → ended (after (or_else c d) o) k ≡ n
  in_turn (Ok done) d o e = e
  in_turn (Err r) d o e = e

  pub concluded-number : {B : Type 0} (old : B) (made : A → Answer B) → ((a : A) → number_in (made a).report ≡ k a) → (o : Outcome A)
      → number_in (concluded old made o).report ≡ ended o k
  concluded-number old made f (gives a) = f a
  concluded-number old made f (lacks e a) = refl
  concluded-number old made f (refuses r) = refl

-- 41 is last
abbrev pub room : List ℕ → Found → ℕ
room output f = cond (ltb (length output) (length f.bytes)) 41 0

roomy : (t : Bool) (output : List ℕ) (f : Found) → number_in (concluded output (filled output) (after (cond t (Err OutputLacksRoom) passed) (gives f))).report ≡ cond t 41 0
roomy true output f = refl
roomy false output f = refl

pub read_number : (output : List ℕ) (o : Outcome Found) → number_in (read_answer output o).report ≡ ended o (room output)
unfolding read_answer
read_number output (gives f) = roomy (ltb (length output) (length f.bytes)) output f
read_number output (lacks e a) = refl
read_number output (refuses r) = refl
