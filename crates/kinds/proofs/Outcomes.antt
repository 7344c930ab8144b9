-- The laws of outcomes: which way a check sends what comes next, and what follows where a rule or a check passes.
use Rattle.std.proofs.Common.{◌≡◌, refl, sym, ap, ℕ, Bool, true, false, cond, ◌||◌, ◌&&◌, true≢false, Ok, Err}
use Rattle.kinds.specs.declared.refusals.Refusal.{Refusal}
use Rattle.kinds.specs.Answers.{Check, passed}
use Rattle.kinds.specs.Outcomes.{or_else, Outcome, after, unless_short, following}

-- two tests of which neither holds
pub neither : (a b : Bool) → (a || b) ≡ false → (a ≡ false) × (b ≡ false)
neither true b e = absurd (true≢false e)
neither false b e = (refl, e)

-- two that both hold
pub both : (a b : Bool) → (a && b) ≡ true → (a ≡ true) × (b ≡ true)
both true b e = (refl, e)
both false b e = absurd (true≢false (sym e))

-- a refusal is not a pass
abbrev passes : Check → Bool
passes (Ok done) = true
passes (Err r) = false

never : {r : Refusal} → Err r ≡ passed → ⊥
never e = true≢false (sym (ap passes e))

-- where nothing is refused, no rule holds, and each check passes
pub rule_passed : (t : Bool) (r : Refusal) (next : Check) → cond t (Err r) next ≡ passed → (t ≡ false) × (next ≡ passed)
rule_passed true r next e = absurd (never e)
rule_passed false r next e = (refl, e)

pub or_else_passed : (a b : Check) → or_else a b ≡ passed → (a ≡ passed) × (b ≡ passed)
or_else_passed (Ok done) b e = (refl, e)
or_else_passed (Err r) b e = absurd (never e)

-- what is refused first is refused whatever follows
pub following-after : {A B : Type 0} (c : Check) (o : Outcome A) (next : A → Outcome B) → following (after c o) next ≡ after c (following o next)
following-after (Ok done) o next = refl
following-after (Err r) o next = refl

pub following-short : {A B : Type 0} (t : Bool) (e a : ℕ) (o : Outcome A) (next : A → Outcome B) → following (unless_short t e a o) next ≡ unless_short t e a (following o next)
following-short true e a o next = refl
following-short false e a o next = refl

-- and what comes next matters only where nothing was refused
pub after_ext : {A : Type 0} (c : Check) (o o' : Outcome A) → (c ≡ passed → o ≡ o') → after c o ≡ after c o'
after_ext (Ok done) o o' f = f refl
after_ext (Err r) o o' f = refl

pub short_ext : {A : Type 0} (t : Bool) (e a : ℕ) (o o' : Outcome A) → (t ≡ false → o ≡ o') → unless_short t e a o ≡ unless_short t e a o'
short_ext true e a o o' f = refl
short_ext false e a o o' f = f refl
