-- The class that a number tells: that of the refusal with the number, and none where no row has it.
use Rattle.std.proofs.Common.{◌≡◌, refl, sym, ◌∙◌, Bool, true, false, ◌&&◌, ◌||◌, true≢false, ⊎_elim, ℕ, zero, suc, ◌+◌, ◌≤◌, ◌<◌, arith, eqb-true, ne_eqb, eqb}
use Rattle.std.proofs.lemmas.Bool.{lt-leb}
use mathlib.Core.Bool.{and-false}
use Rattle.kinds.specs.declared.refusals.Refusal.{Refusal}
use Rattle.kinds.specs.Answers.{number_of}
use Rattle.classes.specs.declared.Class.TheVariants.{NotEnoughData}
use Rattle.classes.specs.Classes.{letter, class_of, class_letter}
use Rattle.kinds.proofs.Compare.{below, same}
use Rattle.kinds.proofs.Outcomes.{both}
use Rattle.kinds.proofs.Rows.{refusal_of, of_each_row}

-- ---- a test of k numbers from a on

abbrev pub run : (ℕ → Bool) → ℕ → ℕ → Bool
run p a zero = true
run p a (suc k) = p a && run p (suc a) k

of_run : (p : ℕ → Bool) (a k : ℕ) → run p a k ≡ true → (n : ℕ) → a ≤ n → n < a + k → p n ≡ true
of_run p a zero e n from to = absurd (omega arith)
of_run p a (suc k) e n from to =
    ⊎_elim {C = p n ≡ true}
    (λ (h : a ≡ n). rw (← h) (both (p a) _ e).0)
    (λ (h : a ≡ n → ⊥). of_run p (suc a) k (both (p a) _ e).1 n (omega arith) (omega arith))
    (same a n)

-- ---- the laws of the column

-- the numbers of the rows tell the classes of the rows
pub letter_of_row : (r : Refusal) → class_letter (number_of r) ≡ letter (class_of r)
letter_of_row r = eqb-true _ _ (of_each_row (λ s. eqb (class_letter (number_of s)) (letter (class_of s))) refl r)

pub letter_of_30 : class_letter 30 ≡ letter NotEnoughData
letter_of_30 = refl

pub letter_of_0 : class_letter 0 ≡ 0
letter_of_0 = refl

pub letter_above : (n : ℕ) → 60 < n → class_letter n ≡ 0
letter_above n h =
    let ten : n ≡ 10 → ⊥ = λ (e : n ≡ 10). omega arith in
    let thirty : n ≡ 30 → ⊥ = λ (e : n ≡ 30). omega arith in
    let seven : n ≡ 37 → ⊥ = λ (e : n ≡ 37). omega arith in
    let eight : n ≡ 38 → ⊥ = λ (e : n ≡ 38). omega arith in
    simp (ne_eqb _ _ ten, ne_eqb _ _ thirty, ne_eqb _ _ seven, ne_eqb _ _ eight, lt-leb n 13 (omega arith), lt-leb n 27 (omega arith), lt-leb n 36 (omega arith), lt-leb n 45 (omega arith), lt-leb n 60 h, and-false)

-- a number without a letter, or a row's
abbrev row_or_none : ℕ → Bool
row_or_none n = eqb (class_letter n) 0 || (eqb n 30 || eqb (number_of (refusal_of n)) n)

one_of_two : (a b : Bool) → b ≡ false → (a || b) ≡ true → a ≡ true
one_of_two true b f e = refl
one_of_two false b f e = absurd (true≢false (sym e ∙ f))

-- what is no row's number has no letter
pub letter_of_no_row : (n : ℕ) → (n ≡ 30 → ⊥) → ((r : Refusal) → number_of r ≡ n → ⊥) → class_letter n ≡ 0
letter_of_no_row n not_30 no_row =
    let none : (eqb n 30 || eqb (number_of (refusal_of n)) n) ≡ false = simp (ne_eqb n 30 not_30, ne_eqb _ n (no_row (refusal_of n))) in
    ⊎_elim {C = class_letter n ≡ 0}
    (λ (h : n < 61). eqb-true _ _ (one_of_two (eqb (class_letter n) 0) _ none (of_run row_or_none 0 61 refl n (omega arith) (omega arith))))
    (λ (h : 61 ≤ n). letter_above n (omega arith))
    (below n 61)
