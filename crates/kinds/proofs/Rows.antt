-- The table of refusals, row by row and without naming one: no number is 0 or 30, and a number tells its refusal.
use Rattle.std.proofs.Common.{◌≡◌, refl, sym, ap, ◌∙◌, subst, Bool, true, false, cond, not, ◌&&◌, List, [], ◌∷◌, inl, inr, ℕ, suc, arith, eqb-true, eqb}
use Rattle.std.proofs.lemmas.Bool.{not-true}
use native.Mathlib.Nat.{suc_inj}
use denote.Struct.Field.{Field}
use denote.Enum.Declared.{Choice}
use Rattle.kinds.specs.declared.refusals.Refusal.{Refusal}
use Rattle.kinds.specs.declared.refusals.Refusal.TheVariants.{MalformedTable}
use Rattle.kinds.specs.Answers.{number_of}
use Rattle.kinds.proofs.Outcomes.{both}
use Rattle.kinds.specs.contracts.refusals.Refusal.{the_parts as parts, as_values, the_make as make, the_eta as eta}

-- ---- enums whose variants hold nothing

abbrev Bare : List (List Field) → Type 0
Bare [] = Unit {0}
Bare ([] ∷ Fss) = Bare Fss
Bare ((F ∷ Fs) ∷ Fss) = ⊥

-- a test of every variant
abbrev all : (Fss : List (List Field)) → Bare Fss → (Choice Fss → Bool) → Bool
all [] b p = true
all ([] ∷ Fss) b p = p (inl tt) && all Fss b (λ c. p (inr c))
all ((F ∷ Fs) ∷ Fss) b p = absurd b

every : (Fss : List (List Field)) (b : Bare Fss) (p : Choice Fss → Bool) → all Fss b p ≡ true → (c : Choice Fss) → p c ≡ true
every [] b p e c = absurd c
every ([] ∷ Fss) b p e (inl x) = (both (p (inl tt)) _ e).0
every ([] ∷ Fss) b p e (inr c) = every Fss b (λ d. p (inr d)) (both (p (inl tt)) _ e).1 c
every ((F ∷ Fs) ∷ Fss) b p e c = absurd b

-- the position of a variant, which tells it
abbrev index : (Fss : List (List Field)) → Bare Fss → Choice Fss → ℕ
index [] b c = absurd c
index ([] ∷ Fss) b (inl x) = 0
index ([] ∷ Fss) b (inr c) = suc (index Fss b c)
index ((F ∷ Fs) ∷ Fss) b c = absurd b

index_one : (Fss : List (List Field)) (b : Bare Fss) (c d : Choice Fss) → index Fss b c ≡ index Fss b d → c ≡ d
index_one [] b c d e = absurd c
index_one ([] ∷ Fss) b (inl x) (inl y) e = refl
index_one ([] ∷ Fss) b (inl x) (inr d) e = absurd (omega arith)
index_one ([] ∷ Fss) b (inr c) (inl y) e = absurd (omega arith)
index_one ([] ∷ Fss) b (inr c) (inr d) e = ap inr (index_one Fss b c d (suc_inj e))
index_one ((F ∷ Fs) ∷ Fss) b c d e = absurd b

-- the first variant of which a test holds
abbrev first : {A : Type 0} (Fss : List (List Field)) → Bare Fss → (Choice Fss → Bool) → (Choice Fss → A) → A → A
first [] b p f a = a
first ([] ∷ Fss) b p f a = cond (p (inl tt)) (f (inl tt)) (first Fss b (λ c. p (inr c)) (λ c. f (inr c)) a)
first ((F ∷ Fs) ∷ Fss) b p f a = absurd b

-- ---- the refusals

abbrev pub refusal_of : ℕ → Refusal
refusal_of n = first parts tt (λ c. eqb (number_of (make c)) n) make MalformedTable

abbrev place : Refusal → ℕ
place r = index parts tt (as_values r)

-- what the checker computes of each row
abbrev tells : Refusal → Bool
tells r = eqb (place (refusal_of (number_of r))) (place r)

abbrev differs : ℕ → Refusal → Bool
differs n r = not (eqb (number_of r) n)

-- a test that each row passes
abbrev pub each_row : (Refusal → Bool) → Bool
each_row p = all parts tt (λ c. p (make c))

pub of_each_row : (p : Refusal → Bool) → each_row p ≡ true → (r : Refusal) → p r ≡ true
of_each_row p e r = subst (λ (s : Refusal). p s ≡ true) (eta r) (every parts tt (λ c. p (make c)) e (as_values r))

row : (r : Refusal) → (tells r ≡ true) × (differs 0 r ≡ true) × (differs 30 r ≡ true)
row r =
    let All-three = of_each_row (λ s. tells s && (differs 0 s && differs 30 s)) refl r in
    let one = both (tells r) (differs 0 r && differs 30 r) All-three in
    let two = both (differs 0 r) (differs 30 r) one.1 in
    (one.0, two.0, two.1)

pub never_0 : (r : Refusal) → eqb (number_of r) 0 ≡ false
never_0 r = not-true (eqb (number_of r) 0) (row r).1

pub never_30 : (r : Refusal) → eqb (number_of r) 30 ≡ false
never_30 r = not-true (eqb (number_of r) 30) (row r).2

pub refusal_told : (r : Refusal) → refusal_of (number_of r) ≡ r
refusal_told r =
    let s = refusal_of (number_of r) in
    let same : as_values s ≡ as_values r = index_one parts tt (as_values s) (as_values r) (eqb-true (place s) (place r) (row r).0) in
    sym (eta s) ∙ ap make same ∙ eta r
