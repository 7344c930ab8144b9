-- Lists of fields that are accepted and own no bit in common, counted: a count does not depend on the order of the list.
use Rattle.std.proofs.Common.{◌≡◌, refl, sym, ◌∙◌, ⊎_elim, Bool, true, false, cond, not, ◌&&◌, List, [], ◌∷◌, ℕ, zero, suc, ◌+◌, ◌*◌, ◌≤◌, ◌<◌, arith, length}
use mathlib.Core.List.{Permᴰ}
use Rattle.kinds.proofs.Outcomes.{both}
use Rattle.kinds.proofs.Compare.{same}
use Rattle.ownership.proofs.Permutations.{total, total_append, total_permuted}
use Rattle.demand_three.specs.Changing.{Placed, own, apart_below, apart, Way, Assignment, with, accepted, all_accepted, all_lent, apart_from, disjoint, between}

-- one that is counted where a test does not hold, or where it does, and how many others are
pub first_passes : (b : Bool) (m : ℕ) → cond b 0 1 + m ≡ 0 → (b ≡ true) × (m ≡ 0)
first_passes true m e = (refl, omega arith)
first_passes false m e = absurd (omega arith)

pub first-owns_not : (b : Bool) (m : ℕ) → cond b 1 0 + m ≡ 0 → (b ≡ false) × (m ≡ 0)
first-owns_not true m e = absurd (omega arith)
first-owns_not false m e = (refl, omega arith)

at_most_one : (b : Bool) (m : ℕ) → (b ≡ true → m ≡ 0) → m ≤ 1 → cond b 1 0 + m ≤ 1
at_most_one true m e l = let none = e refl in omega arith
at_most_one false m e l = omega arith

-- ---- two fields that are apart

clash : (a b : Bool) → not (a && b) ≡ true → a ≡ true → b ≡ false
clash true true h e = cc
clash true false h e = refl
clash false b h e = cc

apart_at : (m n : ℕ) (f g : Placed) (k : ℕ) → k < m → apart_below m n f g ≡ true → own n f k ≡ true → own n g k ≡ false
unfolding apart_below
apart_at zero n f g k l e h = absurd (omega arith)
apart_at (suc m) n f g k l e h =
    let split = both (not (own n f m && own n g m)) (apart_below m n f g) e in
    ⊎_elim (λ (q : k ≡ m). clash (own n f k) (own n g k) (rw (sym q) at split.0) h) (λ (q : k ≡ m → ⊥). apart_at m n f g k (omega arith) split.1 h) (same k m)

module _ (w : Way) where
  -- an entry that is accepted, and whose value may be lent; 1 for one that is not, and how many of a list are not
  abbrev pub taken : ℕ → Assignment w → Bool
  taken n e = accepted w n e.told && w.lends (length e.value)

  abbrev pub refuses : ℕ → Assignment w → ℕ
  refuses n e = cond (taken n e) 0 1

  abbrev pub refusing : ℕ → List (Assignment w) → ℕ
  refusing n l = total (refuses n) l

  -- 1 for a field that owns bit k, and how many of a list do
  abbrev pub owns_at : ℕ → ℕ → Assignment w → ℕ
  owns_at n k e = cond (own n (w.says e.told) k) 1 0

  abbrev pub owners : ℕ → ℕ → List (Assignment w) → ℕ
  owners n k l = total (owns_at n k) l

  none_refusing : (n : ℕ) (l : List (Assignment w)) → all_accepted w n l ≡ true → all_lent w l ≡ true → refusing n l ≡ 0
  unfolding all_accepted all_lent
  none_refusing n [] e g = refl
  none_refusing n (x ∷ l) e g =
      let h = both (accepted w n x.told) (all_accepted w n l) e in
      let i = both (w.lends (length x.value)) (all_lent w l) g in
      rw (h.0, i.0) (let rest = none_refusing n l h.1 i.1 in omega arith)

  -- ---- no bit has two owners

  none_beside : (n : ℕ) (f : Placed) (l : List (Assignment w)) (k : ℕ) → k < 8 * n → apart_from w n f l ≡ true → own n f k ≡ true → owners n k l ≡ 0
  unfolding apart_from
  none_beside n f [] k h e o = refl
  none_beside n f (x ∷ l) k h e o =
      let split = both (apart n f (w.says x.told)) (apart_from w n f l) e in
      rw (apart_at (8 * n) n f (w.says x.told) k h split.0 o) (let rest = none_beside n f l k h split.1 o in omega arith)

  one_owner : (n : ℕ) (l : List (Assignment w)) (k : ℕ) → k < 8 * n → disjoint w n l ≡ true → owners n k l ≤ 1
  unfolding disjoint
  one_owner n [] k h e = omega arith
  one_owner n (x ∷ l) k h e =
      let split = both (apart_from w n (w.says x.told) l) (disjoint w n l) e in
      at_most_one (own n (w.says x.told) k) (owners n k l) (none_beside n (w.says x.told) l k h split.0) (one_owner n l k h split.1)

  -- ---- in any order, and with any value of one field

  -- no field is refused, and no bit has two owners
  pub record Fitting (n : ℕ) (l : List (Assignment w)) : Type 0 where
    pub none_refuses : refusing n l ≡ 0
    pub one_owns : (k : ℕ) → k < 8 * n → owners n k l ≤ 1

  pub fitting : (n : ℕ) (l : List (Assignment w)) → all_accepted w n l ≡ true → all_lent w l ≡ true → disjoint w n l ≡ true → Fitting n l
  fitting n l a g d = record { none_refuses = none_refusing n l a g; one_owns = λ k h. one_owner n l k h d }

  pub fitting_permuted : (n : ℕ) {l l' : List (Assignment w)} → Permᴰ l l' → Fitting n l → Fitting n l'
  fitting_permuted n p s =
      record { none_refuses = sym (total_permuted (refuses n) p) ∙ s.none_refuses; one_owns = λ k h. rw (sym (total_permuted (owns_at n k) p)) (s.one_owns k h) }

  module _ (n : ℕ) (before after : List (Assignment w)) (x : w.Told) (v v' : List ℕ) (lent : w.lends (length v') ≡ true) (s : Fitting n (between w before after x v)) where
    between_taken : (taken n (with w x v) ≡ true) × (refusing n after ≡ 0)
    between_taken = first_passes (taken n (with w x v)) (refusing n after) (omega (arith, total_append (refuses n) before (with w x v ∷ after), s.none_refuses))

    pub between-accepted : accepted w n x ≡ true
    between-accepted = (both (accepted w n x) (w.lends (length v)) between_taken.0).0

    pub fitting_changed : Fitting n (between w before after x v')
    fitting_changed =
        record {
          none_refuses =
              total_append (refuses n) before (with w x v' ∷ after)
              ∙ rw (between-accepted, lent) (let old = total_append (refuses n) before (with w x v ∷ after) in omega (arith, old, s.none_refuses, between_taken.1));
          one_owns = λ k h.
              let w₁ = total_append (owns_at n k) before (with w x v ∷ after) in
              let w₂ = total_append (owns_at n k) before (with w x v' ∷ after) in
              omega (arith, w₁, w₂, s.one_owns k h);
        }
