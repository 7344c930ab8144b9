-- What is added up over a list does not depend on its order.
use Rattle.std.proofs.Common.{◌≡◌, refl, ap, ap₂, ◌∙◌, List, [], ◌∷◌, ◌++◌, ℕ, ◌+◌, arith}
use mathlib.Core.List.{Permᴰ}

module _ {A : Type 0} (w : A → ℕ) where
  abbrev pub total : List A → ℕ
  total [] = 0
  total (x ∷ xs) = w x + total xs

  pub total_append : (xs ys : List A) → total (xs ++ ys) ≡ total xs + total ys
  total_append [] ys = omega arith
  total_append (x ∷ xs) ys = let rest = total_append xs ys in omega arith

  pub total_permuted : {xs ys : List A} → Permᴰ xs ys → total xs ≡ total ys
  total_permuted Permᴰ.nil = refl
  total_permuted (Permᴰ.cons e d) = ap₂ (λ (a b : ℕ). a + b) (ap w e) (total_permuted d)
  total_permuted (Permᴰ.swap {a = a} {b = b} {l = l} e₁ e₂) =
      let one = ap w e₁ in
      let other = ap w e₂ in
      omega arith
  total_permuted (Permᴰ.trans d₁ d₂) = total_permuted d₁ ∙ total_permuted d₂
