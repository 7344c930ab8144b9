-- Tables of worked examples: what definitions give beside what they should, as one test that the checker computes.
use Rattle.std.proofs.Common.{Bool, true, false, ◌&&◌, List, [], ◌∷◌, ℕ, eqb}

pub record Example : Type 0 where
  pub gives : List ℕ
  pub wanted : List ℕ

abbrev pub equal : List ℕ → List ℕ → Bool
equal [] [] = true
equal [] (y ∷ ys) = false
equal (x ∷ xs) [] = false
equal (x ∷ xs) (y ∷ ys) = eqb x y && equal xs ys

abbrev pub hold : List Example → Bool
hold [] = true
hold (e ∷ es) = equal e.gives e.wanted && hold es

abbrev pub ◌is◌ : List ℕ → List ℕ → Example
◌is◌ xs ys = record { gives = xs; wanted = ys }

infix 30 ◌is◌
