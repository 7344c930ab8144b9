-- Bytes of which pairs are swapped in place, from none to all.
use Rattle.std.proofs.Common.{◌≡◌, refl, ap, ◌∙◌, ℕ, zero, suc, ◌+◌, ◌*◌, ◌/◌, ◌<◌, List, [], ◌∷◌, length, get_or, set, arith}
use Rattle.std.specs.List.{swap}
use Rattle.order.specs.Order.{swap_pairs}

-- the first i pairs swapped
abbrev pub swapped : ℕ → List ℕ → List ℕ
swapped zero xs = xs
swapped (suc i) [] = []
swapped (suc i) (x ∷ []) = x ∷ []
swapped (suc i) (x ∷ y ∷ rest) = y ∷ x ∷ swapped i rest

pub swapped_all : (i : ℕ) (xs : List ℕ) → i ≡ length xs / 2 → swapped i xs ≡ swap_pairs xs
unfolding swap_pairs
swapped_all zero [] e = refl
swapped_all zero (x ∷ []) e = refl
swapped_all zero (x ∷ y ∷ rest) e = absurd (omega arith)
swapped_all (suc i) [] e = refl
swapped_all (suc i) (x ∷ []) e = refl
swapped_all (suc i) (x ∷ y ∷ rest) e = ap (λ l. y ∷ x ∷ l) (swapped_all i rest (omega arith))

-- the byte at k and the next one exchanged
abbrev exchanged : List ℕ → ℕ → List ℕ
exchanged xs k = set (set xs k (get_or xs (suc k) 0)) (suc k) (get_or xs k 0)

same_or : (xs : List ℕ) (k d e : ℕ) → k < length xs → get_or xs k d ≡ get_or xs k e
same_or [] k d e h = absurd (omega arith)
same_or (x ∷ xs) zero d e h = refl
same_or (x ∷ xs) (suc k) d e h = same_or xs k d e (omega arith)

swap_is : (xs : List ℕ) (k : ℕ) → suc k < length xs → swap xs k (suc k) ≡ exchanged xs k
swap_is [] k h = absurd (omega arith)
swap_is (x ∷ xs) k h = rw (same_or (x ∷ xs) k x 0 (omega arith), same_or (x ∷ xs) (suc k) x 0 h)

exchanged_more : (i k : ℕ) (xs : List ℕ) → k ≡ 2 * i → suc k < length xs → exchanged (swapped i xs) k ≡ swapped (suc i) xs
exchanged_more i k [] e h = absurd (omega arith)
exchanged_more i k (x ∷ []) e h = absurd (omega arith)
exchanged_more zero zero (x ∷ y ∷ rest) e h = refl
exchanged_more zero (suc k) (x ∷ y ∷ rest) e h = absurd (omega arith)
exchanged_more (suc i) zero (x ∷ y ∷ rest) e h = absurd (omega arith)
exchanged_more (suc i) (suc zero) (x ∷ y ∷ rest) e h = absurd (omega arith)
exchanged_more (suc i) (suc (suc k)) (x ∷ y ∷ rest) e h = ap (λ l. y ∷ x ∷ l) (exchanged_more i k rest (omega arith) (omega arith))

length-swapped : (i : ℕ) (xs : List ℕ) → length (swapped i xs) ≡ length xs
length-swapped zero xs = refl
length-swapped (suc i) [] = refl
length-swapped (suc i) (x ∷ []) = refl
length-swapped (suc i) (x ∷ y ∷ rest) = ap (λ (n : ℕ). suc (suc n)) (length-swapped i rest)

pub swapped_more : (i : ℕ) (xs : List ℕ) → i < length xs / 2 → swap (swapped i xs) (2 * i) (2 * i + 1) ≡ swapped (i + 1) xs
swapped_more i xs h =
    let one : 2 * i + 1 ≡ suc (2 * i) = omega arith in
    let two : i + 1 ≡ suc i = omega arith in
    rw (one, two) (swap_is (swapped i xs) (2 * i) (omega (arith, length-swapped i xs)) ∙ exchanged_more i (2 * i) xs refl (omega arith))

-- and with the two bytes read first and then put, as `swap` does it
pub assigned_more : (i : ℕ) (xs : List ℕ) → i < length xs / 2
    → set (set (swapped i xs) (2 * i) (get_or (swapped i xs) (2 * i + 1) 0)) (2 * i + 1) (get_or (swapped i xs) (2 * i) 0) ≡ swapped (i + 1) xs
assigned_more i xs h =
    let one : 2 * i + 1 ≡ suc (2 * i) = omega arith in
    let two : i + 1 ≡ suc i = omega arith in
    rw (one, two) (exchanged_more i (2 * i) xs refl (omega arith))
