-- The index rule of the ordered form: which byte of the run stands at j.
use Rattle.std.proofs.Common.{◌≡◌, refl, sym, ap, ◌∙◌, ⊎_elim, cond, List, [], ◌∷◌, reverse, ℕ, zero, suc, ◌+◌, ◌-◌, ◌*◌, ◌/◌, ◌%◌, ◌≤◌, ◌<◌, arith, length, get_or, ltb, bit_xor, lt-ltb, le-ltb}
use Rattle.std.proofs.lemmas.List.{reverse-reverse, length-reverse, get_or_at}
use mathlib.Core.List.{reverse-cons}
use lib.ListN.{get_or-append}
use lib.Bits.{differ, xor_step, xor_zero_r}
use Rattle.kinds.specs.declared.types.ByteOrder.{ByteOrder}
use Rattle.kinds.specs.declared.types.ByteOrder.TheVariants.{Keep, ReorderPairs, Reverse}
use Rattle.kinds.proofs.Compare.{below, same}
use Rattle.order.specs.Order.{ordered, swap_pairs}

-- of n bytes, where the byte stands that ordering puts at j
unfoldable pub turned : ByteOrder → ℕ → ℕ → ℕ
turned Keep n j = j
turned ReorderPairs n j = cond (ltb (bit_xor j 1) n) (bit_xor j 1) j
turned Reverse n j = n - 1 - j

pub length-swap_pairs : (xs : List ℕ) → length (swap_pairs xs) ≡ length xs
unfolding swap_pairs
length-swap_pairs [] = refl
length-swap_pairs (x ∷ []) = refl
length-swap_pairs (x ∷ y ∷ rest) = ap (λ (n : ℕ). suc (suc n)) (length-swap_pairs rest)

pub length-ordered : (o : ByteOrder) (xs : List ℕ) → length (ordered o xs) ≡ length xs
unfolding ordered
length-ordered Keep xs = refl
length-ordered ReorderPairs xs = length-swap_pairs xs
length-ordered Reverse xs = length-reverse xs

-- ---- which byte stands where

pub get_d_reverse : (xs : List ℕ) (j : ℕ) → j < length xs → get_or (reverse xs) j 0 ≡ get_or xs (length xs - 1 - j) 0
get_d_reverse [] j h = omega arith
get_d_reverse (x ∷ xs) j h =
    let len = length-reverse xs in
    ap (λ (l : List ℕ). get_or l j 0) (reverse-cons x xs)
    ∙ ⊎_elim
    (λ l.
    let at : length (x ∷ xs) - 1 - j ≡ suc (length xs - 1 - j) = omega arith in
    get_or-append (reverse xs) (x ∷ []) 0 j (omega arith) ∙ get_d_reverse xs j l ∙ sym (ap (λ (n : ℕ). get_or (x ∷ xs) n 0) at))
    (λ l.
    let at : length (x ∷ xs) - 1 - j ≡ 0 = omega arith in
    get_or_at (reverse xs) x [] 0 j (omega arith) ∙ sym (ap (λ (n : ℕ). get_or (x ∷ xs) n 0) at))
    (below j (length xs))

pub swapped_odd : (xs : List ℕ) (j : ℕ) → j % 2 ≡ 1 → j < length xs → get_or (swap_pairs xs) j 0 ≡ get_or xs (j - 1) 0
unfolding swap_pairs
swapped_odd [] j e l = refl
swapped_odd (x ∷ []) zero e l = refl
swapped_odd (x ∷ []) (suc j) e l = absurd (omega arith)
swapped_odd (x ∷ y ∷ rest) zero e l = absurd (omega arith)
swapped_odd (x ∷ y ∷ rest) (suc zero) e l = refl
swapped_odd (x ∷ y ∷ rest) (suc (suc j)) e l =
    let at : suc (suc j) - 1 ≡ suc (suc (j - 1)) = omega arith in
    rw at (swapped_odd rest j (omega arith) (omega arith))

pub swapped_even : (xs : List ℕ) (j : ℕ) → (j % 2 ≡ 1 → ⊥) → j + 1 < length xs → get_or (swap_pairs xs) j 0 ≡ get_or xs (j + 1) 0
unfolding swap_pairs
swapped_even [] j e l = absurd (omega arith)
swapped_even (x ∷ []) j e l = absurd (omega arith)
swapped_even (x ∷ y ∷ rest) zero e l = refl
swapped_even (x ∷ y ∷ rest) (suc zero) e l = absurd (omega arith)
swapped_even (x ∷ y ∷ rest) (suc (suc j)) e l =
    let at : suc (suc j) + 1 ≡ suc (suc (j + 1)) = omega arith in
    rw at (swapped_even rest j (omega arith) (omega arith))

pub swapped_last : (xs : List ℕ) (j : ℕ) → (j % 2 ≡ 1 → ⊥) → j + 1 ≡ length xs → get_or (swap_pairs xs) j 0 ≡ get_or xs j 0
unfolding swap_pairs
swapped_last [] j e l = absurd (omega arith)
swapped_last (x ∷ []) zero e l = refl
swapped_last (x ∷ []) (suc j) e l = absurd (omega arith)
swapped_last (x ∷ y ∷ rest) zero e l = absurd (omega arith)
swapped_last (x ∷ y ∷ rest) (suc zero) e l = absurd (omega arith)
swapped_last (x ∷ y ∷ rest) (suc (suc j)) e l = swapped_last rest j (omega arith) (omega arith)

-- a byte's partner has the same place but for the lowest bit
partner : (j : ℕ) → bit_xor j 1 ≡ j / 2 * 2 + differ (j % 2) 1
partner j = xor_step j 1 ∙ ap (λ (h : ℕ). h * 2 + differ (j % 2) 1) (xor_zero_r (j / 2))

partner_odd : (j : ℕ) → j % 2 ≡ 1 → bit_xor j 1 ≡ j - 1
partner_odd j p = partner j ∙ ap (λ (r : ℕ). j / 2 * 2 + differ r 1) p ∙ omega arith

partner_even : (j : ℕ) → (j % 2 ≡ 1 → ⊥) → bit_xor j 1 ≡ j + 1
partner_even j p = let q : j % 2 ≡ 0 = omega arith in partner j ∙ ap (λ (r : ℕ). j / 2 * 2 + differ r 1) q ∙ omega arith

pub get_d_ordered : (o : ByteOrder) (xs : List ℕ) (j : ℕ) → j < length xs → get_or (ordered o xs) j 0 ≡ get_or xs (turned o (length xs) j) 0
unfolding ordered turned
get_d_ordered Keep xs j l = refl
get_d_ordered ReorderPairs xs j l =
    ⊎_elim
    (λ (p : j % 2 ≡ 1).
    rw (partner_odd j p, lt-ltb (j - 1) (length xs) (omega arith)) (swapped_odd xs j p l))
    (λ (p : j % 2 ≡ 1 → ⊥).
    rw (partner_even j p)
    (⊎_elim (λ (h : j + 1 < length xs). rw (lt-ltb (j + 1) (length xs) h) (swapped_even xs j p h))
    (λ (h : length xs ≤ j + 1). rw (le-ltb (j + 1) (length xs) h) (swapped_last xs j p (omega arith)))
    (below (j + 1) (length xs))))
    (same (j % 2) 1)
get_d_ordered Reverse xs j l = get_d_reverse xs j l

-- the byte at k is the one that is ordered to j
pub ordered_from : (o : ByteOrder) (xs : List ℕ) (j k : ℕ) → j < length xs → turned o (length xs) j ≡ k → get_or xs k 0 ≡ get_or (ordered o xs) j 0
ordered_from o xs j k l e = sym (get_d_ordered o xs j l ∙ ap (λ (n : ℕ). get_or xs n 0) e)

-- ---- ordering twice gives the bytes back

pub swap_pairs-swap_pairs : (xs : List ℕ) → swap_pairs (swap_pairs xs) ≡ xs
unfolding swap_pairs
swap_pairs-swap_pairs [] = refl
swap_pairs-swap_pairs (x ∷ []) = refl
swap_pairs-swap_pairs (x ∷ y ∷ rest) = ap (λ (l : List ℕ). x ∷ y ∷ l) (swap_pairs-swap_pairs rest)

pub ordered-ordered : (o : ByteOrder) (xs : List ℕ) → ordered o (ordered o xs) ≡ xs
unfolding ordered
ordered-ordered Keep xs = refl
ordered-ordered ReorderPairs xs = swap_pairs-swap_pairs xs
ordered-ordered Reverse xs = reverse-reverse xs
