-- The ones of a mask, byte by byte and bit by bit.
use Rattle.std.proofs.Common.{◌≡◌, refl, sym, ap, ap₂, ◌∙◌, ⊎_elim, List, ℕ, zero, suc, ◌+◌, ◌/◌, ◌≤◌, ◌<◌, add-one, arith, length, get_or, drop, drop_of_length-le, drop-cons}
use Rattle.std.proofs.lemmas.List.Sums.{sum_by-cons}
use lib.ListN.{get_or-eq_default}
use lib.Count.{ones, ones_step}
use Rattle.kinds.proofs.Compare.{below}
use Rattle.bits.specs.Bits.{bit}
use Rattle.bits.proofs.Numbers.{Bits, bit-zero, bit-suc}
use Rattle.condensed.specs.Condensed.{ones_of, ones_below}

-- ---- byte by byte

pub ones_of-from : (xs : List ℕ) (j : ℕ) → ones_of (drop j xs) ≡ ones (get_or xs j 0) + ones_of (drop (suc j) xs)
unfolding ones
ones_of-from xs j =
    ⊎_elim (λ l. ap ones_of (drop-cons xs j 0 l) ∙ sum_by-cons ones (get_or xs j 0) (drop (suc j) xs))
    (λ (l : length xs ≤ j). rw (drop_of_length-le xs l, get_or-eq_default xs 0 l, drop_of_length-le xs {i = suc j} (omega arith)))
    (below j (length xs))

-- ---- bit by bit

pub ones_below_next : (m : ℕ → ℕ) (i : ℕ) → ones_below m (i + 1) ≡ ones_below m i + m i
unfolding ones_below
ones_below_next m i = rw (add-one, ones_below)

pub ones_below_ext : (m m' : ℕ → ℕ) (n : ℕ) → ((i : ℕ) → i < n → m i ≡ m' i) → ones_below m n ≡ ones_below m' n
unfolding ones_below
ones_below_ext m m' zero e = refl
ones_below_ext m m' (suc n) e = ap₂ (λ (a b : ℕ). a + b) (ones_below_ext m m' n (λ i l. e i (omega arith))) (e n (omega arith))

-- those of the first a places, and those of the next b
pub ones_below-add : (m : ℕ → ℕ) (a b : ℕ) → ones_below m (a + b) ≡ ones_below m a + ones_below (λ k. m (a + k)) b
unfolding ones_below
ones_below-add m a zero =
    let none : a + 0 ≡ a = omega arith in
    rw none (omega arith)
ones_below-add m a (suc b) =
    let next : a + suc b ≡ suc (a + b) = omega arith in
    rw next (omega (arith, ones_below-add m a b))

pub ones_below-le : (m : ℕ → ℕ) → Bits m → (i : ℕ) → ones_below m i ≤ i
unfolding ones_below
ones_below-le m b zero = omega arith
ones_below-le m b (suc i) = omega (arith, ones_below-le m b i, b i)

-- ---- the lowest bits of a number have no more ones than all of it

pub ones_below-bit : (d x : ℕ) → ones_below (bit x) d ≤ ones x
unfolding ones_below
ones_below-bit zero x = omega arith
ones_below-bit (suc d) x =
    let next : (k : ℕ) → suc k ≡ 1 + k = λ k. omega arith in
    let split : ones_below (bit x) (suc d) ≡ ones_below (bit x) 1 + ones_below (λ k. bit x (1 + k)) d = ap (ones_below (bit x)) (next d) ∙ ones_below-add (bit x) 1 d in
    let rest : ones_below (λ k. bit x (1 + k)) d ≡ ones_below (bit (x / 2)) d = ones_below_ext (λ k. bit x (1 + k)) (bit (x / 2)) d (λ i l. ap (bit x) (sym (next i)) ∙ bit-suc x i) in
    omega (arith, split, rest, ones_below-bit d (x / 2), ones_step x, bit-zero x)
