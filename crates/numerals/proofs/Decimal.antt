-- Digits of base 16 that are digits of base 10, each at its place: a number below 2^64 has 16 of them, and zeros above.
use Rattle.std.proofs.Common.{◌≡◌, refl, sym, ap, ◌∙◌, ⊎_elim, Bool, true, ◌&&◌, ℕ, zero, suc, ◌+◌, ◌*◌, ◌/◌, ◌%◌, ◌^◌, ◌≤◌, ◌<◌, arith, min, ltb, div-lt_iff_lt-mul, mul_comm, shr-shr, div-one}
use native.Mathlib.Nat.{pow-succ'}
use Rattle.std.specs.List.{list_all, range_with_len}
use Rattle.kinds.proofs.Compare.{below}
use Rattle.numerals.specs.Digits.{digits_below}

abbrev pub decimal_at : ℕ → ℕ → Bool
decimal_at x place = ltb (x / 2 ^ (4 * place) % 16) 10

next_place : (x k : ℕ) → x / 2 ^ (4 * k) / 16 ≡ x / 2 ^ (4 * (k + 1))
next_place x k = let more : 4 * (k + 1) ≡ 4 * k + 4 = omega arith in shr-shr x (4 * k) 4 ∙ ap (λ (n : ℕ). x / 2 ^ n) (sym more)

each_place : (x k n : ℕ) → list_all (decimal_at x) (range_with_len k n) ≡ digits_below 16 10 n (x / 2 ^ (4 * k))
unfolding digits_below
each_place x k zero = refl
each_place x k (suc n) =
    ap (λ (t : Bool). decimal_at x k && t) (each_place x (k + 1) n ∙ ap (λ (m : ℕ). digits_below 16 10 n m) (sym (next_place x k)))

-- zeros are digits of each base
zeros_below : (n : ℕ) → digits_below 16 10 n 0 ≡ true
unfolding digits_below
zeros_below zero = refl
zeros_below (suc n) = zeros_below n

zeros_above : (m n x : ℕ) → m ≤ n → x < 16 ^ m → digits_below 16 10 m x ≡ digits_below 16 10 n x
unfolding digits_below
zeros_above zero n x few l = let none : x ≡ 0 = omega arith in rw none (sym (zeros_below n))
zeros_above (suc m) zero x few l = absurd (omega arith)
zeros_above (suc m) (suc n) x few l =
    let some : 0 < 16 = omega arith in
    let less : x / 16 < 16 ^ m = (div-lt_iff_lt-mul some).1 (rw (mul_comm (16 ^ m) 16, ← pow-succ' 16 m) l) in
    ap (λ (t : Bool). ltb (x % 16) 10 && t) (zeros_above m n (x / 16) (omega arith) less)

pub each_digit : (n x : ℕ) → x < 2 ^ 64 → list_all (decimal_at x) (range_with_len 0 (min n 16)) ≡ digits_below 16 10 n x
each_digit n x l =
    each_place x 0 (min n 16)
    ∙ ap (λ (m : ℕ). digits_below 16 10 (min n 16) m) (div-one x)
    ∙ ⊎_elim {C = digits_below 16 10 (min n 16) x ≡ digits_below 16 10 n x}
    (λ (few : n < 16). ap (λ (m : ℕ). digits_below 16 10 m x) (omega arith))
    (λ (many : 16 ≤ n).
    let sixteen : min n 16 ≡ 16 = omega arith in
    rw sixteen (zeros_above 16 n x many (omega arith)))
    (below n 16)
