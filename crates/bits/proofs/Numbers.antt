-- Bits of a number, and numbers made of bits.
use Rattle.std.proofs.Common.{◌≡◌, refl, sym, ap, ap₂, ◌∙◌, cond, ℕ, zero, suc, ◌+◌, ◌-◌, ◌*◌, ◌/◌, ◌%◌, ◌^◌, ◌<◌, min, max, arith, mod-lt, zero-lt-suc, zero-add, pow-suc, mul_comm, mod-eq_of_lt, eqb, bit_or, bit_and}
use Rattle.std.proofs.lemmas.Nat.{or_shr, and_shr, or_mod, and_mod}
use native.Mathlib.Nat.{div-div-eq-div-mul, add-mul-mod_self_left}
use lib.Dec.{eqb-zero-suc, eqb-suc-zero, eqb-suc-suc}
use lib.Bits.{shifted_half, shifted_even}
use Rattle.bits.specs.Bits.{bit, number}

-- ---- bits of a number

pub bit-lt : (x k : ℕ) → bit x k < 2
unfolding bit
bit-lt x k = mod-lt (x / 2 ^ k) (zero-lt-suc 1)

pub bit-zero : (x : ℕ) → bit x 0 ≡ x % 2
unfolding bit
bit-zero x = ap (λ (n : ℕ). n % 2) (omega arith)

pub bit-suc : (x k : ℕ) → bit x (suc k) ≡ bit (x / 2) k
unfolding bit
bit-suc x k = rw (pow-suc, mul_comm (2 ^ k) 2, ← div-div-eq-div-mul x 2 (2 ^ k))

-- below 2 the operations on bits are those on numbers
or_two : (a b : ℕ) → a < 2 → b < 2 → bit_or a b ≡ max a b
or_two zero b ha hb = omega arith
or_two (suc zero) zero ha hb = refl
or_two (suc zero) (suc zero) ha hb = refl
or_two (suc zero) (suc (suc b)) ha hb = omega arith
or_two (suc (suc a)) b ha hb = omega arith

pub bit-or : (a b k : ℕ) → bit (bit_or a b) k ≡ max (bit a k) (bit b k)
unfolding bit
bit-or a b k = ap (λ (n : ℕ). n % 2) (or_shr a b k) ∙ or_mod (a / 2 ^ k) (b / 2 ^ k) 1 ∙ or_two (a / 2 ^ k % 2) (b / 2 ^ k % 2) (bit-lt a k) (bit-lt b k)

pub and_two : (a b : ℕ) → a < 2 → b < 2 → bit_and a b ≡ min a b
and_two zero b ha hb = omega arith
and_two (suc zero) zero ha hb = refl
and_two (suc zero) (suc zero) ha hb = refl
and_two (suc zero) (suc (suc b)) ha hb = omega arith
and_two (suc (suc a)) b ha hb = omega arith

pub bit-and : (a b k : ℕ) → bit (bit_and a b) k ≡ min (bit a k) (bit b k)
unfolding bit
bit-and a b k = ap (λ (n : ℕ). n % 2) (and_shr a b k) ∙ and_mod (a / 2 ^ k) (b / 2 ^ k) 1 ∙ and_two (a / 2 ^ k % 2) (b / 2 ^ k % 2) (bit-lt a k) (bit-lt b k)

pub bit_of_zero : (k : ℕ) → bit 0 k ≡ 0
bit_of_zero zero = bit-zero 0
bit_of_zero (suc k) = bit-suc 0 k ∙ bit_of_zero k

-- a bit that is shifted up stands alone
pub bit_shl : (v o k : ℕ) → v < 2 → bit (v * 2 ^ o) k ≡ cond (eqb k o) v 0
bit_shl v zero zero h = bit-zero _ ∙ omega arith
bit_shl v zero (suc k) h = bit-suc _ k ∙ ap (λ (n : ℕ). bit n k) (omega arith) ∙ bit_of_zero k ∙ simp (eqb-suc-zero)
bit_shl v (suc o) zero h = bit-zero _ ∙ shifted_even v o ∙ simp (eqb-zero-suc)
bit_shl v (suc o) (suc k) h = bit-suc _ k ∙ rw (shifted_half v o, eqb-suc-suc) (bit_shl v o k h)

-- the bits of the complement in n bits
pub bit_not : (n x k : ℕ) → x < 2 ^ n → k < n → bit (2 ^ n - 1 - x) k ≡ 1 - bit x k
bit_not zero x k h l = omega arith
bit_not (suc n) x zero h l =
    let p : 2 ^ suc n ≡ 2 ^ n * 2 = pow-suc 2 n in
    rw (bit-zero (2 ^ suc n - 1 - x), bit-zero x) (omega arith)
bit_not (suc n) x (suc k) h l =
    let p : 2 ^ suc n ≡ 2 ^ n * 2 = pow-suc 2 n in
    let half : (2 ^ suc n - 1 - x) / 2 ≡ 2 ^ n - 1 - x / 2 = omega arith in
    rw (bit-suc (2 ^ suc n - 1 - x) k, bit-suc x k, half) (bit_not n (x / 2) k (omega arith) (omega arith))

-- ---- numbers of bits

-- f gives bits
abbrev pub Bits : (ℕ → ℕ) → Type 0
Bits f = (k : ℕ) → f k < 2

pub number_ext : (n : ℕ) (f g : ℕ → ℕ) → ((k : ℕ) → k < n → f k ≡ g k) → number n f ≡ number n g
unfolding number
number_ext zero f g h = refl
number_ext (suc n) f g h =
    ap₂ (λ (x y : ℕ). x + 2 * y) (h 0 (omega arith)) (number_ext n (λ k. f (suc k)) (λ k. g (suc k)) (λ k l. h (suc k) (omega arith)))

pub bit-number : (n : ℕ) (f : ℕ → ℕ) → Bits f → (k : ℕ) → k < n → bit (number n f) k ≡ f k
unfolding number
bit-number zero f h k l = omega arith
bit-number (suc n) f h zero l = bit-zero _ ∙ omega (arith, h 0)
bit-number (suc n) f h (suc k) l =
    bit-suc _ k
    ∙ ap (λ (x : ℕ). bit x k) (let h0 = h 0 in omega arith)
    ∙ bit-number n (λ j. f (suc j)) (λ j. h (suc j)) k (omega arith)

pub number_lt : (n : ℕ) (f : ℕ → ℕ) → Bits f → number n f < 2 ^ n
unfolding number
number_lt zero f h = omega arith
number_lt (suc n) f h = let r = number_lt n (λ k. f (suc k)) (λ k. h (suc k)) in rw pow-suc (omega (arith, h 0))

pub number_bits : (n x : ℕ) → x < 2 ^ n → number n (bit x) ≡ x
unfolding number
number_bits zero x h = omega arith
number_bits (suc n) x h =
    ap₂ (λ (a b : ℕ). a + 2 * b) (bit-zero x)
    (number_ext n (λ k. bit x (suc k)) (bit (x / 2)) (λ k l. bit-suc x k) ∙ number_bits n (x / 2) (let h2 : x < 2 ^ n * 2 = rw pow-suc at h in omega arith))
    ∙ omega arith

-- ---- more bits

pub number-add : (a b : ℕ) (f : ℕ → ℕ) → number (a + b) f ≡ number a f + 2 ^ a * number b (λ k. f (a + k))
unfolding number
number-add zero b f =
    ap (λ (n : ℕ). number n f) (zero-add b) ∙ number_ext b f (λ k. f (0 + k)) (λ k l. ap f (sym (zero-add k))) ∙ omega arith
number-add (suc a) b f =
    let up : suc a + b ≡ suc (a + b) = omega arith in
    let rest = number_ext b (λ k. f (suc (a + k))) (λ k. f (suc a + k)) (λ k l. ap f (omega arith)) in
    ap (λ (n : ℕ). number n f) up
    ∙ ap (λ (x : ℕ). f 0 + 2 * x) (number-add a b (λ k. f (suc k)) ∙ ap (λ (x : ℕ). number a (λ k. f (suc k)) + 2 ^ a * x) rest)
    ∙ rw (pow-suc 2 a) (omega arith)

-- the lowest bits of a number of bits
pub number_lowest : (a b : ℕ) (f : ℕ → ℕ) → Bits f → number (a + b) f % 2 ^ a ≡ number a f
number_lowest a b f h =
    ap (λ (n : ℕ). n % 2 ^ a) (number-add a b f) ∙ add-mul-mod_self_left (number a f) (2 ^ a) (number b (λ k. f (a + k))) ∙ mod-eq_of_lt (number_lt a f h)
