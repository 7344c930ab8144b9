-- Bytes as one number, and a number as bytes, one byte after the other.
use Rattle.std.proofs.Common.{◌≡◌, sym, ap, ap₂, ◌∙◌, List, ℕ, zero, suc, ◌+◌, ◌-◌, ◌*◌, ◌/◌, ◌%◌, ◌^◌, ◌≤◌, ◌<◌, arith, suc-mul, length, get_or, set, bit_and, pow_pos, pow_mono, pow-add, shr-shr}
use Rattle.std.proofs.lemmas.Nat.{and_mask, mod-pow-add}
use native.Mathlib.Nat.{mod-one, div-eq_of_lt-le}
use Rattle.kinds.specs.Types.{bytes_for}
use Rattle.bits.specs.Bits.{bit, bit_at, number, packed}
use Rattle.bits.specs.Moves.{from}
use Rattle.bits.proofs.Numbers.{bit-zero, bit-suc, number_ext, number_lt, number_bits, number-add, number_lowest}
use Rattle.bits.proofs.Bytes.{Bytes, bit_at_in, bit_at_lt}
use Rattle.bits.proofs.Written as bytewise
use Rattle.bits.proofs.Written.{byte_of}

-- ---- bytes as a number

-- the j first of them
abbrev pub front : List ℕ → ℕ → ℕ
front xs j = number (8 * j) (from (8 * (length xs - j)) (bit_at xs))

pub front_all : (xs : List ℕ) (j : ℕ) → j ≡ length xs → front xs j ≡ number (8 * length xs) (bit_at xs)
front_all xs j e =
    ap (λ (n : ℕ). number (8 * n) (from (8 * (length xs - j)) (bit_at xs))) e
    ∙ number_ext (8 * length xs) (from (8 * (length xs - j)) (bit_at xs)) (bit_at xs) (λ k l. ap (bit_at xs) (omega arith))

pub front_fits : (xs : List ℕ) (j : ℕ) → j ≤ 8 → front xs j < 2 ^ 64
front_fits xs j l =
    let most = pow_mono {i = 8 * j} {j = 64} (omega arith) in
    omega (arith, number_lt (8 * j) (from (8 * (length xs - j)) (bit_at xs)) (λ k. bit_at_lt xs (8 * (length xs - j) + k)))

module _ (xs : List ℕ) (h : Bytes xs) where
  byte_bits : (j : ℕ) → j < length xs → number 8 (from (8 * (length xs - (j + 1))) (bit_at xs)) ≡ get_or xs j 0
  byte_bits j l =
      number_ext 8 (from (8 * (length xs - (j + 1))) (bit_at xs)) (bit (get_or xs j 0)) (λ k lk.
      let i : ℕ = 8 * (length xs - (j + 1)) + k in
      let at : length xs - 1 - i / 8 ≡ j = omega arith in
      let o : i % 8 ≡ k = omega arith in
      bit_at_in xs i (omega arith) ∙ rw (at, o))
      ∙ number_bits 8 (get_or xs j 0) (h j)

  pub front_step : (j : ℕ) → j < length xs → 256 * front xs j + get_or xs j 0 ≡ front xs (j + 1)
  front_step j l =
      let f = from (8 * (length xs - (j + 1))) (bit_at xs) in
      let more : 8 * (j + 1) ≡ 8 + 8 * j = omega arith in
      let rest = number_ext (8 * j) (λ k. f (8 + k)) (from (8 * (length xs - j)) (bit_at xs)) (λ k lk. ap (bit_at xs) (omega arith)) in
      sym (ap (λ (n : ℕ). number n f) more ∙ number-add 8 (8 * j) f ∙ ap₂ (λ (a b : ℕ). a + 256 * b) (byte_bits j l) rest ∙ omega arith)

pub ruleset front_laws = (front_all, front_fits, front_step)

-- the lowest bits of all
pub lowest_bits : (xs : List ℕ) (width : ℕ) → width ≤ 64 → length xs ≡ bytes_for width
    → bit_and (number (8 * length xs) (bit_at xs)) (0xFFFFFFFFFFFFFFFF / 2 ^ (64 - width)) ≡ number width (bit_at xs)
lowest_bits xs width w e =
    let all : 8 * length xs ≡ width + (8 * length xs - width) = omega arith in
    ap (bit_and (number (8 * length xs) (bit_at xs))) ones
    ∙ and_mask (number (8 * length xs) (bit_at xs)) width
    ∙ ap (λ (n : ℕ). number n (bit_at xs) % 2 ^ width) all
    ∙ number_lowest width (8 * length xs - width) (bit_at xs) (bit_at_lt xs)
  where
    below : (a b : ℕ) → 0 < a → 0 < b → b * a ≡ 2 ^ 64 → 0xFFFFFFFFFFFFFFFF / a ≡ b - 1
    below a zero some none is = absurd (omega arith)
    below a (suc k) some none is = div-eq_of_lt-le {k = k} a (omega (arith, suc-mul k a)) (omega arith) ∙ omega arith

    ones : 0xFFFFFFFFFFFFFFFF / 2 ^ (64 - width) ≡ 2 ^ width - 1
    ones =
        let both : width + (64 - width) ≡ 64 = omega arith in
        below (2 ^ (64 - width)) (2 ^ width) (pow_pos (64 - width)) (pow_pos width) (sym (pow-add 2 width (64 - width)) ∙ ap (λ (n : ℕ). 2 ^ n) both)

-- ---- a number as bytes

-- the lowest bits of a number
pub number-mod : (n x : ℕ) → number n (bit x) ≡ x % 2 ^ n
unfolding number
number-mod zero x = sym (mod-one x)
number-mod (suc n) x =
    let one : n + 1 ≡ suc n = omega arith in
    let split = rw one at (mod-pow-add x n 1) in
    ap₂ (λ (a b : ℕ). a + 2 * b) (bit-zero x) (number_ext n (λ k. bit x (suc k)) (bit (x / 2)) (λ k l. bit-suc x k) ∙ number-mod n (x / 2))
    ∙ omega arith

bit_behind : (x i k : ℕ) → bit x (i + k) ≡ bit (x / 2 ^ i) k
unfolding bit
bit_behind x i k = ap (λ (n : ℕ). n % 2) (sym (shr-shr x i k))

-- byte j of n
byte_of_number : (n x j : ℕ) → j < n → x / 2 ^ (8 * (n - 1 - j)) % 256 ≡ get_or (packed n (bit x)) j 0
byte_of_number n x j l =
    let i : ℕ = 8 * (n - 1 - j) in
    sym (byte_of n (bit x) j l ∙ number_ext 8 (λ k. bit x (i + k)) (bit (x / 2 ^ i)) (λ k lk. bit_behind x i k) ∙ number-mod 8 (x / 2 ^ i))

-- the j first bytes written
pub written : List ℕ → ℕ → ℕ → List ℕ
written xs x j = bytewise.written xs (bit x) j

pub written_none : (xs : List ℕ) (x : ℕ) → xs ≡ written xs x 0
unfolding written
written_none xs x = bytewise.written_none xs (bit x)

pub written_more : (xs ys : List ℕ) (x j m : ℕ) → j < length xs → length ys ≡ length xs → m ≡ length xs → ys ≡ written xs x j
    → set ys j (bit_and (x / 2 ^ (8 * (m - 1 - j))) 255) ≡ written xs x (j + 1)
unfolding written
written_more xs ys x j m l same all e =
    let i : ℕ = 8 * (m - 1 - j) in
    bytewise.written_more xs ys (bit x) j m (bit_and (x / 2 ^ i) 255) l e all
    (and_mask (x / 2 ^ i) 8 ∙ sym (number_ext 8 (from i (bit x)) (bit (x / 2 ^ i)) (λ k lk. bit_behind x i k) ∙ number-mod 8 (x / 2 ^ i)))

pub written_all : (xs : List ℕ) (x j : ℕ) → j ≡ length xs → written xs x j ≡ packed (length xs) (bit x)
unfolding written
written_all xs x j e = bytewise.written_all xs (bit x) j e

pub ruleset written_laws = (written_none, written_more, written_all)
