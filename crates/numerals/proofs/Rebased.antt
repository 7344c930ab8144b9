-- Digits that are taken from one base to another: how large they can get, that they can be taken back, and the loop that takes them.
use Rattle.std.proofs.Common.{◌≡◌, refl, sym, true, ℕ, zero, suc, ◌+◌, ◌-◌, ◌*◌, ◌/◌, ◌%◌, ◌^◌, ◌≤◌, ◌<◌, arith, mod-lt, mul-le-mul, mul-le-mul_left, mul-suc, pow-suc, div-lt_iff_lt-mul, mul_comm, ltb, lt-ltb, ltb-true}
use Rattle.std.proofs.lemmas.Nat.{mod-mul-add, div-mul-add}
use native.Mathlib.Nat.{mod-add-div, pow-le-pow_right, pow-zero, pow-succ'}
use Rattle.kinds.proofs.Outcomes.{both}
use Rattle.numerals.specs.Digits.{rebased, digits_below}

module _ (b c : ℕ) (some : 0 < b) where
  -- digits of the smaller base are digits of the greater
  pub digits_all : b ≤ c → (n x : ℕ) → digits_below b c n x ≡ true
  unfolding digits_below
  digits_all h zero x = refl
  digits_all h (suc n) x = rw (lt-ltb (x % b) c (omega (arith, mod-lt x some)), digits_all h n (x / b))

  -- in a base that is not greater they say no more
  pub rebased_le : c ≤ b → (n x : ℕ) → rebased b c n x ≤ x
  unfolding rebased
  rebased_le h zero x = omega arith
  rebased_le h (suc n) x =
      let rest = mul-le-mul h (rebased_le h n (x / b)) in
      omega (arith, mod-add-div x b)

  -- n digits of a base are below its n-th power
  pub rebased-lt : (n x : ℕ) → digits_below b c n x ≡ true → rebased b c n x < c ^ n
  unfolding rebased digits_below
  rebased-lt zero x e = omega (arith, pow-zero c)
  rebased-lt (suc n) x e =
      let two = both (ltb (x % b) c) (digits_below b c n (x / b)) e in
      let digit = ltb-true (x % b) c two.0 in
      let rest = mul-le-mul_left c (rebased-lt n (x / b) two.1) in
      rw (pow-succ' c n) (omega (arith, mul-suc c (rebased b c n (x / b))))

-- taken there and back
module _ (b c : ℕ) (some : 0 < b) where
  low_digit : (d r : ℕ) → d < c → (d + c * r) % c ≡ d
  low_digit d r h = let same : d + c * r ≡ r * c + d = omega arith in rw same (mod-mul-add r c d h)

  other_digits : (d r : ℕ) → d < c → (d + c * r) / c ≡ r
  other_digits d r h = let same : d + c * r ≡ r * c + d = omega arith in rw same (div-mul-add r c d h)

  pub digits_made : (n x : ℕ) → digits_below b c n x ≡ true → digits_below c b n (rebased b c n x) ≡ true
  unfolding rebased digits_below
  digits_made zero x e = refl
  digits_made (suc n) x e =
      let two = both (ltb (x % b) c) (digits_below b c n (x / b)) e in
      let digit = ltb-true (x % b) c two.0 in
      rw (low_digit (x % b) (rebased b c n (x / b)) digit, other_digits (x % b) (rebased b c n (x / b)) digit, lt-ltb (x % b) b (mod-lt x some))
      (digits_made n (x / b) two.1)

  pub rebased_back : (n x : ℕ) → digits_below b c n x ≡ true → x < b ^ n → rebased c b n (rebased b c n x) ≡ x
  unfolding rebased digits_below
  rebased_back zero x e l = omega (arith, pow-zero b)
  rebased_back (suc n) x e l =
      let two = both (ltb (x % b) c) (digits_below b c n (x / b)) e in
      let digit = ltb-true (x % b) c two.0 in
      let less : x / b < b ^ n = (div-lt_iff_lt-mul some).1 (rw (mul_comm (b ^ n) b, ← pow-succ' b n) l) in
      rw (low_digit (x % b) (rebased b c n (x / b)) digit, other_digits (x % b) (rebased b c n (x / b)) digit, rebased_back n (x / b) two.1 less)
      (mod-add-div x b)

-- ---- the loop that takes digits to another base

-- what is made of the first digits, and what the others make: `count` is what the last of the first counts
unfoldable pub together : (b c made count n rest : ℕ) → ℕ
together b c made count n rest = made + count * (c * rebased b c n (rest / b))

module _ (b c : ℕ) where
  pub rebase_first : (n x : ℕ) → 0 < n → together b c (x % b) 1 (n - 1) x ≡ rebased b c n x
  unfolding together rebased
  rebase_first zero x l = absurd (omega arith)
  rebase_first (suc n) x l = let less : suc n - 1 ≡ n = omega arith in rw less (omega arith)

  pub rebase_step : (made count n k rest : ℕ) → k < n
      → together b c (made + rest / b % b * (count * c)) (count * c) (n - (k + 1)) (rest / b) ≡ together b c made count (n - k) rest
  unfolding together rebased
  rebase_step made count n k rest l =
      let up : n - k ≡ suc (n - (k + 1)) = omega arith in
      let d = rest / b % b in
      let r = c * rebased b c (n - (k + 1)) (rest / b / b) in
      rw up (regroup made count d r)
    where
      regroup : (made count d r : ℕ) → made + d * (count * c) + count * c * r ≡ made + count * (c * (d + r))
      regroup made count d r = omega arith

  -- what is made is no more than the whole
  pub made-le : (made count n k rest : ℕ) → k < n → made + rest / b % b * (count * c) ≤ together b c made count (n - k) rest
  unfolding together
  made-le made count n k rest l = let e = rebase_step made count n k rest l in omega arith

  pub rebase_done : (made count n k rest : ℕ) → k ≡ n → together b c made count (n - k) rest ≡ made
  unfolding together rebased
  rebase_done made count n k rest e = let none : n - k ≡ 0 = omega arith in rw none (omega arith)

-- ---- powers that fit

pub power_fits : (c k n : ℕ) → 0 < c → k ≤ n → c ^ n < 2 ^ 64 → c ^ k < 2 ^ 64
power_fits c k n some l h = let most = pow-le-pow_right {n = c} some {i = k} {j = n} l in omega arith

pub next_power : (c k : ℕ) → 1 ≤ k → c ^ (k - 1) * c ≡ c ^ (k + 1 - 1)
next_power c zero l = absurd (omega arith)
next_power c (suc k) l =
    let less : suc k - 1 ≡ k = omega arith in
    let same : suc k + 1 - 1 ≡ suc k = omega arith in
    rw (less, same) (sym (pow-suc c k))

pub ruleset rebase_laws = (rebase_first, rebase_step, made-le, rebase_done, power_fits, pow-zero, next_power)
