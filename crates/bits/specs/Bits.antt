-- RULES 3.1: bit i of n bytes is bit i mod 8 of byte n-1-floor(i/8).
use Rattle.std.specs.Prelude.{ℕ, zero, suc, ◌+◌, ◌-◌, ◌*◌, ◌/◌, ◌%◌, ◌^◌, max, Bool, cond, List, [], ◌∷◌, length, get_or, ltb, eqb}

-- bit k of the number x
unfoldable pub bit : ℕ → ℕ → ℕ
bit x k = x / 2 ^ k % 2

-- bit i of the bytes xs, and 0 past them
unfoldable pub bit_at : List ℕ → ℕ → ℕ
bit_at xs i = cond (ltb (i / 8) (length xs)) (bit (get_or xs (length xs - 1 - i / 8) 0) (i % 8)) 0

-- the number whose n lowest bits are f 0, f 1, .., and that has no others
unfoldable pub number : ℕ → (ℕ → ℕ) → ℕ
number zero f = 0
number (suc n) f = f 0 + 2 * number n (λ k. f (suc k))

-- the n bytes whose bit i is f i
unfoldable pub packed : ℕ → (ℕ → ℕ) → List ℕ
packed zero f = []
packed (suc n) f = number 8 (λ k. f (8 * n + k)) ∷ packed n f

-- which bit stands at the offset o of byte j of n bytes
abbrev pub place : ℕ → ℕ → ℕ → ℕ
place n j o = 8 * (n - 1 - j) + o

-- the bits f with v at i
abbrev pub update : (ℕ → ℕ) → ℕ → ℕ → ℕ → ℕ
update f i v k = cond (eqb k i) v (f k)

-- the bytes xs after the lowest bit of v is ORed into bit i, which is cleared first or not
unfoldable pub or_bit : Bool → List ℕ → ℕ → ℕ → List ℕ
or_bit clear xs i v = packed (length xs) (update (bit_at xs) i (max (cond clear 0 (bit_at xs i)) (v % 2)))

-- the same at the offset o of byte j, where there is such a byte
abbrev pub or_bit_checked : Bool → List ℕ → ℕ → ℕ → ℕ → List ℕ
or_bit_checked clear xs j o v = cond (ltb j (length xs)) (or_bit clear xs (place (length xs) j o) v) xs
