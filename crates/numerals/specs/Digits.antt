-- Digits of a number, as RULES 14.5 and 14.7 have them.
use Rattle.std.specs.Prelude.{ℕ, zero, suc, ◌+◌, ◌*◌, ◌/◌, ◌%◌, Bool, true, ◌&&◌, ltb}

-- the n lowest digits of x in base b, taken as digits in base c
unfoldable pub rebased : ℕ → ℕ → ℕ → ℕ → ℕ
rebased b c zero x = 0
rebased b c (suc n) x = x % b + c * rebased b c n (x / b)

-- the n lowest digits of x in base b are all below c
unfoldable pub digits_below : ℕ → ℕ → ℕ → ℕ → Bool
digits_below b c zero x = true
digits_below b c (suc n) x = ltb (x % b) c && digits_below b c n (x / b)
