-- RULES 14.4, 14.5: what the bits of a value say. They are given as their pattern: the number that they make, which is below 2^width.
use Rattle.std.specs.Prelude.{ℕ, ◌-◌, ◌^◌, ◌/◌, Bool, true, cond, eqb, ℤ, pos, neg_ℤ}
use Rattle.std.proofs.Math.IntN.{sub_ℕ}
use Rattle.bits.specs.Bits.{bit}
use Rattle.encodings.specs.declared.forms.Encoding.{Encoding}
use Rattle.encodings.specs.declared.forms.Encoding.TheVariants.{TwosComplement, OnesComplement, SignMagnitude, PackedDecimal}
use Rattle.numerals.specs.Digits.{rebased, digits_below}

-- the number itself where the highest of the bits is 0, and another where it is 1
abbrev pub by_sign : ℕ → ℕ → ℤ → ℤ
by_sign width pattern other = cond (eqb (bit pattern (width - 1)) 0) (pos pattern) other

-- `sub_ℕ a b` is a - b. In packed decimal each digit of base 16 is one of base 10
unfoldable pub meaning : Encoding → ℕ → ℕ → ℤ
meaning TwosComplement width pattern = by_sign width pattern (sub_ℕ pattern (2 ^ width))
meaning OnesComplement width pattern = by_sign width pattern (sub_ℕ pattern (2 ^ width - 1))
meaning SignMagnitude width pattern = by_sign width pattern (neg_ℤ (pos (pattern - 2 ^ (width - 1))))
meaning PackedDecimal width pattern = pos (rebased 16 10 (width / 4) pattern)

-- no decimal digit is above 9
abbrev pub legal_digits : Encoding → ℕ → ℕ → Bool
legal_digits TwosComplement width pattern = true
legal_digits OnesComplement width pattern = true
legal_digits SignMagnitude width pattern = true
legal_digits PackedDecimal width pattern = digits_below 16 10 (width / 4) pattern
