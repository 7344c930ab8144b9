-- RULES 14.6, 14.7: the range of each encoding, and the pattern of a number: the bits that it is written as.
use Rattle.std.specs.Prelude.{ℕ, suc, ◌+◌, ◌-◌, ◌^◌, ◌/◌, Bool, ◌&&◌, ℤ, pos, negsuc, neg_ℤ, nat_abs}
use Rattle.std.specs.Int.Signed.{le_z}
use Rattle.encodings.specs.declared.forms.Encoding.{Encoding}
use Rattle.encodings.specs.declared.forms.Encoding.TheVariants.{TwosComplement, OnesComplement, SignMagnitude, PackedDecimal}
use Rattle.numerals.specs.Digits.{rebased}

-- how far the range goes above zero, and how far below
abbrev pub height : Encoding → ℕ → ℕ
height TwosComplement width = 2 ^ (width - 1) - 1
height OnesComplement width = 2 ^ (width - 1) - 1
height SignMagnitude width = 2 ^ (width - 1) - 1
height PackedDecimal width = 10 ^ (width / 4) - 1

abbrev pub depth : Encoding → ℕ → ℕ
depth TwosComplement width = 2 ^ (width - 1)
depth OnesComplement width = 2 ^ (width - 1) - 1
depth SignMagnitude width = 2 ^ (width - 1) - 1
depth PackedDecimal width = 0

abbrev pub least : Encoding → ℕ → ℤ
least e width = neg_ℤ (pos (depth e width))

abbrev pub greatest : Encoding → ℕ → ℤ
greatest e width = pos (height e width)

unfoldable pub in_range : Encoding → ℕ → ℤ → Bool
in_range e width v = le_z (least e width) v && le_z v (greatest e width)

-- `negsuc n` is -(n + 1). That these bits say the number is a theorem, `Says` of crates/round_trips
unfoldable pub pattern_of : Encoding → ℕ → ℤ → ℕ
pattern_of TwosComplement width (pos n) = n
pattern_of TwosComplement width (negsuc n) = 2 ^ width - suc n
pattern_of OnesComplement width (pos n) = n
pattern_of OnesComplement width (negsuc n) = 2 ^ width - 1 - suc n
pattern_of SignMagnitude width (pos n) = n
pattern_of SignMagnitude width (negsuc n) = 2 ^ (width - 1) + suc n
pattern_of PackedDecimal width v = rebased 10 16 (width / 4) (nat_abs v)
