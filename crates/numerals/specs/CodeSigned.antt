-- How the code holds an integer, as its sign and its magnitude; no part of RULES.
use Rattle.std.specs.Prelude.{Bool, true, false, ℤ, pos, neg_ℤ}
use Rattle.numerals.specs.declared.signed.Signed.{Signed}
use Rattle.numerals.specs.declared.signed.Signed.TheVariants.{Plus, Minus}

abbrev pub integer : Signed → ℤ
integer (Plus magnitude) = pos magnitude
integer (Minus magnitude) = neg_ℤ (pos magnitude)

abbrev pub is_minus : Signed → Bool
is_minus (Plus magnitude) = false
is_minus (Minus magnitude) = true
