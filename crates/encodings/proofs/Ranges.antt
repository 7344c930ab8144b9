-- The range as comparisons of magnitudes, and the bits of a number.
use Rattle.std.proofs.Common.{◌≡◌, refl, sym, ap, ◌∙◌, Bool, true, false, ◌&&◌, true≢false, ℕ, zero, suc, ◌+◌, ◌-◌, ◌/◌, ◌^◌, ◌≤◌, ◌<◌, arith, leb, pos, negsuc, neg_ℤ, le-leb, leb-true, ltb-true}
use Rattle.std.proofs.lemmas.Bool.{lt-leb}
use mathlib.Core.Bool.{and-true}
use native.Mathlib.Nat.{one-le-pow, pow-le-pow_right}
use lib.Dec.{leb-suc-suc}
use lib.Signed.{le_z, lt_z}
use Rattle.encodings.specs.declared.forms.Encoding.{Encoding}
use Rattle.encodings.specs.declared.forms.Encoding.TheVariants.{TwosComplement, OnesComplement, SignMagnitude, PackedDecimal}
use Rattle.encodings.specs.Writing.{height, depth, in_range, pattern_of}
use Rattle.encodings.specs.CodeSaid.{opposite_of}
use Rattle.encodings.proofs.Meaning.{is_decimal, widths, digits_of, is_packed, opposite_lt}
use Rattle.numerals.specs.Digits.{rebased}
use Rattle.numerals.proofs.Rebased.{digits_all, rebased-lt, power_fits}
use Rattle.encodings.specs.Widths.{allowed}
use Rattle.numerals.proofs.Halves.{halves, half_most}

least_below : (d n : ℕ) → le_z (neg_ℤ (pos d)) (pos n) ≡ true
least_below zero n = le-leb 0 n (omega arith)
least_below (suc d) n = refl

below_least : (d n : ℕ) → le_z (neg_ℤ (pos d)) (negsuc n) ≡ leb (suc n) d
below_least zero n = sym (lt-leb (suc n) 0 (omega arith))
below_least (suc d) n = sym (leb-suc-suc n d)

module _ (e : Encoding) (width : ℕ) where
  pub in_above : (n : ℕ) → in_range e width (pos n) ≡ leb n (height e width)
  unfolding in_range
  in_above n = ap (λ (t : Bool). t && leb n (height e width)) (least_below (depth e width) n)

  pub in_below : (m : ℕ) → in_range e width (neg_ℤ (pos m)) ≡ leb m (depth e width)
  unfolding in_range
  in_below zero = in_above 0 ∙ le-leb 0 (height e width) (omega arith) ∙ sym (le-leb 0 (depth e width) (omega arith))
  in_below (suc n) = and-true (le_z (neg_ℤ (pos (depth e width))) (negsuc n)) ∙ below_least (depth e width) n

pub some_tens : (k : ℕ) → 1 ≤ 10 ^ k
some_tens k = one-le-pow k 10 (omega arith)

-- ---- the bits of a number

pub bits_below : (e : Encoding) (width m : ℕ) → 1 ≤ width → 0 < m → m ≤ depth e width → 2 ^ (width - 1) + opposite_of e width m ≡ pattern_of e width (neg_ℤ (pos m))
unfolding pattern_of
bits_below e width zero w l h = absurd (omega arith)
bits_below TwosComplement width (suc n) w l h = let two = halves width w in omega arith
bits_below OnesComplement width (suc n) w l h = let two = halves width w in omega arith
bits_below SignMagnitude width (suc n) w l h = refl
bits_below PackedDecimal width (suc n) w l h = absurd (omega arith)

pub bits_above : (e : Encoding) (width n : ℕ) → is_decimal e ≡ false → n ≡ pattern_of e width (pos n)
unfolding pattern_of
bits_above TwosComplement width n s = refl
bits_above OnesComplement width n s = refl
bits_above SignMagnitude width n s = refl
bits_above PackedDecimal width n s = absurd (true≢false s)

-- what is below zero is not zero
pub below_some : (m : ℕ) → lt_z (neg_ℤ (pos m)) (pos 0) ≡ true → 0 < m
below_some zero e = let l = ltb-true 0 0 e in omega arith
below_some (suc m) e = omega arith

-- a number below zero has a magnitude, which the depth allows
pub deep : (e : Encoding) (width m : ℕ) → in_range e width (neg_ℤ (pos m)) ≡ true → true ≡ lt_z (neg_ℤ (pos m)) (pos 0)
    → (0 < m) × (m ≤ depth e width)
deep e width m inside below = (below_some m (sym below), leb-true m _ (sym (in_below e width m) ∙ inside))

-- in packed decimal the pattern of a number has at most 16 digits of base 16, of which the highest counts below 2^64
module _ (e : Encoding) (width : ℕ) (s : is_decimal e ≡ true) (a : allowed e width ≡ true) where
  pub top_fits : 16 ^ (width / 4 - 1) < 2 ^ 64
  top_fits =
      let d = digits_of width (rw (is_packed e s) at a) in
      power_fits 16 (width / 4 - 1) 15 (omega arith) (omega arith) (omega arith)

  pub digits_fit : (m : ℕ) → rebased 10 16 (width / 4) m < 2 ^ 64
  digits_fit m =
      let d = digits_of width (rw (is_packed e s) at a) in
      let most = pow-le-pow_right {n = 16} (omega arith) {i = width / 4} {j = 16} (omega arith) in
      omega (arith, rebased-lt 10 16 (omega arith) (width / 4) m (digits_all 10 16 (omega arith) (omega arith) (width / 4) m))

pub ruleset written_laws = (top_fits, digits_fit, widths, is_packed, opposite_lt, half_most, deep, bits_below, bits_above)
