-- Bits and numbers: the bits of a number say it, bits are those of what they say, and what they say is in the range.
use Rattle.std.proofs.Common.{◌≡◌, refl, sym, ap, ◌∙◌, ⊎_elim, true, false, true≢false, ℕ, zero, suc, ◌+◌, ◌-◌, ◌*◌, ◌/◌, ◌^◌, ◌≤◌, ◌<◌, arith, pow-suc, ℤ, pos, negsuc, neg_ℤ, pow-add, pow_pos, le-leb, leb-true}
use native.Mathlib.Nat.{pow-le-pow_right}
use Rattle.kinds.proofs.Compare.{below}
use Rattle.numerals.specs.Digits.{rebased}
use Rattle.numerals.proofs.Rebased.{digits_all, digits_made, rebased-lt, rebased_back}
use Rattle.numerals.proofs.Halves.{halves}
use Rattle.encodings.specs.declared.forms.Encoding.{Encoding}
use Rattle.encodings.specs.declared.forms.Encoding.TheVariants.{TwosComplement, OnesComplement, SignMagnitude, PackedDecimal}
use Rattle.encodings.specs.Widths.{allowed}
use Rattle.encodings.specs.Meaning.{meaning, legal_digits}
use Rattle.encodings.specs.Writing.{height, depth, in_range, pattern_of}
use Rattle.encodings.specs.CodeSaid.{opposite_of}
use Rattle.round_trips.specs.RoundTrips.{Says}
use Rattle.encodings.proofs.Meaning.{is_decimal, widths, digits_of, signed_legal, signed_low, signed_high, lower_le, opposite_le, opposite_lt, opposite_back}
use Rattle.encodings.proofs.Ranges.{in_above, in_below, bits_below, bits_above}

-- so many digits of four bits
sixteens : (k : ℕ) → 16 ^ k ≡ 2 ^ (4 * k)
sixteens zero = refl
sixteens (suc k) =
    let more : 4 * suc k ≡ 4 * k + 4 = omega arith in
    pow-suc 16 k ∙ ap (λ (n : ℕ). n * 16) (sixteens k) ∙ sym (ap (λ (n : ℕ). 2 ^ n) more ∙ pow-add 2 (4 * k) 4)

digits_wide : (width : ℕ) → allowed PackedDecimal width ≡ true → 16 ^ (width / 4) ≡ 2 ^ width
digits_wide width a = sixteens (width / 4) ∙ ap (λ (n : ℕ). 2 ^ n) (sym (digits_of width a).2)

-- ---- numbers in the range

pub above_le : (e : Encoding) (width n : ℕ) → in_range e width (pos n) ≡ true → n ≤ height e width
above_le e width n h = leb-true n (height e width) (sym (in_above e width n) ∙ h)

pub below_le : (e : Encoding) (width m : ℕ) → in_range e width (neg_ℤ (pos m)) ≡ true → m ≤ depth e width
below_le e width m h = leb-true m (depth e width) (sym (in_below e width m) ∙ h)

pub le_above : (e : Encoding) (width n : ℕ) → n ≤ height e width → in_range e width (pos n) ≡ true
le_above e width n h = in_above e width n ∙ le-leb n (height e width) h

pub le_below : (e : Encoding) (width m : ℕ) → m ≤ depth e width → in_range e width (neg_ℤ (pos m)) ≡ true
le_below e width m h = in_below e width m ∙ le-leb m (depth e width) h

-- ---- the bits of a number say it

decimal_meaning : (width n : ℕ) → allowed PackedDecimal width ≡ true → n < 10 ^ (width / 4) → Says PackedDecimal width (rebased 10 16 (width / 4) n) (pos n)
unfolding meaning
decimal_meaning width n a l =
    let k = width / 4 in
    let all = digits_all 10 16 (omega arith) (omega arith) k n in
    let wide = digits_wide width a in
    record {
      few = omega (arith, rebased-lt 10 16 (omega arith) k n all);
      legal = digits_made 10 16 (omega arith) k n all;
      means = ap pos (rebased_back 10 16 (omega arith) k n all l);
    }

-- of an encoding with a sign, above zero and below
above_said : (e : Encoding) (width n : ℕ) → is_decimal e ≡ false → allowed e width ≡ true → n < 2 ^ (width - 1) → Says e width (pattern_of e width (pos n)) (pos n)
above_said e width n s a l =
    let w = widths e width a in
    let two = halves width (omega arith) in
    rw (sym (bits_above e width n s)) (record { few = omega arith; legal = signed_legal e width n s; means = signed_low width n (omega arith) e s l })

below_said : (e : Encoding) (width m : ℕ) → is_decimal e ≡ false → allowed e width ≡ true → 0 < m → m ≤ depth e width
    → Says e width (pattern_of e width (neg_ℤ (pos m))) (neg_ℤ (pos m))
below_said e width m s a some deep =
    let w = widths e width a in
    let two = halves width (omega arith) in
    let half = 2 ^ (width - 1) in
    let bits = half + opposite_of e width m in
    let less = opposite_lt width m e some deep in
    let lower : bits - half ≡ opposite_of e width m = omega arith in
    rw (sym (bits_below e width m (omega arith) some deep))
    (record {
      few = omega arith;
      legal = signed_legal e width bits s;
      means =
          signed_high width bits (omega arith) e s (omega arith) (omega arith)
          ∙ ap (λ (k : ℕ). neg_ℤ (pos (opposite_of e width k))) lower
          ∙ ap (λ (k : ℕ). neg_ℤ (pos k)) (opposite_back width m e s deep);
    })

-- a height is below what the highest bit counts
height_less : (e : Encoding) (width n : ℕ) → is_decimal e ≡ false → n ≤ height e width → n < 2 ^ (width - 1)
height_less TwosComplement width n s l = let some = pow_pos (width - 1) in omega arith
height_less OnesComplement width n s l = let some = pow_pos (width - 1) in omega arith
height_less SignMagnitude width n s l = let some = pow_pos (width - 1) in omega arith
height_less PackedDecimal width n s l = absurd (true≢false s)

signed_said : (e : Encoding) (width : ℕ) (v : ℤ) → is_decimal e ≡ false → allowed e width ≡ true → in_range e width v ≡ true → Says e width (pattern_of e width v) v
signed_said e width (pos n) s a h = above_said e width n s a (height_less e width n s (above_le e width n h))
signed_said e width (negsuc n) s a h = below_said e width (suc n) s a (omega arith) (below_le e width (suc n) h)

decimal_said : (width : ℕ) (v : ℤ) → allowed PackedDecimal width ≡ true → in_range PackedDecimal width v ≡ true → Says PackedDecimal width (pattern_of PackedDecimal width v) v
unfolding pattern_of
decimal_said width (pos n) a h =
    let some = pow-le-pow_right {n = 10} (omega arith) {i = 0} {j = width / 4} (omega arith) in
    let top = above_le PackedDecimal width n h in
    decimal_meaning width n a (omega arith)
decimal_said width (negsuc n) a h = let deep = below_le PackedDecimal width (suc n) h in absurd (omega arith)

pub number_said : (e : Encoding) (width : ℕ) (v : ℤ) → allowed e width ≡ true → in_range e width v ≡ true → Says e width (pattern_of e width v) v
number_said TwosComplement width v a h = signed_said TwosComplement width v refl a h
number_said OnesComplement width v a h = signed_said OnesComplement width v refl a h
number_said SignMagnitude width v a h = signed_said SignMagnitude width v refl a h
number_said PackedDecimal width v a h = decimal_said width v a h

-- ---- bits are those of what they say

-- bits that say zero are zeros
abbrev pub NoSecondZero : Encoding → ℕ → ℕ → Type 0
NoSecondZero e width bits = meaning e width bits ≡ pos 0 → bits ≡ 0

bits_of : (e : Encoding) (width : ℕ) {v w : ℤ} {b : ℕ} → v ≡ w → b ≡ pattern_of e width w → pattern_of e width v ≡ b
bits_of e width is h = ap (pattern_of e width) is ∙ sym h

decimal_bits : (width bits : ℕ) → allowed PackedDecimal width ≡ true → bits < 2 ^ width → legal_digits PackedDecimal width bits ≡ true
    → pattern_of PackedDecimal width (meaning PackedDecimal width bits) ≡ bits
unfolding meaning pattern_of
decimal_bits width bits a l d = let wide = digits_wide width a in rebased_back 16 10 (omega arith) (width / 4) bits d (omega arith)

-- a magnitude of 0 would be a second zero
not_zero : (e : Encoding) (width bits m : ℕ) → 0 < bits → NoSecondZero e width bits → meaning e width bits ≡ neg_ℤ (pos m) → 0 < m
not_zero e width bits zero some one is = let none = one is in omega arith
not_zero e width bits (suc m) some one is = omega arith

signed_back : (e : Encoding) (width bits : ℕ) → is_decimal e ≡ false → allowed e width ≡ true → bits < 2 ^ width → NoSecondZero e width bits
    → pattern_of e width (meaning e width bits) ≡ bits
signed_back e width bits s a l one =
    let w = widths e width a in
    let two = halves width (omega arith) in
    let half = 2 ^ (width - 1) in
    let lower = bits - half in
    let some = pow_pos (width - 1) in
    ⊎_elim
    (λ (low : bits < half). bits_of e width (signed_low width bits (omega arith) e s low) (bits_above e width bits s))
    (λ (high : half ≤ bits).
    let is = signed_high width bits (omega arith) e s high l in
    let m = opposite_of e width lower in
    let same : bits ≡ half + lower = omega arith in
    bits_of e width is
    (same ∙ ap (λ (k : ℕ). half + k) (sym (opposite_back width lower e s (lower_le width lower e s (omega arith))))
    ∙ bits_below e width m (omega arith) (not_zero e width bits m (omega arith) one is) (opposite_le width lower e (omega arith))))
    (below bits half)

pub bits_back : (e : Encoding) (width bits : ℕ) → allowed e width ≡ true → bits < 2 ^ width → legal_digits e width bits ≡ true → NoSecondZero e width bits
    → pattern_of e width (meaning e width bits) ≡ bits
bits_back TwosComplement width bits a l d one = signed_back TwosComplement width bits refl a l one
bits_back OnesComplement width bits a l d one = signed_back OnesComplement width bits refl a l one
bits_back SignMagnitude width bits a l d one = signed_back SignMagnitude width bits refl a l one
bits_back PackedDecimal width bits a l d one = decimal_bits width bits a l d

-- ---- what bits say is in the range

decimal_in_range : (width bits : ℕ) → legal_digits PackedDecimal width bits ≡ true → in_range PackedDecimal width (meaning PackedDecimal width bits) ≡ true
unfolding meaning
decimal_in_range width bits d =
    let small = rebased-lt 16 10 (omega arith) (width / 4) bits d in
    le_above PackedDecimal width (rebased 16 10 (width / 4) bits) (omega arith)

less_height : (e : Encoding) (width n : ℕ) → is_decimal e ≡ false → n < 2 ^ (width - 1) → n ≤ height e width
less_height TwosComplement width n s l = omega arith
less_height OnesComplement width n s l = omega arith
less_height SignMagnitude width n s l = omega arith
less_height PackedDecimal width n s l = absurd (true≢false s)

signed_in_range : (e : Encoding) (width bits : ℕ) → is_decimal e ≡ false → allowed e width ≡ true → bits < 2 ^ width → in_range e width (meaning e width bits) ≡ true
signed_in_range e width bits s a l =
    let w = widths e width a in
    let two = halves width (omega arith) in
    let half = 2 ^ (width - 1) in
    ⊎_elim
    (λ (low : bits < half). rw (signed_low width bits (omega arith) e s low) (le_above e width bits (less_height e width bits s low)))
    (λ (high : half ≤ bits).
    rw (signed_high width bits (omega arith) e s high l) (le_below e width (opposite_of e width (bits - half)) (opposite_le width (bits - half) e (omega arith))))
    (below bits half)

pub said_in_range : (e : Encoding) (width bits : ℕ) → allowed e width ≡ true → bits < 2 ^ width → legal_digits e width bits ≡ true
    → in_range e width (meaning e width bits) ≡ true
said_in_range TwosComplement width bits a l d = signed_in_range TwosComplement width bits refl a l
said_in_range OnesComplement width bits a l d = signed_in_range OnesComplement width bits refl a l
said_in_range SignMagnitude width bits a l d = signed_in_range SignMagnitude width bits refl a l
said_in_range PackedDecimal width bits a l d = decimal_in_range width bits d

-- ---- the bits of zero

no_digits : (k : ℕ) → rebased 10 16 k 0 ≡ 0
unfolding rebased
no_digits zero = refl
no_digits (suc k) = rw (no_digits k)

pub zero_bits : (e : Encoding) (width : ℕ) → pattern_of e width (pos 0) ≡ 0
unfolding pattern_of
zero_bits TwosComplement width = refl
zero_bits OnesComplement width = refl
zero_bits SignMagnitude width = refl
zero_bits PackedDecimal width = no_digits (width / 4)
