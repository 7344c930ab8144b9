-- What bits say, way by way: the highest bit by a comparison, and the number that each encoding gives where it is 1.
use Rattle.std.proofs.Common.{◌≡◌, refl, sym, ap, ◌∙◌, ⊎_elim, Bool, true, false, ◌&&◌, true≢false, ℕ, zero, suc, ◌-◌, ◌*◌, ◌/◌, ◌%◌, ◌^◌, ◌≤◌, ◌<◌, arith, leb, ℤ, pos, neg_ℤ, w64, SFits, lt-ltb, le-ltb, leb-true, eqb-true}
use native.Mathlib.Nat.{div-eq_of_lt, div-eq_of_lt-le, pow-le-pow_right}
use lib.IntN.{sub_ℕ}
use lib.Signed.{mag}
use denote.Enum.Bare.{sameb}
use Rattle.kinds.proofs.Compare.{below}
use Rattle.kinds.proofs.Outcomes.{both}
use Rattle.bits.specs.Bits.{bit}
use Rattle.encodings.specs.declared.forms.Encoding.{Encoding}
use Rattle.encodings.specs.declared.forms.Encoding.TheVariants.{TwosComplement, OnesComplement, SignMagnitude, PackedDecimal}
use Rattle.encodings.specs.contracts.forms.Encoding.{the_type}
use Rattle.encodings.specs.Widths.{whole_digits, allowed}
use Rattle.numerals.specs.Digits.{rebased}
use Rattle.encodings.specs.Meaning.{by_sign, meaning, legal_digits}
use Rattle.encodings.specs.Writing.{depth}
use Rattle.encodings.specs.CodeSaid.{opposite_of}
use Rattle.numerals.proofs.Rebased.{rebased-lt}
use Rattle.numerals.proofs.Halves.{halves, half_most}

-- ---- widths

pub widths : (e : Encoding) (width : ℕ) → allowed e width ≡ true → (2 ≤ width) × (width ≤ 64)
widths e width h =
    let two = both (leb 2 width) (leb width 64 && whole_digits e width) h in
    (leb-true 2 width two.0, leb-true width 64 (both (leb width 64) (whole_digits e width) two.1).0)

pub digits_of : (width : ℕ) → allowed PackedDecimal width ≡ true → (1 ≤ width / 4) × (width / 4 ≤ 16) × (width ≡ 4 * (width / 4))
digits_of width h =
    let two = both (leb 2 width) (leb width 64 && whole_digits PackedDecimal width) h in
    let more = both (leb width 64) (whole_digits PackedDecimal width) two.1 in
    let low = leb-true 2 width two.0 in
    let high = leb-true width 64 more.0 in
    let whole = eqb-true (width % 4) 0 more.1 in
    (omega arith, omega arith, omega arith)

-- the code asks for packed decimal by `==`
abbrev pub is_decimal : Encoding → Bool
is_decimal e = sameb the_type e PackedDecimal

-- ---- the highest bit

module _ (width bits : ℕ) (some : 1 ≤ width) (high : ℤ) where
  pub sign_0 : bits < 2 ^ (width - 1) → by_sign width bits high ≡ pos bits
  unfolding bit
  sign_0 h = rw (div-eq_of_lt h)

  pub sign_1 : 2 ^ (width - 1) ≤ bits → bits < 2 ^ width → by_sign width bits high ≡ high
  unfolding bit
  sign_1 h l =
      let half = halves width some in
      let once : bits / 2 ^ (width - 1) ≡ 1 = div-eq_of_lt-le {k = 1} (2 ^ (width - 1)) (omega arith) (omega arith) in
      rw once

-- ---- a number below zero

pub sub_minus : (a b : ℕ) → a ≤ b → sub_ℕ a b ≡ neg_ℤ (pos (b - a))
sub_minus a b h =
    ⊎_elim {C = sub_ℕ a b ≡ neg_ℤ (pos (b - a))}
    (λ (l : a < b). let up : b - a ≡ suc (b - suc a) = omega arith in rw (lt-ltb a b l, up))
    (λ (l : b ≤ a). let none : b - a ≡ 0 = omega arith in let less : a - b ≡ 0 = omega arith in rw (le-ltb a b l, none, less))
    (below a b)

pub mag_minus : (m n : ℕ) → m ≤ n → 0 < n → mag (neg_ℤ (pos m)) < n
mag_minus zero n h l = l
mag_minus (suc m) n h l = omega arith

-- ---- the three encodings with a sign

module _ (width bits : ℕ) (some : 1 ≤ width) where
  pub signed_low : (e : Encoding) → is_decimal e ≡ false → bits < 2 ^ (width - 1) → meaning e width bits ≡ pos bits
  unfolding meaning
  signed_low TwosComplement s l = sign_0 width bits some _ l
  signed_low OnesComplement s l = sign_0 width bits some _ l
  signed_low SignMagnitude s l = sign_0 width bits some _ l
  signed_low PackedDecimal s l = absurd (true≢false s)

  high_is : (high : ℤ) (m n : ℕ) → 2 ^ (width - 1) ≤ bits → bits < 2 ^ width → high ≡ neg_ℤ (pos m) → m ≡ n → by_sign width bits high ≡ neg_ℤ (pos n)
  high_is high m n h l is e = sign_1 width bits some high h l ∙ is ∙ ap (λ (k : ℕ). neg_ℤ (pos k)) e

  pub signed_high : (e : Encoding) → is_decimal e ≡ false → 2 ^ (width - 1) ≤ bits → bits < 2 ^ width
      → meaning e width bits ≡ neg_ℤ (pos (opposite_of e width (bits - 2 ^ (width - 1))))
  unfolding meaning
  signed_high TwosComplement s h l =
      let two = halves width some in
      let same : 2 ^ width - bits ≡ opposite_of TwosComplement width (bits - 2 ^ (width - 1)) = omega arith in
      high_is _ _ _ h l (sub_minus bits (2 ^ width) (omega arith)) same
  signed_high OnesComplement s h l =
      let two = halves width some in
      let same : 2 ^ width - 1 - bits ≡ opposite_of OnesComplement width (bits - 2 ^ (width - 1)) = omega arith in
      high_is _ _ _ h l (sub_minus bits (2 ^ width - 1) (omega arith)) same
  signed_high SignMagnitude s h l = sign_1 width bits some _ h l
  signed_high PackedDecimal s h l = absurd (true≢false s)

-- they have no digits
pub signed_legal : (e : Encoding) (width bits : ℕ) → is_decimal e ≡ false → legal_digits e width bits ≡ true
signed_legal TwosComplement width bits s = refl
signed_legal OnesComplement width bits s = refl
signed_legal SignMagnitude width bits s = refl
signed_legal PackedDecimal width bits s = absurd (true≢false s)

pub ruleset said_laws = (widths, signed_low, signed_high, signed_legal)

-- and the fourth is packed decimal
pub is_packed : (e : Encoding) → is_decimal e ≡ true → e ≡ PackedDecimal
is_packed TwosComplement s = absurd (true≢false (sym s))
is_packed OnesComplement s = absurd (true≢false (sym s))
is_packed SignMagnitude s = absurd (true≢false (sym s))
is_packed PackedDecimal s = refl

-- what stands under the highest bit is no greater than the depth, and neither is its opposite
module _ (width n : ℕ) where
  pub lower_le : (e : Encoding) → is_decimal e ≡ false → n < 2 ^ (width - 1) → n ≤ depth e width
  lower_le TwosComplement s l = omega arith
  lower_le OnesComplement s l = omega arith
  lower_le SignMagnitude s l = omega arith
  lower_le PackedDecimal s l = absurd (true≢false s)

  pub opposite_le : (e : Encoding) → n < 2 ^ (width - 1) → opposite_of e width n ≤ depth e width
  opposite_le TwosComplement l = omega arith
  opposite_le OnesComplement l = omega arith
  opposite_le SignMagnitude l = omega arith
  opposite_le PackedDecimal l = omega arith

  pub opposite_lt : (e : Encoding) → 0 < n → n ≤ depth e width → opposite_of e width n < 2 ^ (width - 1)
  opposite_lt TwosComplement some l = omega arith
  opposite_lt OnesComplement some l = omega arith
  opposite_lt SignMagnitude some l = omega arith
  opposite_lt PackedDecimal some l = absurd (omega arith)

  -- and the opposite of the opposite is the same again
  pub opposite_back : (e : Encoding) → is_decimal e ≡ false → n ≤ depth e width → opposite_of e width (opposite_of e width n) ≡ n
  opposite_back TwosComplement s l = omega arith
  opposite_back OnesComplement s l = omega arith
  opposite_back SignMagnitude s l = refl
  opposite_back PackedDecimal s l = absurd (true≢false s)

-- no depth goes past what the highest bit counts
pub depth_most : (e : Encoding) (width : ℕ) → depth e width ≤ 2 ^ (width - 1)
depth_most TwosComplement width = omega arith
depth_most OnesComplement width = omega arith
depth_most SignMagnitude width = omega arith
depth_most PackedDecimal width = omega arith

-- ---- what is said fits an i64

fits_low : (width bits : ℕ) → width ≤ 64 → bits < 2 ^ (width - 1) → SFits w64 (pos bits)
fits_low width bits w l = let most = half_most width w in record { sfits = omega arith }

fits_minus : (width m : ℕ) → width ≤ 64 → m ≤ 2 ^ (width - 1) → SFits w64 (neg_ℤ (pos m))
fits_minus width m w l = let most = half_most width w in record { sfits = mag_minus m (2 ^ 63) (omega arith) (omega arith) }

pub decimal_lt : (width bits : ℕ) → allowed PackedDecimal width ≡ true → legal_digits PackedDecimal width bits ≡ true → rebased 16 10 (width / 4) bits < 10 ^ 16
decimal_lt width bits a d =
    let most = pow-le-pow_right {n = 10} (omega arith) {i = width / 4} {j = 16} (digits_of width a).1 in
    omega (arith, rebased-lt 16 10 (omega arith) (width / 4) bits d)

decimal_fits : (width bits : ℕ) → rebased 16 10 (width / 4) bits < 10 ^ 16 → SFits w64 (meaning PackedDecimal width bits)
unfolding meaning
decimal_fits width bits small = record { sfits = omega arith }

signed_fits : (e : Encoding) (width bits : ℕ) → is_decimal e ≡ false → allowed e width ≡ true → bits < 2 ^ width → SFits w64 (meaning e width bits)
signed_fits e width bits s a l =
    let w = widths e width a in
    let half = 2 ^ (width - 1) in
    let two = halves width (omega arith) in
    let deep = depth_most e width in
    ⊎_elim
    (λ (m : bits < half). rw (signed_low width bits (omega arith) e s m) (fits_low width bits w.1 m))
    (λ (m : half ≤ bits).
    let small = opposite_le width (bits - half) e (omega arith) in
    rw (signed_high width bits (omega arith) e s m l) (fits_minus width (opposite_of e width (bits - half)) w.1 (omega arith)))
    (below bits half)

pub meaning-fits : (e : Encoding) (width bits : ℕ) → allowed e width ≡ true → bits < 2 ^ width → legal_digits e width bits ≡ true → SFits w64 (meaning e width bits)
meaning-fits PackedDecimal width bits a l d = decimal_fits width bits (decimal_lt width bits a d)
meaning-fits TwosComplement width bits a l d = signed_fits TwosComplement width bits refl a l
meaning-fits OnesComplement width bits a l d = signed_fits OnesComplement width bits refl a l
meaning-fits SignMagnitude width bits a l d = signed_fits SignMagnitude width bits refl a l
