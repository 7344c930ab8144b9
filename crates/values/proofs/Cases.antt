-- What a size that fits tells, and that what bits say fits an i64 where it is no refusal.
use Rattle.std.proofs.Common.{◌≡◌, refl, Bool, true, false, not, List, [], ◌∷◌, ℕ, ◌^◌, ◌<◌, arith, length, eqb, ℤ, w64, SFits, eqb-true}
use Rattle.kinds.specs.declared.refusals.Refusal.TheVariants.{DigitAboveNine}
use Rattle.kinds.specs.Types.{bytes_for}
use Rattle.kinds.specs.Outcomes.{rule, first_among, gives, after}
use Rattle.kinds.proofs.Outcomes.{both}
use Rattle.bits.specs.Bits.{bit_at, number}
use Rattle.bits.proofs.Numbers.{number_lt}
use Rattle.bits.proofs.Bytes.{bit_at_lt}
use Rattle.encodings.specs.declared.forms.Encoding.{Encoding}
use Rattle.encodings.specs.Widths.{allowed, fits}
use Rattle.encodings.specs.Meaning.{meaning, legal_digits}
use Rattle.encodings.specs.Refusals.{digit_refusal}
use Rattle.encodings.proofs.Meaning.{meaning-fits}

-- ---- sizes

pub fits_both : (e : Encoding) (width size : ℕ) → fits e width size ≡ true → (allowed e width ≡ true) × (size ≡ bytes_for width)
fits_both e width size h =
    let two = both (allowed e width) (eqb size (bytes_for width)) h in
    (two.0, eqb-true size (bytes_for width) two.1)

-- ---- what bits say

said_if : (legal : Bool) (m z : ℤ) → gives z ≡ after (first_among (rule (not legal) DigitAboveNine ∷ [])) (gives m) → (legal ≡ true) × (z ≡ m)
said_if true m z e = (refl, cc)
said_if false m z e = let wrong : ◌≡◌ {A = ℕ} 0 1 = cc in absurd (omega arith)

pub said_number : (e : Encoding) (width bits : ℕ) (z : ℤ) → gives z ≡ after (digit_refusal e width bits) (gives (meaning e width bits))
    → (legal_digits e width bits ≡ true) × (z ≡ meaning e width bits)
said_number e width bits z h = said_if (legal_digits e width bits) (meaning e width bits) z h

-- the lowest bits of bytes are that few
pub bits_lt : (xs : List ℕ) (width p : ℕ) → p ≡ number width (bit_at xs) → p < 2 ^ width
bits_lt xs width p is = rw is (number_lt width (bit_at xs) (bit_at_lt xs))

-- and what they say fits an i64
pub said_fits : (e : Encoding) (width : ℕ) (xs : List ℕ) (p : ℕ) (z : ℤ) → fits e width (length xs) ≡ true → p ≡ number width (bit_at xs)
    → gives z ≡ after (digit_refusal e width p) (gives (meaning e width p)) → SFits w64 z
said_fits e width xs p z fit is h =
    let heard = said_number e width p z h in
    rw heard.1 (meaning-fits e width p (fits_both e width (length xs) fit).0 (bits_lt xs width p is) heard.0)
