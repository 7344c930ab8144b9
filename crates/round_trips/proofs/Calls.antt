-- What the two calls give where nothing is refused.
use Rattle.std.proofs.Common.{◌≡◌, refl, ap, ◌∙◌, Bool, true, false, not, List, [], ◌∷◌, ℕ, ◌*◌, ◌^◌, ◌≤◌, ◌<◌, arith, length, ℤ, le-ltb, eq-eqb}
use Rattle.kinds.specs.Types.{bytes_for}
use Rattle.kinds.specs.declared.refusals.Refusal.TheVariants.{DigitAboveNine}
use Rattle.kinds.specs.Answers.{passed, wrote, number_in}
use Rattle.kinds.specs.Outcomes.{rule, first_among, gives, after, Answer, answer, concluded}
use Rattle.bits.specs.Bits.{bit, bit_at, number, packed}
use Rattle.bits.proofs.Numbers.{bit-lt, number_ext, number_bits}
use Rattle.bits.proofs.Bytes.{bit_at-packed}
use Rattle.encodings.specs.declared.forms.Encoding.{Encoding}
use Rattle.encodings.specs.Widths.{allowed, fits}
use Rattle.encodings.specs.Meaning.{meaning, legal_digits}
use Rattle.encodings.specs.Writing.{in_range, pattern_of}
use Rattle.values.specs.Values.{size_refusal, value_read, value_written}
use Rattle.encodings.proofs.Meaning.{widths}
use Rattle.round_trips.specs.RoundTrips.{Sized}

module _ (e : Encoding) (width : ℕ) (a : allowed e width ≡ true) where
  size_allowed : (xs : List ℕ) → Sized width xs → size_refusal (fits e width (length xs)) (length xs) ≡ passed
  size_allowed xs s =
      let w = widths e width a in
      rw (le-ltb 65535 (length xs) (omega arith), a, eq-eqb (length xs) (bytes_for width) s)

  pub read_of : (xs : List ℕ) → Sized width xs → (bits : ℕ) → number width (bit_at xs) ≡ bits → legal_digits e width bits ≡ true → (old : ℤ)
      → value_read e width xs old ≡ answer wrote (meaning e width bits)
  unfolding value_read
  read_of xs s bits is d old = rw (size_allowed xs s, is, d)

  -- what was read is what the bits say
  read_if : (legal : Bool) (m v old : ℤ) → concluded old (answer wrote) (after (first_among (rule (not legal) DigitAboveNine ∷ [])) (gives m)) ≡ answer wrote v
      → (legal ≡ true) × (m ≡ v)
  read_if true m v old h = (refl, ap (λ (r : Answer ℤ). r.left) h)
  read_if false m v old h = let wrong : ◌≡◌ {A = ℕ} 60 0 = ap (λ (r : Answer ℤ). number_in r.report) h in absurd (omega arith)

  pub read_means : (xs : List ℕ) → Sized width xs → (v old : ℤ) → value_read e width xs old ≡ answer wrote v
      → (legal_digits e width (number width (bit_at xs)) ≡ true) × (meaning e width (number width (bit_at xs)) ≡ v)
  unfolding value_read
  read_means xs s v old h =
      let pattern = number width (bit_at xs) in
      read_if (legal_digits e width pattern) (meaning e width pattern) v old (rw (size_allowed xs s) at h)

  pub written_of : (v : ℤ) → in_range e width v ≡ true → (xs : List ℕ) → Sized width xs
      → value_written e width v xs ≡ answer wrote (packed (bytes_for width) (bit (pattern_of e width v)))
  unfolding value_written
  written_of v h xs s = rw (size_allowed xs s, h) (ap (λ (n : ℕ). answer wrote (packed n (bit (pattern_of e width v)))) s)

-- the lowest bits of bytes that hold a number
pub bits_of-packed : (width n x : ℕ) → width ≤ 8 * n → x < 2 ^ width → number width (bit_at (packed n (bit x))) ≡ x
bits_of-packed width n x w l =
    number_ext width (bit_at (packed n (bit x))) (bit x) (λ k lk. bit_at-packed n (bit x) (bit-lt x) k (omega arith)) ∙ number_bits width x l
