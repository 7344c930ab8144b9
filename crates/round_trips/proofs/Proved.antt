-- Values are read back and written back: what specs/RoundTrips states is proved.
use Rattle.std.proofs.Common.{◌≡◌, sym, ap, ◌∙◌, ⊎_elim, true, List, ℕ, ◌%◌, ◌^◌, ◌≤◌, ◌<◌, arith, lt_of_lt_of_le, replicate, pow_mono, ℤ, pos, Some}
use native.Mathlib.Nat.{div-eq_of_lt}
use Rattle.kinds.specs.Types.{bytes_for}
use Rattle.kinds.specs.Answers.{wrote}
use Rattle.kinds.specs.Outcomes.{Answer, answer}
use Rattle.kinds.proofs.Compare.{below}
use Rattle.bits.specs.Bits.{bit, bit_at, number, packed}
use Rattle.bits.specs.Moves.{first}
use Rattle.bits.proofs.Numbers.{bit_of_zero, bit-number, number_lt}
use Rattle.bits.proofs.Bytes.{bit_at_lt, length-packed, packed_ext, packed_zero}
use Rattle.bits.proofs.Moves.{first_in, first_out}
use Rattle.encodings.specs.declared.forms.Encoding.{Encoding}
use Rattle.encodings.specs.Widths.{encoding_of, allowed}
use Rattle.encodings.specs.Meaning.{meaning, legal_digits}
use Rattle.encodings.specs.Writing.{height, depth, least, greatest, in_range, pattern_of}
use Rattle.values.specs.Values.{value_read, value_written, value_read_by_code, value_written_by_code}
use Rattle.encodings.proofs.Meaning.{widths}
use Rattle.round_trips.specs.RoundTrips.{Sized, ReadsBack, RoundTrips, AllRoundTrips}
use Rattle.round_trips.proofs.Patterns.{NoSecondZero, le_above, le_below, number_said, bits_back, said_in_range, zero_bits}
use Rattle.round_trips.proofs.Calls.{read_of, read_means, written_of, bits_of-packed}

-- a number has no bits at or above its width
above_zero : (width x k : ℕ) → x < 2 ^ width → width ≤ k → bit x k ≡ 0
unfolding bit
above_zero width x k l h =
    let most = pow_mono {i = width} {j = k} h in
    ap (λ (n : ℕ). n % 2) (div-eq_of_lt (lt_of_lt_of_le l most))

module _ (e : Encoding) (width : ℕ) (a : allowed e width ≡ true) where
  reads_back : (v : ℤ) → in_range e width v ≡ true → ReadsBack e width v
  reads_back v h =
      let w = widths e width a in
      let said = number_said e width v a h in
      let bits = pattern_of e width v in
      let n = bytes_for width in
      record {
        written = λ xs s. ap (λ (r : Answer (List ℕ)). r.report) (written_of e width a v h xs s);
        read = λ xs s old.
            rw (written_of e width a v h xs s)
            (read_of e width a (packed n (bit bits)) (length-packed n (bit bits)) bits (bits_of-packed width n bits (omega arith) said.few) said.legal old
            ∙ ap (answer wrote) said.means);
      }

  bits_written : (xs ys : List ℕ) → Sized width ys → legal_digits e width (number width (bit_at xs)) ≡ true → NoSecondZero e width (number width (bit_at xs))
      → value_written e width (meaning e width (number width (bit_at xs))) ys ≡ answer wrote (packed (bytes_for width) (first width (bit_at xs)))
  bits_written xs ys t d one =
      let pattern = number width (bit_at xs) in
      let few = number_lt width (bit_at xs) (bit_at_lt xs) in
      written_of e width a (meaning e width pattern) (said_in_range e width pattern a few d) ys t
      ∙ ap (answer wrote)
      (ap (λ (n : ℕ). packed (bytes_for width) (bit n)) (bits_back e width pattern a few d one)
      ∙ packed_ext (bytes_for width) (bit pattern) (first width (bit_at xs)) (λ k l.
      ⊎_elim
      (λ (low : k < width). bit-number width (bit_at xs) (bit_at_lt xs) k low ∙ sym (first_in width (bit_at xs) k low))
      (λ (high : width ≤ k). above_zero width pattern k few high ∙ sym (first_out width (bit_at xs) k high))
      (below k width)))

  writes_back : (xs : List ℕ) → Sized width xs → (v old : ℤ) → value_read e width xs old ≡ answer wrote v → (v ≡ pos 0 → number width (bit_at xs) ≡ 0)
      → (ys : List ℕ) → Sized width ys → value_written e width v ys ≡ answer wrote (packed (bytes_for width) (first width (bit_at xs)))
  writes_back xs s v old h one ys t =
      let heard = read_means e width a xs s v old h in
      ap (λ (z : ℤ). value_written e width z ys) (sym heard.1) ∙ bits_written xs ys t heard.0 (λ z. one (sym heard.1 ∙ z))

  zero_inside : in_range e width (pos 0) ≡ true
  zero_inside = le_above e width 0 (omega arith)

  zero_written : (ys : List ℕ) → Sized width ys → value_written e width (pos 0) ys ≡ answer wrote (replicate (bytes_for width) 0)
  zero_written ys s =
      written_of e width a (pos 0) zero_inside ys s
      ∙ ap (answer wrote)
      (ap (λ (n : ℕ). packed (bytes_for width) (bit n)) (zero_bits e width)
      ∙ packed_ext (bytes_for width) (bit 0) (λ k. 0) (λ k l. bit_of_zero k)
      ∙ packed_zero (bytes_for width))

  one_number : (v w : ℤ) → in_range e width v ≡ true → in_range e width w ≡ true → (xs ys : List ℕ) → Sized width xs → Sized width ys
      → (value_written e width v xs).left ≡ (value_written e width w ys).left → v ≡ w
  one_number v w hv hw xs ys sx sy same =
      ap (λ (r : Answer ℤ). r.left)
      (sym ((reads_back v hv).read xs sx (pos 0)) ∙ ap (λ (bytes : List ℕ). value_read e width bytes (pos 0)) same ∙ (reads_back w hw).read ys sy (pos 0))

  round_trips : RoundTrips e width
  round_trips =
      record {
        pattern_says = λ v h. number_said e width v a h;
        said_in_range = λ pattern v says. rw (sym says.means) (said_in_range e width pattern a says.few says.legal);
        reads_back = reads_back;
        least_back = reads_back (least e width) (le_below e width (depth e width) (omega arith));
        greatest_back = reads_back (greatest e width) (le_above e width (height e width) (omega arith));
        zero_back = reads_back (pos 0) zero_inside;
        writes_back = writes_back;
        zero_written = zero_written;
        one_number = one_number;
      }

by_code : (code : ℕ) (e : Encoding) → encoding_of code ≡ Some e → (width : ℕ)
    → ((xs : List ℕ) (old : ℤ) → value_read_by_code code width xs old ≡ value_read e width xs old)
    × ((v : ℤ) (xs : List ℕ) → value_written_by_code code width v xs ≡ value_written e width v xs)
unfolding value_read_by_code value_written_by_code
by_code code e is width = (λ xs old. rw is, λ v xs. rw is)

pub all_round_trips : AllRoundTrips
all_round_trips = record { of_each = round_trips; by_code = by_code }
