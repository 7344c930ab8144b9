-- Values: a reading and a writing end in an answer or in a refusal that leaves what came.
use Rattle.std.proofs.Common.{◌≡◌, refl, inl, inr, ⊎_elim, Bool, true, false, cond, List, ℕ, length, ltb, ℤ, Option, Some, None, Err}
use Rattle.kinds.specs.declared.refusals.Refusal.TheVariants.{SliceTooLong, WidthNotAllowed}
use Rattle.kinds.specs.Answers.{wrote, report_of_check}
use Rattle.kinds.specs.Outcomes.{gives, Answer, answer}
use Rattle.kinds.proofs.Holding.{holds_after}
use Rattle.bits.specs.Bits.{bit, bit_at, number, packed}
use Rattle.bits.proofs.Bytes.{length-packed}
use Rattle.encodings.specs.declared.forms.Encoding.{Encoding}
use Rattle.encodings.specs.Widths.{encoding_of, fits}
use Rattle.encodings.specs.Meaning.{meaning}
use Rattle.encodings.specs.Writing.{pattern_of}
use Rattle.encodings.specs.Refusals.{range_refusal, digit_refusal}
use Rattle.values.specs.Values.{size_refusal, value_read, value_written, by_encoding, value_read_by_code, value_written_by_code}
use Rattle.demand_one.specs.Refusing.{Refuses, Ends, ReadsValue, WritesValue, ReadsByCode, WritesByCode}
use Rattle.demand_one.proofs.Ending.{refuses_row, ends}

pub value_read_ends : (e : Encoding) (width : ℕ) (xs : List ℕ) (old : ℤ) → Ends (ReadsValue e width xs) old (value_read e width xs old)
unfolding value_read
value_read_ends e width xs old =
    let bits = number width (bit_at xs) in
    let P : ℤ → Type 0 = λ z. z ≡ meaning e width bits in
    ends P (ReadsValue e width xs) old (answer wrote) (λ z h. record { reports = refl; means = h }) _
    (holds_after P (size_refusal (fits e width (length xs)) (length xs)) _ (holds_after P (digit_refusal e width bits) (gives (meaning e width bits)) refl))

pub value_written_ends : (e : Encoding) (width : ℕ) (v : ℤ) (xs : List ℕ) → Ends (WritesValue xs) xs (value_written e width v xs)
unfolding value_written
value_written_ends e width v xs =
    let bytes = packed (length xs) (bit (pattern_of e width v)) in
    let P : List ℕ → Type 0 = λ ys. length ys ≡ length xs in
    ends P (WritesValue xs) xs (answer wrote) (λ ys h. record { reports = refl; size = h }) _
    (holds_after P (size_refusal (fits e width (length xs)) (length xs)) _
    (holds_after P (range_refusal e width v) (gives bytes) (length-packed (length xs) (bit (pattern_of e width v)))))

-- ---- by a code

module _ {A : Type 0} (old : A) where
  unknown_refuses : (long : Bool) → Refuses old (answer (report_of_check (cond long (Err SliceTooLong) (Err WidthNotAllowed))) old)
  unknown_refuses true = refuses_row old SliceTooLong
  unknown_refuses false = refuses_row old WidthNotAllowed

  -- a good answer by an encoding is one by the code that tells it
  by_encoding_ends : (Good : Answer A → Type 0) (told : Option Encoding) (size : ℕ) (call : Encoding → Answer A)
      → ((e : Encoding) → told ≡ Some e → Ends Good old (call e)) → Ends Good old (by_encoding told size old call)
  by_encoding_ends Good (Some e) size call f = f e refl
  by_encoding_ends Good None size call f = inr (unknown_refuses (ltb 65535 size))

pub value_read_by_code_ends : (code width : ℕ) (xs : List ℕ) (old : ℤ) → Ends (ReadsByCode code width xs) old (value_read_by_code code width xs old)
unfolding value_read_by_code
value_read_by_code_ends code width xs old =
    by_encoding_ends old (ReadsByCode code width xs) (encoding_of code) (length xs) (λ e. value_read e width xs old) (λ e told.
    ⊎_elim (λ good. inl (record { encoding = e; told = told; reads = good })) (λ refuses. inr refuses) (value_read_ends e width xs old))

pub value_written_by_code_ends : (code width : ℕ) (v : ℤ) (xs : List ℕ) → Ends (WritesByCode code xs) xs (value_written_by_code code width v xs)
unfolding value_written_by_code
value_written_by_code_ends code width v xs =
    by_encoding_ends xs (WritesByCode code xs) (encoding_of code) (length xs) (λ e. value_written e width v xs) (λ e told.
    ⊎_elim (λ good. inl (record { encoding = e; told = told; writes = good })) (λ refuses. inr refuses) (value_written_ends e width v xs))
