-- RULES 14.1, 14.2, 14.3, 14.8, 14.9: a value read from bytes and written to them, and what is refused first.
use Rattle.std.specs.Prelude.{ℕ, Bool, false, not, List, [], ◌∷◌, length, ltb, Option, Some, None, ℤ}
use Rattle.kinds.specs.declared.refusals.Refusal.TheVariants.{SliceTooLong, WidthNotAllowed}
use Rattle.kinds.specs.Slices.{slice_limit}
use Rattle.kinds.specs.Answers.{Check, wrote, report_of_check}
use Rattle.kinds.specs.Outcomes.{rule, first_among, gives, after, Answer, answer, concluded}
use Rattle.bits.specs.Bits.{bit, bit_at, number, packed}
use Rattle.encodings.specs.declared.forms.Encoding.{Encoding}
use Rattle.encodings.specs.Widths.{encoding_of, fits}
use Rattle.encodings.specs.Meaning.{meaning}
use Rattle.encodings.specs.Writing.{pattern_of}
use Rattle.encodings.specs.Refusals.{range_refusal, digit_refusal}

-- 43, 58: `fit` is whether the width is allowed and takes so many bytes
abbrev pub size_refusal : Bool → ℕ → Check
size_refusal fit size = first_among (rule (ltb slice_limit size) SliceTooLong ∷ rule (not fit) WidthNotAllowed ∷ [])

-- what the lowest bits of the bytes say
unfoldable pub value_read : Encoding → ℕ → List ℕ → ℤ → Answer ℤ
value_read e width xs old =
    let pattern = number width (bit_at xs) in
    concluded old (answer wrote)
    (after (size_refusal (fits e width (length xs)) (length xs))
    (after (digit_refusal e width pattern) (gives (meaning e width pattern))))

-- the lowest bits of all the bytes say the number, and those above them are 0
unfoldable pub value_written : Encoding → ℕ → ℤ → List ℕ → Answer (List ℕ)
value_written e width v xs =
    concluded xs (answer wrote)
    (after (size_refusal (fits e width (length xs)) (length xs))
    (after (range_refusal e width v) (gives (packed (length xs) (bit (pattern_of e width v))))))

-- a code that tells no encoding is refused as a width is
abbrev pub by_encoding : {A : Type 0} → Option Encoding → ℕ → A → (Encoding → Answer A) → Answer A
by_encoding (Some e) size old call = call e
by_encoding None size old call = answer (report_of_check (size_refusal false size)) old

unfoldable pub value_read_by_code : ℕ → ℕ → List ℕ → ℤ → Answer ℤ
value_read_by_code code width xs old = by_encoding (encoding_of code) (length xs) old (λ e. value_read e width xs old)

unfoldable pub value_written_by_code : ℕ → ℕ → ℤ → List ℕ → Answer (List ℕ)
value_written_by_code code width v xs = by_encoding (encoding_of code) (length xs) xs (λ e. value_written e width v xs)
