-- Values there and back. This file states it, of the definitions that the contracts of `read` and `write` cite; proofs/Proved proves it.
use Rattle.std.specs.Prelude.{◌≡◌, true, List, ℕ, ◌^◌, ◌<◌, length, replicate, ℤ, pos, Some}
use Rattle.kinds.specs.Types.{bytes_for}
use Rattle.kinds.specs.Answers.{wrote}
use Rattle.kinds.specs.Outcomes.{answer}
use Rattle.bits.specs.Bits.{bit_at, number, packed}
use Rattle.bits.specs.Moves.{first}
use Rattle.encodings.specs.declared.forms.Encoding.{Encoding}
use Rattle.encodings.specs.Widths.{encoding_of, allowed}
use Rattle.encodings.specs.Meaning.{meaning, legal_digits}
use Rattle.encodings.specs.Writing.{least, greatest, in_range, pattern_of}
use Rattle.values.specs.Values.{value_read, value_written, value_read_by_code, value_written_by_code}

-- as many bytes as a width takes
abbrev pub Sized : ℕ → List ℕ → Type 0
Sized width xs = length xs ≡ bytes_for width

-- bits that say a number: a pattern below 2^width, with legal digits
pub record Says (e : Encoding) (width pattern : ℕ) (v : ℤ) : Type 0 where
  pub few : pattern < 2 ^ width
  pub legal : legal_digits e width pattern ≡ true
  pub means : meaning e width pattern ≡ v

-- a number that is written is read back, whatever stood in the bytes and in the value before
pub record ReadsBack (e : Encoding) (width : ℕ) (v : ℤ) : Type 0 where
  pub written : (xs : List ℕ) → Sized width xs → (value_written e width v xs).report ≡ wrote
  pub read : (xs : List ℕ) → Sized width xs → (old : ℤ) → value_read e width (value_written e width v xs).left old ≡ answer wrote v

-- of one encoding, at a width that it allows
pub record RoundTrips (e : Encoding) (width : ℕ) : Type 0 where
  -- the range has just the numbers that bits say, and the pattern of a number says it
  pub pattern_says : (v : ℤ) → in_range e width v ≡ true → Says e width (pattern_of e width v) v
  pub said_in_range : (pattern : ℕ) (v : ℤ) → Says e width pattern v → in_range e width v ≡ true
  -- every number of the range is read back, among them both ends and zero
  pub reads_back : (v : ℤ) → in_range e width v ≡ true → ReadsBack e width v
  pub least_back : ReadsBack e width (least e width)
  pub greatest_back : ReadsBack e width (greatest e width)
  pub zero_back : ReadsBack e width (pos 0)
  -- what is read is written back: the bits below the width as they were, and zeros above. Second zeros are left out: bits that say 0 have to be 0
  pub writes_back : (xs : List ℕ) → Sized width xs → (v old : ℤ) → value_read e width xs old ≡ answer wrote v → (v ≡ pos 0 → number width (bit_at xs) ≡ 0)
      → (ys : List ℕ) → Sized width ys → value_written e width v ys ≡ answer wrote (packed (bytes_for width) (first width (bit_at xs)))
  -- zero is written as zeros
  pub zero_written : (ys : List ℕ) → Sized width ys → value_written e width (pos 0) ys ≡ answer wrote (replicate (bytes_for width) 0)
  -- no two numbers are written alike
  pub one_number : (v w : ℤ) → in_range e width v ≡ true → in_range e width w ≡ true → (xs ys : List ℕ) → Sized width xs → Sized width ys
      → (value_written e width v xs).left ≡ (value_written e width w ys).left → v ≡ w

pub record AllRoundTrips : Type 0 where
  pub of_each : (e : Encoding) (width : ℕ) → allowed e width ≡ true → RoundTrips e width
  -- C tells an encoding by its code
  pub by_code : (code : ℕ) (e : Encoding) → encoding_of code ≡ Some e → (width : ℕ)
      → ((xs : List ℕ) (old : ℤ) → value_read_by_code code width xs old ≡ value_read e width xs old)
      × ((v : ℤ) (xs : List ℕ) → value_written_by_code code width v xs ≡ value_written e width v xs)
