-- Values that are read and written, as one table that the checker computes: all patterns of four bits, both ends of each range at 64 bits, and
-- corners.
use Rattle.std.proofs.Common.{◌≡◌, refl, true, List, [], ◌∷◌, ◌++◌, ℕ, suc, ◌-◌, ℤ, pos, negsuc}
use Rattle.kinds.proofs.Examples.{Example, hold, ◌is◌}
use Rattle.kinds.specs.Answers.{number_in}
use Rattle.bits.specs.Bits.{bit, bit_at, number, packed}
use Rattle.numerals.specs.Digits.{rebased, digits_below}
use Rattle.encodings.specs.Meaning.{meaning}
use Rattle.encodings.specs.Writing.{in_range, pattern_of}
use Rattle.values.specs.Values.{value_read, value_written, value_read_by_code, value_written_by_code}

-- ---- numbers in rows: a sign, and a magnitude

abbrev shown : ℤ → List ℕ
shown (pos n) = 0 ∷ n ∷ []
shown (negsuc n) = 1 ∷ suc n ∷ []

-- what a reading gives: its number, and the value, which was 7 before
abbrev reads : ℕ → ℕ → List ℕ → List ℕ
reads code width xs = let a = value_read_by_code code width xs (pos 7) in number_in a.report ∷ shown a.left

abbrev gave : ℤ → List ℕ
gave z = 0 ∷ shown z

abbrev refused : ℕ → List ℕ
refused n = n ∷ 0 ∷ 7 ∷ []

-- what a writing gives: its number, and the bytes
abbrev writes : ℕ → ℕ → ℤ → List ℕ → List ℕ
writes code width v xs = let a = value_written_by_code code width v xs in number_in a.report ∷ a.left

-- n, and -n
abbrev plus : ℕ → List ℕ
plus n = gave (pos n)

abbrev minus : ℕ → List ℕ
minus n = gave (negsuc (n - 1))

-- one byte that reads as this in two's complement, one's complement, sign and magnitude, and packed decimal, four bits wide
abbrev row : ℕ → List ℕ → List ℕ → List ℕ → List ℕ → List Example
row x twos ones sign decimal =
    (reads 1 4 (x ∷ []) is twos) ∷ (reads 2 4 (x ∷ []) is ones) ∷ (reads 3 4 (x ∷ []) is sign) ∷ (reads 4 4 (x ∷ []) is decimal) ∷ []

four_bits : List Example
four_bits =
    row 0x0 (plus 0) (plus 0) (plus 0) (plus 0)
    ++ row 0x1 (plus 1) (plus 1) (plus 1) (plus 1)
    ++ row 0x2 (plus 2) (plus 2) (plus 2) (plus 2)
    ++ row 0x3 (plus 3) (plus 3) (plus 3) (plus 3)
    ++ row 0x4 (plus 4) (plus 4) (plus 4) (plus 4)
    ++ row 0x5 (plus 5) (plus 5) (plus 5) (plus 5)
    ++ row 0x6 (plus 6) (plus 6) (plus 6) (plus 6)
    ++ row 0x7 (plus 7) (plus 7) (plus 7) (plus 7)
    ++ row 0x8 (minus 8) (minus 7) (plus 0) (plus 8)
    ++ row 0x9 (minus 7) (minus 6) (minus 1) (plus 9)
    ++ row 0xA (minus 6) (minus 5) (minus 2) (refused 60)
    ++ row 0xB (minus 5) (minus 4) (minus 3) (refused 60)
    ++ row 0xC (minus 4) (minus 3) (minus 4) (refused 60)
    ++ row 0xD (minus 3) (minus 2) (minus 5) (refused 60)
    ++ row 0xE (minus 2) (minus 1) (minus 6) (refused 60)
    ++ row 0xF (minus 1) (plus 0) (minus 7) (refused 60)

-- ---- both ends of each range at 64 bits, written and read, and corners

abbrev ff8 : List ℕ
ff8 = 0xFF ∷ 0xFF ∷ 0xFF ∷ 0xFF ∷ 0xFF ∷ 0xFF ∷ 0xFF ∷ 0xFF ∷ []

abbrev top_bit : List ℕ
top_bit = 0x80 ∷ 0x00 ∷ 0x00 ∷ 0x00 ∷ 0x00 ∷ 0x00 ∷ 0x00 ∷ 0x00 ∷ []

abbrev all_but_top : List ℕ
all_but_top = 0x7F ∷ 0xFF ∷ 0xFF ∷ 0xFF ∷ 0xFF ∷ 0xFF ∷ 0xFF ∷ 0xFF ∷ []

abbrev nines : List ℕ
nines = 0x99 ∷ 0x99 ∷ 0x99 ∷ 0x99 ∷ 0x99 ∷ 0x99 ∷ 0x99 ∷ 0x99 ∷ []

abbrev zeros : List ℕ
zeros = 0x00 ∷ 0x00 ∷ 0x00 ∷ 0x00 ∷ 0x00 ∷ 0x00 ∷ 0x00 ∷ 0x00 ∷ []

-- a number of 64 bits, written over ones and read
abbrev both : ℕ → ℤ → List ℕ → List Example
both code v xs = (writes code 64 v ff8 is 0 ∷ xs) ∷ (reads code 64 xs is gave v) ∷ []

corners : List Example
corners =
    -- two's complement: the least i64 and the greatest
    both 1 (negsuc 0x7FFFFFFFFFFFFFFF) top_bit
    ++ both 1 (pos 0x7FFFFFFFFFFFFFFF) all_but_top
    -- one's complement and sign and magnitude do not have the least i64: their least is one more
    ++ both 2 (negsuc 0x7FFFFFFFFFFFFFFE) top_bit
    ++ both 2 (pos 0x7FFFFFFFFFFFFFFF) all_but_top
    ++ both 3 (negsuc 0x7FFFFFFFFFFFFFFE) ff8
    ++ both 3 (pos 0x7FFFFFFFFFFFFFFF) all_but_top
    -- sixteen decimal digits
    ++ both 4 (pos 0) zeros
    ++ both 4 (pos 9999999999999999) nines
    ++ (writes 2 64 (negsuc 0x7FFFFFFFFFFFFFFF) ff8 is 59 ∷ ff8)
    ∷ (writes 3 64 (negsuc 0x7FFFFFFFFFFFFFFF) ff8 is 59 ∷ ff8)
    ∷ (writes 4 64 (pos 10000000000000000) ff8 is 59 ∷ ff8)
    ∷ (writes 4 8 (negsuc 0) (0xFF ∷ []) is 59 ∷ 0xFF ∷ [])
    -- second zeros
    ∷ (reads 2 64 ff8 is plus 0)
    ∷ (reads 3 64 top_bit is plus 0)
    -- eight bits
    ∷ (writes 2 8 (negsuc 0) (0x00 ∷ []) is 0 ∷ 0xFE ∷ [])
    ∷ (writes 3 8 (negsuc 0) (0x00 ∷ []) is 0 ∷ 0x81 ∷ [])
    ∷ (writes 4 8 (pos 42) (0x00 ∷ []) is 0 ∷ 0x42 ∷ [])
    ∷ (reads 4 8 (0x42 ∷ []) is plus 42)
    -- two bits
    ∷ (reads 1 2 (0x02 ∷ []) is minus 2)
    ∷ (reads 2 2 (0x02 ∷ []) is minus 1)
    ∷ (reads 3 2 (0x03 ∷ []) is minus 1)
    ∷ (writes 3 2 (negsuc 1) (0xFF ∷ []) is 59 ∷ 0xFF ∷ [])
    -- twelve bits: those above are ignored, and written zero; four bits above are no digit
    ∷ (reads 1 12 (0xA8 ∷ 0x00 ∷ []) is minus 2048)
    ∷ (writes 1 12 (negsuc 0) (0xA5 ∷ 0xA5 ∷ []) is 0 ∷ 0x0F ∷ 0xFF ∷ [])
    ∷ (reads 4 12 (0xF9 ∷ 0x87 ∷ []) is plus 987)
    ∷ (reads 4 12 (0x09 ∷ 0x8A ∷ []) is refused 60)
    -- zero, over ones
    ∷ (writes 2 12 (pos 0) (0xFF ∷ 0xFF ∷ []) is 0 ∷ 0x00 ∷ 0x00 ∷ [])
    ∷ (writes 3 12 (pos 0) (0xFF ∷ 0xFF ∷ []) is 0 ∷ 0x00 ∷ 0x00 ∷ [])
    -- widths and sizes
    ∷ (reads 1 1 (0x01 ∷ []) is refused 58)
    ∷ (reads 1 65 (0x00 ∷ 0x00 ∷ 0x00 ∷ 0x00 ∷ 0x00 ∷ 0x00 ∷ 0x00 ∷ 0x00 ∷ 0x00 ∷ []) is refused 58)
    ∷ (reads 4 10 (0x00 ∷ 0x00 ∷ []) is refused 58)
    ∷ (reads 1 8 [] is refused 58)
    ∷ (reads 1 8 (0x00 ∷ 0x00 ∷ []) is refused 58)
    ∷ (reads 5 8 (0x00 ∷ []) is refused 58)
    ∷ []

examples : List Example
examples = four_bits ++ corners

all_hold : hold examples ≡ true
unfolding examples four_bits corners value_read value_written value_read_by_code value_written_by_code meaning in_range pattern_of rebased digits_below bit bit_at number packed
all_hold = refl
