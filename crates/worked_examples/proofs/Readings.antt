-- The decode halves of the bench cases (RULES 13), and corners beside them, as one table that the checker computes.
use Rattle.std.proofs.Common.{◌≡◌, refl, true, false, List, [], ◌∷◌, ◌++◌, ℕ}
use lib.Count.{ones, ones_in}
use Rattle.kinds.proofs.Examples.{Example, hold, ◌is◌}
use Rattle.kinds.specs.declared.types.DataType.TheVariants.{UInt32, Float64, AsciiString, Unicode2String, ByteField}
use Rattle.kinds.specs.Outcomes.{Answer}
use Rattle.coded.specs.declared.variants.Termination.TheVariants.{EndOfPdu, Zero, HexFF}
use Rattle.order.specs.Order.{ordered, swap_pairs}
use Rattle.bits.specs.Bits.{bit, bit_at, number, packed}
use Rattle.bits.specs.Moves.{extracted, overlaid}
use Rattle.masks.specs.Plain.{bit_of_mask}
use Rattle.condensed.specs.Condensed.{front_bit, gathered, condensed}
use Rattle.length_field.specs.Leading.{leading_count}
use Rattle.scans.specs.MinMax.{scan}
use Rattle.unpack.specs.Found.{read_answer}
use Rattle.unpack.specs.Unpacked.{unpacked}
use Rattle.readers.specs.Finding.{bits_finding, leading_finding, min_max_finding}
use Rattle.calls.specs.Calls.{Description, decoded, runtime_read}
use Rattle.worked_examples.proofs.Descriptions.{coded, under, plainly, whole, behind, limited, unnamed}

-- a decode into an output of EE EE EE EE: number, bit count, byte count, expected, actual, and then the output
abbrev flat : Answer (List ℕ) → List ℕ
flat a = a.report ++ a.left

abbrev reads : Description → List ℕ → List ℕ → ℕ → ℕ → List ℕ
reads d store payload at pos = flat (decoded d store payload at pos (0xEE ∷ 0xEE ∷ 0xEE ∷ 0xEE ∷ []))

abbrev lends : Description → List ℕ → ℕ → ℕ → List ℕ
lends d payload at count = flat (runtime_read d [] payload at count)

abbrev bytes4 : List ℕ → List ℕ
bytes4 [] = 0xEE ∷ 0xEE ∷ 0xEE ∷ 0xEE ∷ []
bytes4 (a ∷ []) = a ∷ 0xEE ∷ 0xEE ∷ 0xEE ∷ []
bytes4 (a ∷ b ∷ []) = a ∷ b ∷ 0xEE ∷ 0xEE ∷ []
bytes4 (a ∷ b ∷ c ∷ rest) = a ∷ b ∷ c ∷ 0xEE ∷ []

-- so many bits and bytes, these; or refused; or too short
abbrev gave : ℕ → ℕ → List ℕ → List ℕ
gave bits n xs = 0 ∷ bits ∷ n ∷ 0 ∷ 0 ∷ bytes4 xs

abbrev refuses : ℕ → List ℕ
refuses n = n ∷ 0 ∷ 0 ∷ 0 ∷ 0 ∷ bytes4 []

abbrev too_short : ℕ → ℕ → List ℕ
too_short e a = 30 ∷ 0 ∷ 0 ∷ e ∷ a ∷ bytes4 []

examples : List Example
examples =
    -- a
    (reads (coded UInt32 true (plainly 8)) [] (0x12 ∷ 0x34 ∷ 0x56 ∷ []) 1 0 is gave 8 1 (0x34 ∷ []))
    -- b
    ∷ (reads (coded UInt32 false (plainly 16)) [] (0x12 ∷ 0x34 ∷ []) 0 0 is gave 16 2 (0x34 ∷ 0x12 ∷ []))
    -- c
    ∷ (reads (coded UInt32 true (plainly 4)) [] (0xA5 ∷ []) 0 4 is gave 4 1 (0x0A ∷ []))
    -- d
    ∷ (reads (coded UInt32 true (plainly 8)) [] (0x12 ∷ 0x34 ∷ []) 0 4 is refuses 27)
    -- g
    ∷ (reads (coded UInt32 true (under 16 (whole 1) false)) (0x0F ∷ []) (0xFF ∷ 0xFF ∷ []) 0 0 is gave 16 2 (0x0F ∷ 0x0F ∷ []))
    -- h
    ∷ (reads (coded UInt32 true (under 4 (whole 1) false)) (0x00 ∷ []) (0xF0 ∷ []) 0 4 is gave 4 1 (0x0F ∷ []))
    -- i
    ∷ (reads (coded UInt32 true (under 8 (whole 1) true)) (0xF0 ∷ []) (0xA5 ∷ []) 0 0 is gave 4 1 (0x0A ∷ []))
    -- j
    ∷ (reads (coded UInt32 true (under 4 (whole 1) true)) (0xF0 ∷ []) (0x0F ∷ []) 0 0 is gave 4 1 (0x00 ∷ []))
    -- k
    ∷ (reads (coded UInt32 true (under 16 (whole 4) true)) (0x00 ∷ 0x01 ∷ 0xFF ∷ 0xFF ∷ []) (0x00 ∷ 0x01 ∷ []) 0 0 is gave 16 1 (0x01 ∷ []))
    -- l
    ∷ (reads (coded ByteField true (behind 8)) [] (0x02 ∷ 0x41 ∷ 0x42 ∷ 0x43 ∷ []) 0 0 is gave 16 2 (0x41 ∷ 0x42 ∷ []))
    ∷ (reads (coded ByteField true (behind 8)) [] (0x04 ∷ 0x41 ∷ []) 0 0 is too_short 5 2)
    -- m
    ∷ (reads (coded Unicode2String false (behind 8)) [] (0x41 ∷ 0x02 ∷ 0x00 ∷ []) 0 0 is refuses 25)
    -- n
    ∷ (reads (coded AsciiString true (limited 2 4 Zero)) [] (0x00 ∷ 0x00 ∷ 0x41 ∷ 0x00 ∷ []) 0 0 is gave 24 3 (0x00 ∷ 0x00 ∷ 0x41 ∷ []))
    ∷ (reads (coded AsciiString true (limited 0 4 HexFF)) [] (0x00 ∷ 0x00 ∷ []) 5 0 is gave 0 0 [])
    ∷ (reads (coded AsciiString true (limited 0 4 EndOfPdu)) [] (0x00 ∷ 0x00 ∷ []) 5 0 is gave 0 0 [])
    ∷ (reads (coded AsciiString true (limited 0 4 Zero)) [] (0x00 ∷ 0x00 ∷ []) 5 0 is refuses 34)
    ∷ (reads (coded AsciiString true (limited 1 4 EndOfPdu)) [] (0x00 ∷ 0x00 ∷ []) 5 0 is too_short 6 2)
    -- o
    ∷ (reads (coded Unicode2String false (limited 0 4 Zero)) [] (0x41 ∷ 0x00 ∷ 0x42 ∷ []) 0 0 is refuses 34)
    ∷ (reads (coded Unicode2String false (limited 0 4 HexFF)) [] (0x41 ∷ 0x00 ∷ 0x42 ∷ []) 0 0 is too_short 4 3)
    ∷ (reads (coded Unicode2String false (limited 0 4 EndOfPdu)) [] (0x41 ∷ 0x00 ∷ 0x42 ∷ []) 0 0 is gave 24 3 (0x00 ∷ 0x41 ∷ 0x42 ∷ []))
    -- p: the runtime read is not ordered
    ∷ (lends (coded UInt32 false unnamed) (0x34 ∷ 0x12 ∷ []) 0 2 is (0 ∷ 16 ∷ 2 ∷ 0 ∷ 0 ∷ 0x34 ∷ 0x12 ∷ []))
    ∷ (lends (coded UInt32 false unnamed) (0x34 ∷ 0x12 ∷ []) 1 2 is (30 ∷ 0 ∷ 0 ∷ 3 ∷ 2 ∷ []))
    ∷ (lends (coded ByteField true (behind 0)) [] 9 0 is (0 ∷ 0 ∷ 0 ∷ 0 ∷ 0 ∷ []))
    -- the order of refusals: 30 before 26 before 27, 20 before 37, 42 before 12, 12 before 10
    ∷ (reads (coded UInt32 true (plainly 8)) [] [] 0 8 is too_short 1 0)
    ∷ (reads (coded UInt32 true (plainly 8)) [] (0xFF ∷ []) 0 8 is refuses 26)
    ∷ (reads (coded ByteField true unnamed) [] [] 0 1 is refuses 20)
    ∷ (reads (coded UInt32 true unnamed) [] [] 0 200 is refuses 37)
    ∷ (reads (coded UInt32 true (under 0 (whole 1) false)) [] [] 0 0 is refuses 42)
    ∷ (reads (coded UInt32 true (limited 0 0 Zero)) [] [] 0 0 is refuses 12)
    ∷ (reads (coded UInt32 true (behind 0)) [] [] 0 0 is refuses 10)
    -- 41 is last, and judged by the bytes finally given
    ∷ (reads (coded Float64 true (plainly 64)) [] (0x01 ∷ 0x02 ∷ 0x03 ∷ 0x04 ∷ 0x05 ∷ 0x06 ∷ 0x07 ∷ 0x08 ∷ []) 0 0 is refuses 41)
    -- an empty mask clears, from the bit position on; condensed it gives nothing
    ∷ (reads (coded UInt32 true (under 4 (whole 0) false)) [] (0xFF ∷ []) 0 2 is gave 4 1 (0x03 ∷ []))
    ∷ (reads (coded UInt32 true (under 8 (whole 0) true)) [] (0xFF ∷ []) 0 0 is gave 0 0 [])
    -- gathered bits are lost with the bytes that are dropped
    ∷ (reads (coded UInt32 true (under 24 (whole 5) true)) (0x00 ∷ 0xFF ∷ 0xFF ∷ 0xFF ∷ 0xFF ∷ []) (0x11 ∷ 0x22 ∷ 0x33 ∷ []) 0 0 is gave 24 1 (0x33 ∷ []))
    -- bits above the length field are ignored; the field is turned in pairs, an odd last byte stays
    ∷ (reads (coded AsciiString true (behind 4)) [] (0xF1 ∷ 0x41 ∷ []) 0 0 is gave 8 1 (0x41 ∷ []))
    ∷ (reads (coded Unicode2String false (behind 16)) [] (0x03 ∷ 0x00 ∷ 0x41 ∷ 0x00 ∷ 0x42 ∷ []) 0 0 is gave 24 3 (0x00 ∷ 0x41 ∷ 0x42 ∷ []))
    -- sums saturate
    ∷ (reads (coded UInt32 true (plainly 8)) [] [] 0xFFFFFFFFFFFFFFFF 0 is too_short 0xFFFFFFFFFFFFFFFF 0)
    ∷ []

all_hold : hold examples ≡ true
unfolding examples decoded runtime_read read_answer bits_finding leading_finding min_max_finding unpacked leading_count scan ordered swap_pairs bit bit_at number packed extracted overlaid bit_of_mask front_bit gathered ones ones_in condensed
all_hold = refl
