-- The halves of the bench cases (RULES 13) that write, and corners beside them, as one table that the checker computes.
use Rattle.std.proofs.Common.{◌≡◌, refl, true, false, List, [], ◌∷◌, ◌++◌, ℕ, replicate}
use Rattle.kinds.proofs.Examples.{Example, hold, ◌is◌}
use Rattle.kinds.specs.declared.types.DataType.TheVariants.{UInt32, Float32, AsciiString, Unicode2String, ByteField}
use Rattle.kinds.specs.Outcomes.{Answer}
use Rattle.coded.specs.declared.variants.Termination.TheVariants.{EndOfPdu, Zero, HexFF}
use Rattle.order.specs.Order.{ordered, swap_pairs}
use Rattle.bits.specs.Bits.{bit, bit_at, number, packed}
use Rattle.bits.specs.Moves.{injected, overlaid}
use Rattle.masks.specs.Plain.{bit_of_mask}
use Rattle.condensed.specs.Condensed.{ones_below, replacement, replaced}
use Rattle.pack.specs.Source.{standard_bits}
use Rattle.cutout.specs.CutOut.{cleared, readied}
use Rattle.payload.specs.Payload.{Payload, payload_of}
use Rattle.payload.specs.Writing.{spliced, in_cut_out, grown, writing, clearing}
use Rattle.calls.specs.Calls.{Description, encoded, cleared_field}
use Rattle.worked_examples.proofs.Descriptions.{coded, under, plainly, whole, behind, limited, unnamed}

-- number, bit count, byte count, expected, actual, used length, and then the payload
abbrev flat : Answer Payload → List ℕ
flat a = a.report ++ (a.left.used ∷ a.left.bytes)

abbrev writes : Description → List ℕ → List ℕ → List ℕ → ℕ → ℕ → ℕ → List ℕ
writes t store input payload used at pos = flat (encoded t store input (payload_of payload used) at pos)

abbrev clears : Description → List ℕ → List ℕ → ℕ → ℕ → ℕ → List ℕ
clears t store payload used at pos = flat (cleared_field t store (payload_of payload used) at pos)

-- 0, the used length and the payload; or a refusal's number; or too short
abbrev wrote : ℕ → List ℕ → List ℕ
wrote used payload = 0 ∷ 0 ∷ 0 ∷ 0 ∷ 0 ∷ used ∷ payload

abbrev refuses : ℕ → ℕ → List ℕ → List ℕ
refuses n used payload = n ∷ 0 ∷ 0 ∷ 0 ∷ 0 ∷ used ∷ payload

abbrev too_short : ℕ → ℕ → List ℕ → List ℕ
too_short expected used payload = 30 ∷ 0 ∷ 0 ∷ expected ∷ used ∷ used ∷ payload

-- room that was not used
abbrev room : ℕ → List ℕ
room n = replicate n 0xEE

-- 15 or 16 bytes of text
abbrev text : ℕ → List ℕ
text n = replicate n 0x41

examples : List Example
examples =
    -- d
    (writes (coded UInt32 true (plainly 8)) [] (0xFF ∷ []) (0x00 ∷ 0x00 ∷ 0xEE ∷ []) 2 0 4 is wrote 2 (0x0F ∷ 0xF0 ∷ 0xEE ∷ []))
    -- e
    ∷ (writes (coded UInt32 true (plainly 12)) [] (0x0A ∷ 0xBC ∷ []) (0x00 ∷ 0x00 ∷ []) 2 0 0 is wrote 2 (0x0A ∷ 0x0C ∷ []))
    -- f
    ∷ (writes (coded UInt32 true (plainly 8)) [] (0x01 ∷ []) (0xF0 ∷ []) 1 0 0 is wrote 1 (0xF1 ∷ []))
    ∷ (writes (coded UInt32 true (under 8 (whole 1) false)) (0x0F ∷ []) (0xA5 ∷ []) (0x33 ∷ []) 1 0 0 is wrote 1 (0x35 ∷ []))
    -- i
    ∷ (writes (coded UInt32 true (under 8 (whole 1) true)) (0xF0 ∷ []) (0x0A ∷ []) (0x05 ∷ []) 1 0 0 is wrote 1 (0xA5 ∷ []))
    -- j
    ∷ (writes (coded UInt32 true (under 4 (whole 1) true)) (0xF0 ∷ []) (0x0A ∷ []) (0x05 ∷ []) 1 0 0 is refuses 36 1 (0x05 ∷ []))
    -- k
    ∷ (writes (coded UInt32 true (under 16 (whole 2) true)) (0xFF ∷ 0xFF ∷ []) (0x12 ∷ []) (0x00 ∷ 0x00 ∷ []) 2 0 0 is wrote 2 (0xFF ∷ 0x12 ∷ []))
    -- m: pairs run across the length field and the data
    ∷ (writes (coded Unicode2String false (behind 8)) [] (0x41 ∷ 0x00 ∷ []) (room 4) 0 0 0 is wrote 3 (0x41 ∷ 0x02 ∷ 0x00 ∷ 0xEE ∷ []))
    -- p
    ∷ (writes (coded UInt32 false unnamed) [] (0x12 ∷ 0x34 ∷ []) (room 3) 0 0 0 is wrote 2 (0x34 ∷ 0x12 ∷ 0xEE ∷ []))
    -- q
    ∷ (writes (coded AsciiString true (behind 4)) [] (text 15) (room 17) 0 0 0 is wrote 16 (0x0F ∷ (text 15 ++ room 1)))
    ∷ (writes (coded AsciiString true (behind 4)) [] (text 16) (room 17) 0 0 0 is refuses 33 0 (room 17))
    ∷ (writes (coded AsciiString true (behind 64)) [] (text 1) (room 10) 0 0 0 is wrote 9 (replicate 7 0 ++ (0x01 ∷ 0x41 ∷ 0xEE ∷ [])))
    ∷ (writes (coded AsciiString true (behind 65)) [] (text 1) (room 10) 0 0 0 is refuses 32 0 (room 10))
    ∷ (writes (coded AsciiString true (behind 0)) [] [] (room 1) 0 0 0 is refuses 38 0 (room 1))
    ∷ (writes (coded AsciiString true (behind 0)) [] (text 1) (room 1) 0 0 0 is refuses 33 0 (room 1))
    -- growth: the gap and stale bytes become zero, bytes past the new used length stay
    ∷ (writes (coded UInt32 true (plainly 8)) [] (0x01 ∷ []) (0x11 ∷ 0xEE ∷ 0xEE ∷ 0xEE ∷ []) 1 2 0 is wrote 3 (0x11 ∷ 0x00 ∷ 0x01 ∷ 0xEE ∷ []))
    -- 40 is judged by the slice, and 26 comes before
    ∷ (writes (coded UInt32 true (plainly 8)) [] (0x01 ∷ []) (0x11 ∷ []) 1 1 0 is refuses 40 1 (0x11 ∷ []))
    ∷ (writes (coded UInt32 true (plainly 8)) [] (0x01 ∷ []) (0x11 ∷ []) 1 0xFFFFFFFFFFFFFFFF 0 is refuses 40 1 (0x11 ∷ []))
    ∷ (writes (coded UInt32 true (plainly 8)) [] (0x01 ∷ []) (0x11 ∷ []) 1 1 8 is refuses 26 1 (0x11 ∷ []))
    -- 44, and 43 before it
    ∷ (writes (coded UInt32 true (plainly 8)) [] (0x01 ∷ []) (0x11 ∷ []) 2 0 0 is refuses 44 2 (0x11 ∷ []))
    -- 42 before 12, and 12 before 10
    ∷ (writes (coded UInt32 true (under 8 (whole 1) false)) [] (0x01 ∷ []) (0x11 ∷ []) 1 0 0 is refuses 42 1 (0x11 ∷ []))
    ∷ (writes (coded UInt32 true (limited 0 4 Zero)) [] (0x01 ∷ []) (0x11 ∷ []) 1 0 0 is refuses 10 1 (0x11 ∷ []))
    -- 20, and 21, 23
    ∷ (writes (coded ByteField true (plainly 8)) [] (0x01 ∷ []) (0x11 ∷ []) 1 0 9 is refuses 20 1 (0x11 ∷ []))
    ∷ (writes (coded UInt32 true (plainly 0)) [] (0x01 ∷ []) (0x11 ∷ []) 1 0 9 is refuses 21 1 (0x11 ∷ []))
    ∷ (writes (coded Float32 true (plainly 31)) [] (0x01 ∷ []) (0x11 ∷ []) 1 0 0 is refuses 23 1 (0x11 ∷ []))
    -- the last byte is trimmed for byte types too; these take the input's first bytes, numeric types its last
    ∷ (writes (coded ByteField true (plainly 12)) [] (0xAB ∷ 0xCD ∷ []) (room 3) 0 0 0 is wrote 2 (0x0B ∷ 0x0D ∷ 0xEE ∷ []))
    ∷ (writes (coded ByteField true (plainly 24)) [] (0xAB ∷ 0xCD ∷ []) (room 3) 0 0 0 is wrote 3 (0xAB ∷ 0xCD ∷ 0x00 ∷ []))
    ∷ (writes (coded ByteField true (plainly 8)) [] (0xAB ∷ 0xCD ∷ []) (room 3) 0 0 0 is wrote 1 (0xAB ∷ 0xEE ∷ 0xEE ∷ []))
    ∷ (writes (coded UInt32 true (plainly 24)) [] (0xAB ∷ 0xCD ∷ []) (room 3) 0 0 0 is wrote 3 (0x00 ∷ 0xAB ∷ 0xCD ∷ []))
    ∷ (writes (coded UInt32 true (plainly 8)) [] (0xAB ∷ 0xCD ∷ []) (room 3) 0 0 0 is wrote 1 (0xCD ∷ 0xEE ∷ 0xEE ∷ []))
    -- the whole cut-out turns
    ∷ (writes (coded UInt32 false (plainly 8)) [] (0xFF ∷ []) (0x00 ∷ 0x00 ∷ []) 2 0 4 is wrote 2 (0xF0 ∷ 0x0F ∷ []))
    -- an empty input grows, and with a mask clears
    ∷ (writes (coded UInt32 true (plainly 8)) [] [] (0x11 ∷ 0xEE ∷ []) 1 1 0 is wrote 2 (0x11 ∷ 0x00 ∷ []))
    ∷ (writes (coded UInt32 true (under 8 (whole 1) false)) (0x0F ∷ []) [] (0xFF ∷ []) 1 0 0 is wrote 1 (0xF0 ∷ []))
    -- an empty mask counts as none, condensed or not
    ∷ (writes (coded UInt32 true (under 8 (whole 0) false)) [] (0x01 ∷ []) (0xF0 ∷ []) 1 0 0 is wrote 1 (0xF1 ∷ []))
    ∷ (writes (coded UInt32 true (under 8 (whole 0) true)) [] (0x01 ∷ []) (0xF0 ∷ []) 1 0 0 is wrote 1 (0xF1 ∷ []))
    -- a short condensed mask, low-high
    ∷ (writes (coded UInt32 false (under 16 (whole 1) true)) (0xFF ∷ []) (0xAB ∷ []) (0x00 ∷ 0x00 ∷ []) 2 0 0 is wrote 2 (0xAB ∷ 0x00 ∷ []))
    -- terminators: ORed in, and torn by an odd input
    ∷ (writes (coded AsciiString true (limited 0 4 Zero)) [] (0x41 ∷ []) (0x00 ∷ 0xFF ∷ []) 2 0 0 is wrote 2 (0x41 ∷ 0xFF ∷ []))
    ∷ (writes (coded Unicode2String false (limited 0 4 HexFF)) [] (0x01 ∷ 0x02 ∷ 0x03 ∷ []) (room 5) 0 0 0 is wrote 5 (0x02 ∷ 0x01 ∷ 0xFF ∷ 0x03 ∷ 0xFF ∷ []))
    ∷ (writes (coded AsciiString true (limited 0 4 HexFF)) [] [] (room 2) 0 0 0 is wrote 1 (0xFF ∷ 0xEE ∷ []))
    ∷ (writes (coded AsciiString true (limited 0 4 EndOfPdu)) [] [] (room 2) 0 0 0 is refuses 35 0 (room 2))
    ∷ (writes (coded AsciiString true (limited 0 4 EndOfPdu)) [] (text 5) (room 5) 0 0 0 is wrote 5 (text 5))
    -- Param: nothing for an empty input at any position, and 26 otherwise
    ∷ (writes (coded UInt32 true unnamed) [] [] (room 1) 0 9 200 is wrote 0 (room 1))
    ∷ (writes (coded UInt32 true unnamed) [] (0x01 ∷ []) (room 1) 0 9 200 is refuses 26 0 (room 1))
    ∷ (writes (coded ByteField true unnamed) [] [] (room 1) 0 0 1 is refuses 20 0 (room 1))
    -- clear: the owned bits and no others, without a mask, under a plain one that repeats its first byte, and under a condensed one
    ∷ (clears (coded UInt32 true (plainly 8)) [] (0xFF ∷ 0xFF ∷ []) 2 0 4 is wrote 2 (0xF0 ∷ 0x0F ∷ []))
    ∷ (clears (coded UInt32 true (under 16 (whole 1) false)) (0x0F ∷ []) (0xFF ∷ 0xFF ∷ []) 2 0 0 is wrote 2 (0xF0 ∷ 0xF0 ∷ []))
    ∷ (clears (coded UInt32 false (under 16 (whole 1) true)) (0x0F ∷ []) (0xFF ∷ 0xFF ∷ []) 2 0 0 is wrote 2 (0xF0 ∷ 0xFF ∷ []))
    ∷ (clears (coded UInt32 true (under 8 (whole 0) false)) [] (0xFF ∷ []) 1 0 0 is wrote 1 (0x00 ∷ []))
    ∷ (clears (coded UInt32 true (under 8 (whole 1) false)) (0x00 ∷ []) (0xFF ∷ []) 1 0 0 is wrote 1 (0xFF ∷ []))
    -- 30 by the used length, and what is refused before
    ∷ (clears (coded UInt32 true (under 8 (whole 1) false)) (0x00 ∷ []) (0xFF ∷ 0xFF ∷ []) 1 1 0 is too_short 2 1 (0xFF ∷ 0xFF ∷ []))
    ∷ (clears (coded UInt32 true (plainly 8)) [] (0xFF ∷ []) 1 0xFFFFFFFFFFFFFFFF 1 is too_short 0xFFFFFFFFFFFFFFFF 1 (0xFF ∷ []))
    ∷ (clears (coded UInt32 true (plainly 8)) [] (0xFF ∷ []) 1 9 8 is refuses 26 1 (0xFF ∷ []))
    ∷ (clears (coded UInt32 true (under 8 (whole 2) true)) (0x00 ∷ 0x01 ∷ []) (0xFF ∷ []) 1 9 8 is refuses 36 1 (0xFF ∷ []))
    ∷ (clears (coded UInt32 true (plainly 65)) [] (0xFF ∷ []) 1 9 8 is refuses 22 1 (0xFF ∷ []))
    ∷ (clears (coded ByteField true (plainly 0)) [] (0xFF ∷ []) 1 0 0 is refuses 39 1 (0xFF ∷ []))
    ∷ (clears (coded UInt32 true unnamed) [] (0xFF ∷ []) 1 0 0 is refuses 39 1 (0xFF ∷ []))
    ∷ (clears (coded UInt32 true (limited 0 4 Zero)) [] (0xFF ∷ []) 1 0 0 is refuses 10 1 (0xFF ∷ []))
    ∷ (clears (coded UInt32 true (plainly 8)) [] (0xFF ∷ []) 2 0 0 is refuses 44 2 (0xFF ∷ []))
    ∷ []

all_hold : hold examples ≡ true
unfolding examples ordered swap_pairs bit bit_at number packed injected overlaid bit_of_mask ones_below replacement replaced standard_bits cleared readied spliced in_cut_out grown writing clearing encoded cleared_field
all_hold = refl
