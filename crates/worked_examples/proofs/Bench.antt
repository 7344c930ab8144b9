-- RULES 13: the cases that are marked, from record to bytes, as one table that the checker computes.
use Rattle.std.proofs.Common.{◌≡◌, refl, true, List, [], ◌∷◌, ◌++◌, ℕ, length}
use lib.Count.{ones, ones_in}
use Rattle.kinds.proofs.Examples.{Example, hold, ◌is◌}
use Rattle.kinds.specs.Answers.{numbered, read, wrote, short}
use Rattle.kinds.specs.Outcomes.{Answer}
use Rattle.order.specs.Order.{ordered, swap_pairs}
use Rattle.bits.specs.Bits.{bit, bit_at, number, packed}
use Rattle.bits.specs.Moves.{extracted, injected, overlaid}
use Rattle.masks.specs.Plain.{bit_of_mask}
use Rattle.condensed.specs.Condensed.{front_bit, gathered, condensed, ones_below, replacement, replaced}
use Rattle.unpack.specs.Found.{read_answer}
use Rattle.unpack.specs.Unpacked.{unpacked}
use Rattle.length_field.specs.Leading.{leading_count}
use Rattle.readers.specs.Finding.{bits_finding, leading_finding}
use Rattle.pack.specs.Source.{standard_bits}
use Rattle.cutout.specs.CutOut.{cleared, readied}
use Rattle.payload.specs.Payload.{Payload, payload_of}
use Rattle.payload.specs.Writing.{spliced, in_cut_out, grown, writing}
use Rattle.record.specs.Parsing.{coded_of}
use Rattle.calls.specs.Calls.{by_record, decoded, encoded}

-- records of UInt32: type, flags, variant, termination, 32-bit bit length, 32-bit max, and 16-bit place and length of the mask
abbrev standard : ℕ → ℕ → ℕ → List ℕ
standard flags bits size = 2 ∷ flags ∷ 3 ∷ 0 ∷ 0 ∷ 0 ∷ 0 ∷ bits ∷ 0 ∷ 0 ∷ 0 ∷ 0 ∷ 0 ∷ 0 ∷ 0 ∷ size ∷ []

abbrev low_high : ℕ → List ℕ
low_high bits = standard 0 bits 0

abbrev high_low : ℕ → List ℕ
high_low bits = standard 1 bits 0

-- the mask is the whole store
abbrev plain : ℕ → ℕ → List ℕ
plain bits size = standard 3 bits size

abbrev condensing : ℕ → ℕ → List ℕ
condensing bits size = standard 7 bits size

-- ByteField behind a length field
abbrev leading : ℕ → List ℕ
leading bits = 7 ∷ 1 ∷ 1 ∷ 0 ∷ 0 ∷ 0 ∷ 0 ∷ bits ∷ 0 ∷ 0 ∷ 0 ∷ 0 ∷ 0 ∷ 0 ∷ 0 ∷ 0 ∷ []

-- a decode at byte 0 and a bit position into four bytes EE: the five numbers, and then the output
abbrev flat_read : Answer (List ℕ) → List ℕ
flat_read a = a.report ++ a.left

abbrev reads : List ℕ → List ℕ → List ℕ → ℕ → List ℕ
reads bytes store payload pos = flat_read (decoded (by_record bytes) store payload 0 pos (0xEE ∷ 0xEE ∷ 0xEE ∷ 0xEE ∷ []))

abbrev gave : ℕ → ℕ → List ℕ → List ℕ
gave bits size output = read bits size ++ output

abbrev refuses : ℕ → List ℕ
refuses n = numbered n ++ (0xEE ∷ 0xEE ∷ 0xEE ∷ 0xEE ∷ [])

abbrev too_short : ℕ → ℕ → List ℕ
too_short expected actual = short expected actual ++ (0xEE ∷ 0xEE ∷ 0xEE ∷ 0xEE ∷ [])

-- an encode on a payload that is used whole: the five numbers, the used length, and then the payload
abbrev flat_written : Answer Payload → List ℕ
flat_written a = a.report ++ (a.left.used ∷ a.left.bytes)

abbrev writes : List ℕ → List ℕ → List ℕ → List ℕ → ℕ → List ℕ
writes bytes store input on pos = flat_written (encoded (by_record bytes) store input (payload_of on (length on)) 0 pos)

abbrev leaves : List ℕ → List ℕ
leaves payload = wrote ++ (length payload ∷ payload)

abbrev leaves_refused : ℕ → List ℕ → List ℕ
leaves_refused n payload = numbered n ++ (length payload ∷ payload)

unfoldable pub starred : List Example
starred =
    -- b
    (reads (low_high 16) [] (0x12 ∷ 0x34 ∷ []) 0 is gave 16 2 (0x34 ∷ 0x12 ∷ 0xEE ∷ 0xEE ∷ []))
    -- d
    ∷ (reads (high_low 8) [] (0x12 ∷ 0x34 ∷ []) 4 is refuses 27)
    ∷ (writes (high_low 8) [] (0xFF ∷ []) (0x00 ∷ 0x00 ∷ []) 4 is leaves (0x0F ∷ 0xF0 ∷ []))
    -- e
    ∷ (writes (high_low 12) [] (0x0A ∷ 0xBC ∷ []) (0x00 ∷ 0x00 ∷ []) 0 is leaves (0x0A ∷ 0x0C ∷ []))
    -- f
    ∷ (writes (high_low 8) [] (0x01 ∷ []) (0xF0 ∷ []) 0 is leaves (0xF1 ∷ []))
    ∷ (writes (plain 8 1) (0x0F ∷ []) (0xA5 ∷ []) (0x33 ∷ []) 0 is leaves (0x35 ∷ []))
    -- g
    ∷ (reads (plain 16 1) (0x0F ∷ []) (0xFF ∷ 0xFF ∷ []) 0 is gave 16 2 (0x0F ∷ 0x0F ∷ 0xEE ∷ 0xEE ∷ []))
    -- h
    ∷ (reads (plain 4 1) (0x00 ∷ []) (0xF0 ∷ []) 4 is gave 4 1 (0x0F ∷ 0xEE ∷ 0xEE ∷ 0xEE ∷ []))
    -- i
    ∷ (reads (condensing 8 1) (0xF0 ∷ []) (0xA5 ∷ []) 0 is gave 4 1 (0x0A ∷ 0xEE ∷ 0xEE ∷ 0xEE ∷ []))
    ∷ (writes (condensing 8 1) (0xF0 ∷ []) (0x0A ∷ []) (0x05 ∷ []) 0 is leaves (0xA5 ∷ []))
    -- j
    ∷ (reads (condensing 4 1) (0xF0 ∷ []) (0x0F ∷ []) 0 is gave 4 1 (0x00 ∷ 0xEE ∷ 0xEE ∷ 0xEE ∷ []))
    ∷ (writes (condensing 4 1) (0xF0 ∷ []) (0x0A ∷ []) (0x05 ∷ []) 0 is leaves_refused 36 (0x05 ∷ []))
    -- k
    ∷ (reads (condensing 16 4) (0x00 ∷ 0x01 ∷ 0xFF ∷ 0xFF ∷ []) (0x00 ∷ 0x01 ∷ []) 0 is gave 16 1 (0x01 ∷ 0xEE ∷ 0xEE ∷ 0xEE ∷ []))
    ∷ (writes (condensing 16 2) (0xFF ∷ 0xFF ∷ []) (0x12 ∷ []) (0x00 ∷ 0x00 ∷ []) 0 is leaves (0xFF ∷ 0x12 ∷ []))
    -- l
    ∷ (reads (leading 8) [] (0x02 ∷ 0x41 ∷ 0x42 ∷ 0x43 ∷ []) 0 is gave 16 2 (0x41 ∷ 0x42 ∷ 0xEE ∷ 0xEE ∷ []))
    ∷ (reads (leading 8) [] (0x04 ∷ 0x41 ∷ []) 0 is too_short 5 2)
    ∷ []

pub starred_hold : hold starred ≡ true
unfolding starred coded_of decoded encoded read_answer bits_finding leading_finding unpacked leading_count ordered swap_pairs bit bit_at number packed extracted injected overlaid bit_of_mask front_bit gathered ones ones_in condensed ones_below replacement replaced standard_bits cleared readied spliced in_cut_out grown writing
starred_hold = refl
