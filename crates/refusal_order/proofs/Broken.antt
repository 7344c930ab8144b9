-- Inputs that break several rules at once, of each call and variant, as one table that the checker computes: the number that the call gives,
-- and all rows of the page that hold, of which it is the first.
use Rattle.std.proofs.Common.{◌≡◌, refl, true, cond, List, [], ◌∷◌, ℕ, replicate}
use Rattle.kinds.proofs.Examples.{Example, hold, ◌is◌}
use Rattle.kinds.specs.Answers.{number_in}
use Rattle.order.specs.Order.{ordered, swap_pairs}
use Rattle.bits.specs.Bits.{bit, bit_at, number, packed}
use Rattle.bits.specs.Moves.{extracted, overlaid}
use Rattle.record.specs.Parsing.{coded_of}
use Rattle.table.specs.Table.{fetched}
use Rattle.length_field.specs.Leading.{leading_count}
use Rattle.scans.specs.MinMax.{scan}
use Rattle.unpack.specs.Found.{read_answer}
use Rattle.unpack.specs.Unpacked.{unpacked}
use Rattle.readers.specs.Finding.{bits_finding, leading_finding, min_max_finding}
use Rattle.payload.specs.Payload.{payload_of}
use Rattle.payload.specs.Writing.{writing, clearing}
use Rattle.numerals.specs.Digits.{rebased, digits_below}
use Rattle.encodings.specs.Widths.{encoding_of}
use Rattle.encodings.specs.Meaning.{meaning}
use Rattle.encodings.specs.Writing.{in_range, pattern_of}
use Rattle.values.specs.Values.{value_read, value_written, value_read_by_code, value_written_by_code}
use Rattle.calls.specs.Calls.{by_record, decoded, encoded, cleared_field, runtime_read, key_name}
use Rattle.dct.specs.Boundary.{places_fetched}
use Rattle.refusal_order.specs.RefusalsInOrder.{Row, decode_order, read_order, encode_order, clear_order, fetch_order, key_name_order, read_value_order, write_value_order}
use lib.IntN as int

-- the numbers of all rows whose tests hold
abbrev broken : List Row → List ℕ
broken [] = []
broken (r ∷ rs) = cond r.test (r.number ∷ broken rs) (broken rs)

-- ---- records: the type's code, flags, the length or minimum, the maximum, and the size of the mask, which is the store's front

abbrev told : ℕ → ℕ → ℕ → ℕ → ℕ → ℕ → ℕ → List ℕ
told type flags variant termination len max size =
    type ∷ flags ∷ variant ∷ termination ∷ 0 ∷ 0 ∷ 0 ∷ len ∷ 0 ∷ 0 ∷ 0 ∷ max ∷ 0 ∷ 0 ∷ 0 ∷ size ∷ []

abbrev standard : ℕ → ℕ → List ℕ
standard type len = told type 1 3 0 len 0 0

-- UInt32 under a condensed mask
abbrev condensed : ℕ → ℕ → List ℕ
condensed len size = told 2 7 3 0 len 0 size

abbrev leading : ℕ → ℕ → List ℕ
leading type bits = told type 1 1 0 bits 0 0

abbrev min_max : ℕ → ℕ → ℕ → ℕ → List ℕ
min_max type termination least most = told type 9 2 termination least most 0

abbrev param : ℕ → List ℕ
param type = told type 1 4 0 0 0 0

-- ---- the calls: the number, and then the rows; an output and a payload to be written have no bytes unless they are given

abbrev decodes : List ℕ → List ℕ → List ℕ → ℕ → ℕ → List ℕ
decodes bytes store payload at pos =
    number_in (decoded (by_record bytes) store payload at pos []).report ∷ broken (decode_order (by_record bytes) store payload at pos [])

abbrev reads : List ℕ → List ℕ → List ℕ → ℕ → ℕ → List ℕ
reads bytes store payload at count =
    number_in (runtime_read (by_record bytes) store payload at count).report ∷ broken (read_order (by_record bytes) store payload at count)

abbrev encodes : List ℕ → List ℕ → List ℕ → ℕ → ℕ → ℕ → List ℕ
encodes bytes store input used at pos =
    let p = payload_of [] used in
    number_in (encoded (by_record bytes) store input p at pos).report ∷ broken (encode_order (by_record bytes) store input p at pos)

abbrev clears : List ℕ → List ℕ → ℕ → ℕ → ℕ → List ℕ
clears bytes store used at pos =
    let p = payload_of [] used in
    number_in (cleared_field (by_record bytes) store p at pos).report ∷ broken (clear_order (by_record bytes) store p at pos)

abbrev fetches : List ℕ → ℕ → List ℕ
fetches table number = number_in (places_fetched table number).report ∷ broken (fetch_order table number)

-- a table with one record and an empty store
abbrev table_of : List ℕ → List ℕ
table_of bytes = 0x44 ∷ 0x43 ∷ 0x54 ∷ 0 ∷ 1 ∷ 0 ∷ 1 ∷ 0 ∷ 0 ∷ bytes

abbrev names : List ℕ → List ℕ → List ℕ
names bytes store = number_in (key_name (by_record bytes) store).report ∷ broken (key_name_order (by_record bytes) store)

abbrev reads_value : ℕ → ℕ → List ℕ → List ℕ
reads_value code width xs = number_in (value_read_by_code code width xs (int.pos 0)).report ∷ broken (read_value_order (encoding_of code) width xs)

abbrev writes_value : ℕ → ℕ → int.ℤ → List ℕ → List ℕ
writes_value code width v xs = number_in (value_written_by_code code width v xs).report ∷ broken (write_value_order (encoding_of code) width v xs)

-- the first of several, which are all that are broken
abbrev first : ℕ → List ℕ → List ℕ
first n others = n ∷ n ∷ others

examples : List Example
examples =
    -- what every call refuses first: a store and no record, Unicode2String and UInt32 in MinMax, UInt32 behind a length field, a mask
    -- outside the store
    (encodes [] (replicate 32769 0) [] 1 0 0 is first 43 (44 ∷ 42 ∷ 0 ∷ []))
    ∷ (encodes (min_max 6 1 1 0) [] [] 1 0 0 is first 44 (12 ∷ 13 ∷ 11 ∷ 35 ∷ []))
    ∷ (encodes [] [] (0x01 ∷ []) 1 0 9 is first 44 (42 ∷ 26 ∷ 40 ∷ []))
    ∷ (decodes [] [] [] 0 1 is first 42 (37 ∷ []))
    ∷ (decodes (told 2 3 3 0 0 0 1) [] [] 1 8 is first 42 (21 ∷ 30 ∷ 26 ∷ 27 ∷ []))
    ∷ (decodes (min_max 2 2 1 0) [] [] 0 0 is first 12 (13 ∷ 10 ∷ 30 ∷ []))
    ∷ (decodes (min_max 6 2 3 1) [] [] 1 1 is first 13 (11 ∷ 20 ∷ 34 ∷ 30 ∷ []))
    ∷ (decodes (leading 2 0) [] [] 1 0 is first 10 (21 ∷ 31 ∷ 30 ∷ []))
    ∷ (decodes (min_max 6 2 1 2) [] [] 1 1 is first 11 (20 ∷ 34 ∷ 30 ∷ []))
    -- decode, Standard: ByteField, UInt32, Float32, Float64, Unicode2String, and again UInt32
    ∷ (decodes (standard 7 0) [] [] 1 9 is first 20 (21 ∷ 30 ∷ 26 ∷ 27 ∷ []))
    ∷ (decodes (standard 2 0) [] [] 1 8 is first 21 (30 ∷ 26 ∷ 27 ∷ []))
    ∷ (decodes (standard 2 65) [] [] 0 8 is first 22 (30 ∷ 26 ∷ 27 ∷ 41 ∷ []))
    ∷ (decodes (standard 3 16) [] [] 0 8 is first 23 (30 ∷ 26 ∷ 27 ∷ 41 ∷ []))
    ∷ (decodes (standard 8 32) [] [] 0 8 is first 24 (30 ∷ 26 ∷ 27 ∷ 41 ∷ []))
    ∷ (decodes (standard 6 8) [] [] 0 0 is first 25 (30 ∷ 41 ∷ []))
    ∷ (decodes (standard 2 8) [] [] 0 8 is first 30 (26 ∷ 27 ∷ 41 ∷ []))
    ∷ (decodes (standard 2 8) [] (0xFF ∷ []) 0 8 is first 26 (27 ∷ 41 ∷ []))
    ∷ (decodes (standard 2 8) [] (0xFF ∷ []) 0 4 is first 27 (41 ∷ []))
    -- Leading: ByteField, and Unicode2String at 25
    ∷ (decodes (leading 7 0) [] [] 1 1 is first 20 (21 ∷ 31 ∷ 30 ∷ []))
    ∷ (decodes (leading 7 0) [] [] 1 0 is first 21 (31 ∷ 30 ∷ []))
    ∷ (decodes (leading 6 72) [] [] 0 0 is first 25 (31 ∷ 32 ∷ 30 ∷ []))
    ∷ (decodes (leading 7 72) [] [] 0 0 is first 31 (32 ∷ 30 ∷ []))
    ∷ (decodes (leading 7 65) [] (0 ∷ 0 ∷ 0 ∷ 0 ∷ 0 ∷ 0 ∷ 0 ∷ 0 ∷ 1 ∷ []) 0 0 is first 32 (30 ∷ 41 ∷ []))
    ∷ (decodes (leading 7 8) [] (0x01 ∷ []) 0 0 is first 30 (41 ∷ []))
    -- MinMax: AsciiString up to a zero, and up to the payload's end
    ∷ (decodes (min_max 4 2 1 4) [] [] 1 1 is first 20 (34 ∷ 30 ∷ []))
    ∷ (decodes (min_max 4 2 1 4) [] [] 1 0 is first 34 (30 ∷ []))
    ∷ (decodes (min_max 4 1 2 4) [] (0x41 ∷ []) 0 0 is first 30 (41 ∷ []))
    -- Param
    ∷ (decodes (param 7) [] [] 0 1 is first 20 (37 ∷ []))
    -- runtime read
    ∷ (reads [] [] [] 0 1 is first 42 (30 ∷ []))
    -- encode, Standard, in the same turn
    ∷ (encodes (standard 7 0) [] [] 0 1 9 is first 20 (21 ∷ 26 ∷ 40 ∷ []))
    ∷ (encodes (condensed 0 1) (0xFF ∷ []) [] 0 0 8 is first 21 (36 ∷ 26 ∷ 40 ∷ []))
    ∷ (encodes (condensed 65 9) (0 ∷ 0 ∷ 0 ∷ 0 ∷ 0 ∷ 0 ∷ 0 ∷ 0 ∷ 0 ∷ []) [] 0 0 8 is first 22 (36 ∷ 26 ∷ 40 ∷ []))
    ∷ (encodes (standard 3 16) [] [] 0 0 8 is first 23 (26 ∷ 40 ∷ []))
    ∷ (encodes (standard 8 32) [] [] 0 0 8 is first 24 (26 ∷ 40 ∷ []))
    ∷ (encodes (standard 6 8) [] [] 0 0 0 is first 25 (40 ∷ []))
    ∷ (encodes (condensed 4 1) (0xFF ∷ []) [] 0 0 8 is first 36 (26 ∷ 40 ∷ []))
    ∷ (encodes (standard 2 8) [] [] 0 0 8 is first 26 (40 ∷ []))
    -- Leading: ByteField behind 0 bits with a byte, behind 65 bits, and behind 0 bits with none
    ∷ (encodes (leading 7 0) [] (0x01 ∷ []) 0 0 1 is first 20 (33 ∷ 40 ∷ []))
    ∷ (encodes (leading 7 0) [] (0x01 ∷ []) 0 0 0 is first 33 (40 ∷ []))
    ∷ (encodes (leading 7 65) [] [] 0 0 0 is first 32 (40 ∷ []))
    ∷ (encodes (leading 7 0) [] [] 0 1 0 is first 38 (40 ∷ []))
    -- MinMax: AsciiString up to the payload's end
    ∷ (encodes (min_max 4 1 0 4) [] [] 0 1 1 is first 20 (35 ∷ 40 ∷ []))
    ∷ (encodes (min_max 4 1 0 4) [] [] 0 1 0 is first 35 (40 ∷ []))
    -- Param: an empty input of a byte type, of UInt32, which succeeds, and a byte
    ∷ (encodes (param 7) [] [] 0 1 9 is first 20 (0 ∷ 26 ∷ 40 ∷ []))
    ∷ (encodes (param 2) [] [] 0 1 9 is first 0 (26 ∷ 40 ∷ []))
    ∷ (encodes (param 2) [] (0x01 ∷ []) 0 1 9 is first 26 (40 ∷ []))
    -- clear: a byte type, UInt32 of no bits, of 65, the two floats, a mask that is too long, and a bit position
    ∷ (clears (leading 2 0) [] 0 0 0 is first 10 (39 ∷ []))
    ∷ (clears (standard 7 0) [] 0 1 8 is first 39 (21 ∷ 26 ∷ 30 ∷ []))
    ∷ (clears (condensed 0 1) (0xFF ∷ []) 0 0 8 is first 21 (36 ∷ 26 ∷ 30 ∷ []))
    ∷ (clears (condensed 65 9) (0 ∷ 0 ∷ 0 ∷ 0 ∷ 0 ∷ 0 ∷ 0 ∷ 0 ∷ 0 ∷ []) 0 0 8 is first 22 (36 ∷ 26 ∷ 30 ∷ []))
    ∷ (clears (standard 3 16) [] 0 0 8 is first 23 (26 ∷ 30 ∷ []))
    ∷ (clears (standard 8 32) [] 0 0 8 is first 24 (26 ∷ 30 ∷ []))
    ∷ (clears (condensed 4 1) (0xFF ∷ []) 0 0 8 is first 36 (26 ∷ 30 ∷ []))
    ∷ (clears (standard 2 8) [] 0 0 8 is first 26 (30 ∷ []))
    -- fetch: no table; and one of one record, which is UInt32 in MinMax, and its second
    ∷ (fetches [] 0 is first 45 (42 ∷ []))
    ∷ (fetches (table_of (min_max 2 2 1 0)) 0 is first 12 (13 ∷ 10 ∷ []))
    ∷ (fetches (table_of (min_max 2 2 1 0)) 1 is first 42 [])
    -- key name: the name is outside the store
    ∷ (names (told 2 1 4 0 0 0 1) [] is first 42 [])
    -- a value read: an encoding that is none, of many bytes and of none; packed decimal of five bits, and of four in two bytes; a digit of 10
    ∷ (reads_value 5 8 (replicate 65536 0) is first 43 (58 ∷ []))
    ∷ (reads_value 0 8 [] is first 58 [])
    ∷ (reads_value 4 5 (0x0A ∷ []) is first 58 (60 ∷ []))
    ∷ (reads_value 4 4 (0x00 ∷ 0x0A ∷ []) is first 58 (60 ∷ []))
    ∷ (reads_value 4 4 (0x0A ∷ []) is first 60 [])
    -- and written: two's complement of 8 bits in two bytes, and in many; of one bit; and in one byte
    ∷ (writes_value 1 8 (int.pos 128) (replicate 65536 0) is first 43 (58 ∷ 59 ∷ []))
    ∷ (writes_value 1 8 (int.pos 128) (0x00 ∷ 0x00 ∷ []) is first 58 (59 ∷ []))
    ∷ (writes_value 1 1 (int.pos 1) (0x00 ∷ []) is first 58 (59 ∷ []))
    ∷ (writes_value 1 8 (int.negsuc 128) (0x00 ∷ []) is first 59 [])
    ∷ []

all_hold : hold examples ≡ true
unfolding examples decoded runtime_read encoded cleared_field key_name places_fetched fetched coded_of read_answer bits_finding leading_finding min_max_finding unpacked leading_count scan ordered swap_pairs bit bit_at number packed extracted overlaid writing clearing value_read value_written value_read_by_code value_written_by_code meaning in_range pattern_of rebased digits_below
all_hold = refl
