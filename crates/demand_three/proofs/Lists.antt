-- Worked lists of fields, in the field layer: who owns what, what is built, what a change makes of it and what is read back,
-- as one table that the checker computes.
use Rattle.std.proofs.Common.{◌≡◌, refl, Bool, true, cond, List, [], ◌∷◌, ◌++◌, ℕ, length, take, replicate, eqb}
use lib.Count.{ones}
use Rattle.kinds.proofs.Examples.{Example, equal, hold, ◌is◌}
use Rattle.kinds.specs.Types.{bytes_for}
use Rattle.kinds.specs.declared.types.DataType.{DataType}
use Rattle.kinds.specs.declared.types.DataType.TheVariants.{Int32, UInt32, Float32, ByteField}
use Rattle.kinds.specs.declared.types.ByteOrder.TheVariants.{Keep, Reverse}
use Rattle.kinds.specs.Outcomes.{Answer}
use Rattle.order.specs.Order.{ordered}
use Rattle.bits.specs.Bits.{bit, bit_at, number, packed}
use Rattle.bits.specs.Moves.{first, extracted, injected, overlaid}
use Rattle.masks.specs.Mask.{Mask, no_mask, plain_mask, condensed_mask}
use Rattle.masks.specs.Plain.{bit_of_mask}
use Rattle.condensed.specs.Condensed.{front_bit, ones_below, gathered, condensed, replacement, replaced}
use Rattle.pack.specs.Source.{standard_bits}
use Rattle.cutout.specs.CutOut.{cleared, readied}
use Rattle.payload.specs.Payload.{payload_of}
use Rattle.payload.specs.Writing.{spliced, in_cut_out, grown, writing, clearing}
use Rattle.unpack.specs.Found.{read_answer}
use Rattle.unpack.specs.Unpacked.{unpacked}
use Rattle.readers.specs.Finding.{bits_finding}
use Rattle.ownership.specs.Ownership.{footprint, owns}
use Rattle.demand_three.specs.Changing.{Placed, cut_of, apart_below, field_way, zeros, whole_or_short, inside_bytes, unmasked, Assignment, build, change, all_accepted, apart_from, disjoint}

-- fields of so many bits at a byte and a bit position
abbrev pub high : ℕ → ℕ → ℕ → Placed
high len at pos = record { type = UInt32; order = Keep; len = len; mask = no_mask; at = at; pos = pos }

abbrev pub low : ℕ → ℕ → ℕ → Placed
low len at pos = record { type = UInt32; order = Reverse; len = len; mask = no_mask; at = at; pos = pos }

abbrev under : Mask → Placed → Placed
under mask f = record { type = f.type; order = f.order; len = f.len; mask = mask; at = f.at; pos = f.pos }

abbrev pub plain : List ℕ → Placed → Placed
plain mask f = under (plain_mask mask) f

abbrev condensed_by : List ℕ → Placed → Placed
condensed_by mask f = under (condensed_mask mask) f

abbrev typed : DataType → Placed → Placed
typed t f = record { type = t; order = f.order; len = f.len; mask = f.mask; at = f.at; pos = f.pos }

abbrev with : Placed → List ℕ → Assignment field_way
with f v = record { told = f; value = v }

abbrev flag : Bool → ℕ
flag b = cond b 1 0

abbrev footprints : ℕ → List (Assignment field_way) → List ℕ
footprints n [] = []
footprints n (e ∷ l) = footprint (cut_of e.told) n ++ footprints n l

-- all accepted in n bytes, and own bits disjoint
abbrev judged : ℕ → List (Assignment field_way) → List ℕ
judged n l = flag (all_accepted field_way n l) ∷ flag (disjoint field_way n l) ∷ []

-- the bits that each field owns, what is built, and what it is after the first field's value is changed
abbrev changed : ℕ → List (Assignment field_way) → List ℕ → List ℕ
changed n [] v = []
changed n (e ∷ l) v =
    judged n (e ∷ l)
    ++ (footprints n (e ∷ l)
    ++ ((build field_way (e ∷ l) (zeros n)).bytes
    ++ (change field_way e.told v (build field_way (e ∷ l) (zeros n))).left.bytes))

abbrev apartly : List ℕ → List ℕ → List ℕ → List ℕ
apartly owned built new = 1 ∷ 1 ∷ (owned ++ (built ++ new))

-- accepted and apart, what a change of the first field makes, and what building anew does
abbrev against : ℕ → List (Assignment field_way) → List ℕ → List ℕ
against n [] v = []
against n (e ∷ l) v = judged n (e ∷ l) ++ ((change field_way e.told v (build field_way (e ∷ l) (zeros n))).left.bytes ++ (build field_way (with e.told v ∷ l) (zeros n)).bytes)

-- the premises of the read-back: length, place, mask, and of the value its size, that it is bytes, and its bits
abbrev premises : Placed → List ℕ → List ℕ
premises f v =
    flag (whole_or_short f.len)
    ∷ flag (inside_bytes f)
    ∷ flag (unmasked f.mask)
    ∷ flag (eqb (length v) (bytes_for f.len))
    ∷ flag (equal v (packed (length v) (bit_at v)))
    ∷ flag (equal (packed (length v) (bit_at v)) (packed (length v) (first f.len (bit_at v))))
    ∷ []

abbrev premised : ℕ → ℕ → ℕ → ℕ → ℕ → ℕ → List ℕ
premised a b c d e f = a ∷ b ∷ c ∷ d ∷ e ∷ f ∷ []

-- number, bits and bytes of what is read after a change of n bytes of ones, and the output
abbrev flat : Answer (List ℕ) → List ℕ
flat a = take 3 a.report ++ a.left

abbrev into : List ℕ → ℕ → Placed → List ℕ → List ℕ
into output n f v = flat (field_way.read_back f (change field_way f v (payload_of (replicate n 0xFF) n)).left.bytes output)

abbrev back : ℕ → Placed → List ℕ → List ℕ
back n f v = premises f v ++ into (replicate 3 0xEE) n f v

examples : List Example
examples =
    -- the two halves of one byte
    (changed 1 (with (high 4 0 4) (0x0A ∷ []) ∷ with (high 4 0 0) (0x05 ∷ []) ∷ []) (0x03 ∷ []) is apartly (0xF0 ∷ 0x0F ∷ []) (0xA5 ∷ []) (0x35 ∷ []))
    -- two masks on the same bytes
    ∷ (changed 2 (with (plain (0x0F ∷ 0x0F ∷ []) (high 16 0 0)) (0x12 ∷ 0x34 ∷ []) ∷ with (plain (0xF0 ∷ 0xF0 ∷ []) (high 16 0 0)) (0xAB ∷ 0xCD ∷ []) ∷ []) (0xFF ∷ 0xFF ∷ []) is apartly (0x0F ∷ 0x0F ∷ 0xF0 ∷ 0xF0 ∷ []) (0xA2 ∷ 0xC4 ∷ []) (0xAF ∷ 0xCF ∷ []))
    -- low-high at a bit position that crosses bytes, and high-low across the same bytes
    ∷ (changed 2 (with (low 8 0 4) (0xAB ∷ []) ∷ with (high 8 0 4) (0xCD ∷ []) ∷ []) (0x5A ∷ []) is apartly (0xF0 ∷ 0x0F ∷ 0x0F ∷ 0xF0 ∷ []) (0xBC ∷ 0xDA ∷ []) (0xAC ∷ 0xD5 ∷ []))
    -- low-high across bytes with a length of 12, of which the source loses bits 4 to 7
    ∷ (changed 2 (with (low 12 0 4) (0x0A ∷ 0xBC ∷ []) ∷ with (high 4 0 0) (0x07 ∷ []) ∷ []) (0x0F ∷ 0xFF ∷ []) is apartly (0xF0 ∷ 0xFF ∷ 0x0F ∷ 0x00 ∷ []) (0xC7 ∷ 0xA0 ∷ []) (0xF7 ∷ 0xF0 ∷ []))
    -- a length of 12 beside a field in its highest byte
    ∷ (changed 2 (with (high 12 0 0) (0x0A ∷ 0xBC ∷ []) ∷ with (high 4 0 4) (0x07 ∷ []) ∷ []) (0x0F ∷ 0xFF ∷ []) is apartly (0x0F ∷ 0xFF ∷ 0xF0 ∷ 0x00 ∷ []) (0x7A ∷ 0x0C ∷ []) (0x7F ∷ 0x0F ∷ []))
    -- short plain masks repeat their first byte
    ∷ (changed 2 (with (plain (0xF0 ∷ []) (high 16 0 0)) (0xAB ∷ 0xCD ∷ []) ∷ with (plain (0x0F ∷ []) (high 16 0 0)) (0x12 ∷ 0x34 ∷ []) ∷ []) (0x99 ∷ 0x99 ∷ []) is apartly (0xF0 ∷ 0xF0 ∷ 0x0F ∷ 0x0F ∷ []) (0xA2 ∷ 0xC4 ∷ []) (0x92 ∷ 0x94 ∷ []))
    -- a condensed mask shorter than the length sets the cut-out, so the next byte is free
    ∷ (changed 2 (with (condensed_by (0xF0 ∷ []) (high 16 0 0)) (0x0A ∷ []) ∷ with (high 4 0 0) (0x05 ∷ []) ∷ with (high 8 1 0) (0x77 ∷ []) ∷ []) (0x03 ∷ []) is apartly (0xF0 ∷ 0x00 ∷ 0x0F ∷ 0x00 ∷ 0x00 ∷ 0xFF ∷ []) (0xA5 ∷ 0x77 ∷ []) (0x35 ∷ 0x77 ∷ []))
    -- a condensed mask, low-high across three bytes, and a plain one for the rest of them
    ∷ (changed 3 (with (condensed_by (0x81 ∷ 0x18 ∷ []) (low 16 0 4)) (0x0B ∷ []) ∷ with (plain (0xF7 ∷ 0xEE ∷ 0x7F ∷ []) (low 24 0 0)) (0x12 ∷ 0x34 ∷ 0x56 ∷ []) ∷ []) (0x04 ∷ []) is apartly (0x80 ∷ 0x11 ∷ 0x08 ∷ 0x7F ∷ 0xEE ∷ 0xF7 ∷ []) (0xD6 ∷ 0x25 ∷ 0x1A ∷ []) (0x56 ∷ 0x34 ∷ 0x12 ∷ []))
    -- an empty mask counts as none, condensed or not
    ∷ (changed 2 (with (plain [] (high 8 0 0)) (0xA5 ∷ []) ∷ with (condensed_by [] (high 8 1 0)) (0x5A ∷ []) ∷ []) (0x11 ∷ []) is apartly (0xFF ∷ 0x00 ∷ 0x00 ∷ 0xFF ∷ []) (0xA5 ∷ 0x5A ∷ []) (0x11 ∷ 0x5A ∷ []))
    -- a mask of zeros owns nothing
    ∷ (changed 1 (with (plain (0x00 ∷ []) (high 8 0 0)) (0xFF ∷ []) ∷ with (high 8 0 0) (0x3C ∷ []) ∷ []) (0xAA ∷ []) is apartly (0x00 ∷ 0xFF ∷ []) (0x3C ∷ []) (0x3C ∷ []))
    -- of a mask longer than the length its last bits count
    ∷ (changed 1 (with (plain (0xFF ∷ 0xFF ∷ []) (high 4 0 0)) (0x09 ∷ []) ∷ with (high 4 0 4) (0x06 ∷ []) ∷ []) (0x0C ∷ []) is apartly (0x0F ∷ 0xF0 ∷ []) (0x69 ∷ []) (0x6C ∷ []))
    -- types and orders beside one another
    ∷ (changed 5 (with (typed Float32 (low 32 0 0)) (0x3F ∷ 0x80 ∷ 0x00 ∷ 0x00 ∷ []) ∷ with (typed Int32 (high 3 4 5)) (0x05 ∷ []) ∷ with (high 5 4 0) (0x13 ∷ []) ∷ []) (0xC0 ∷ 0x49 ∷ 0x0F ∷ 0xDB ∷ []) is apartly (0xFF ∷ 0xFF ∷ 0xFF ∷ 0xFF ∷ 0x00 ∷ 0x00 ∷ 0x00 ∷ 0x00 ∷ 0x00 ∷ 0xE0 ∷ 0x00 ∷ 0x00 ∷ 0x00 ∷ 0x00 ∷ 0x1F ∷ []) (0x00 ∷ 0x00 ∷ 0x80 ∷ 0x3F ∷ 0xB3 ∷ []) (0xDB ∷ 0x0F ∷ 0x49 ∷ 0xC0 ∷ 0xB3 ∷ []))
    -- values of any length: empty, and longer than the field
    ∷ (changed 2 (with (high 8 0 0) [] ∷ with (high 8 1 0) (0x11 ∷ 0x22 ∷ 0x33 ∷ []) ∷ []) (0x44 ∷ 0x55 ∷ []) is apartly (0xFF ∷ 0x00 ∷ 0x00 ∷ 0xFF ∷ []) (0x00 ∷ 0x33 ∷ []) (0x55 ∷ 0x33 ∷ []))
    -- a condensed write with fewer bits than ones
    ∷ (changed 2 (with (condensed_by (0xFF ∷ 0xFF ∷ []) (high 16 0 0)) (0x12 ∷ []) ∷ []) [] is apartly (0xFF ∷ 0xFF ∷ []) (0xFF ∷ 0x12 ∷ []) (0xFF ∷ 0xFF ∷ []))
    -- two fields on the same bits: what is changed is not what is built anew, though every call gives 0
    ∷ (against 1 (with (high 8 0 0) (0x0F ∷ []) ∷ with (high 8 0 0) (0xF0 ∷ []) ∷ []) (0x00 ∷ []) is (1 ∷ 0 ∷ 0x00 ∷ 0xF0 ∷ []))
    -- two fields that own one bit
    ∷ (judged 1 (with (high 4 0 0) [] ∷ with (high 2 0 3) [] ∷ []) is (1 ∷ 0 ∷ []))
    -- a short mask that repeats into another field
    ∷ (judged 2 (with (plain (0x0F ∷ []) (high 16 0 0)) [] ∷ with (high 4 0 0) [] ∷ []) is (1 ∷ 0 ∷ []))
    -- the same beside the bits that it leaves
    ∷ (judged 2 (with (plain (0x0F ∷ []) (high 16 0 0)) [] ∷ with (high 4 0 4) [] ∷ []) is (1 ∷ 1 ∷ []))
    -- past the end, at a bit position above 7, of no bits
    ∷ (judged 2 (with (high 16 1 0) [] ∷ []) is (0 ∷ 1 ∷ []))
    ∷ (judged 2 (with (high 8 0 8) [] ∷ []) is (0 ∷ 1 ∷ []))
    ∷ (judged 2 (with (high 0 0 0) [] ∷ []) is (0 ∷ 1 ∷ []))
    -- a condensed mask with more bits than the field, and a byte type
    ∷ (judged 2 (with (condensed_by (0x00 ∷ 0xFF ∷ []) (high 8 0 0)) [] ∷ []) is (0 ∷ 1 ∷ []))
    ∷ (judged 2 (with (typed ByteField (high 8 0 0)) [] ∷ []) is (0 ∷ 1 ∷ []))
    -- read back: high-low, low-high, inside a byte
    ∷ (back 1 (high 8 0 0) (0xA5 ∷ []) is (premised 1 1 1 1 1 1 ++ (0 ∷ 8 ∷ 1 ∷ 0xA5 ∷ 0xEE ∷ 0xEE ∷ [])))
    ∷ (back 2 (low 16 0 0) (0x12 ∷ 0x34 ∷ []) is (premised 1 1 1 1 1 1 ++ (0 ∷ 16 ∷ 2 ∷ 0x12 ∷ 0x34 ∷ 0xEE ∷ [])))
    ∷ (back 1 (high 4 0 3) (0x09 ∷ []) is (premised 1 1 1 1 1 1 ++ (0 ∷ 4 ∷ 1 ∷ 0x09 ∷ 0xEE ∷ 0xEE ∷ [])))
    -- not so: a length of 12, bits above the length, an empty mask, condensed too, and across the edge of a byte
    ∷ (back 2 (high 12 0 0) (0x0A ∷ 0xBC ∷ []) is (premised 0 1 1 1 1 1 ++ (0 ∷ 12 ∷ 2 ∷ 0x0A ∷ 0x0C ∷ 0xEE ∷ [])))
    ∷ (back 1 (high 4 0 0) (0xF5 ∷ []) is (premised 1 1 1 1 1 0 ++ (0 ∷ 4 ∷ 1 ∷ 0x05 ∷ 0xEE ∷ 0xEE ∷ [])))
    ∷ (back 1 (plain [] (high 8 0 0)) (0xA5 ∷ []) is (premised 1 1 0 1 1 1 ++ (0 ∷ 8 ∷ 1 ∷ 0x00 ∷ 0xEE ∷ 0xEE ∷ [])))
    ∷ (back 1 (condensed_by [] (high 8 0 0)) (0xA5 ∷ []) is (premised 1 1 0 1 1 1 ++ (0 ∷ 0 ∷ 0 ∷ 0xEE ∷ 0xEE ∷ 0xEE ∷ [])))
    ∷ (back 2 (high 8 0 4) (0xFF ∷ []) is (premised 1 0 1 1 1 1 ++ (27 ∷ 0 ∷ 0 ∷ 0xEE ∷ 0xEE ∷ 0xEE ∷ [])))
    -- nor with another mask, with a value that does not fill the field's bytes or is no bytes, and without room
    ∷ (back 1 (plain (0x0F ∷ []) (high 8 0 0)) (0xA5 ∷ []) is (premised 1 1 0 1 1 1 ++ (0 ∷ 8 ∷ 1 ∷ 0x05 ∷ 0xEE ∷ 0xEE ∷ [])))
    ∷ (back 1 (condensed_by (0xF0 ∷ []) (high 8 0 0)) (0x0A ∷ []) is (premised 1 1 0 1 1 1 ++ (0 ∷ 4 ∷ 1 ∷ 0x0A ∷ 0xEE ∷ 0xEE ∷ [])))
    ∷ (back 2 (high 16 0 0) (0x12 ∷ []) is (premised 1 1 1 0 1 1 ++ (0 ∷ 16 ∷ 2 ∷ 0x00 ∷ 0x12 ∷ 0xEE ∷ [])))
    ∷ (back 1 (high 8 0 0) (0x1A5 ∷ []) is (premised 1 1 1 1 0 1 ++ (0 ∷ 8 ∷ 1 ∷ 0xA5 ∷ 0xEE ∷ 0xEE ∷ [])))
    ∷ (into [] 1 (high 8 0 0) (0xA5 ∷ []) is (41 ∷ 0 ∷ 0 ∷ []))
    ∷ []

all_hold : hold examples ≡ true
unfolding examples ordered bit bit_at number packed extracted injected overlaid bit_of_mask front_bit ones_below gathered condensed replacement replaced standard_bits cleared readied spliced in_cut_out grown writing clearing read_answer unpacked bits_finding footprint owns build all_accepted apart_below apart_from disjoint ones
all_hold = refl
