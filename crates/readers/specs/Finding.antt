-- RULES 5: what each variant finds in the payload, after its refusals in the order of RULES 11, and a field's whole answer.
use Rattle.std.specs.Prelude.{ℕ, ◌-◌, ◌*◌, ◌&&◌, List, length, ltb}
use Rattle.kinds.specs.declared.types.DataType.{DataType}
use Rattle.kinds.specs.declared.types.ByteOrder.{ByteOrder}
use Rattle.kinds.specs.declared.refusals.Refusal.TheVariants.{RuntimeLengthNeeded}
use Rattle.kinds.specs.Types.{is_unicode_type, bytes_for}
use Rattle.kinds.specs.Slices.{saturating_sum, cut}
use Rattle.kinds.specs.Outcomes.{Outcome, gives, refuses, after, unless_short, Answer}
use Rattle.kinds.specs.Refusals.{bit_position_refusal, bit_length_refusal}
use Rattle.coded.specs.declared.variants.MinMaxLengthType.{MinMaxLengthType}
use Rattle.order.specs.Order.{ordered}
use Rattle.masks.specs.Mask.{Mask}
use Rattle.field.specs.declared.Shape.{Shape}
use Rattle.field.specs.declared.Shape.TheVariants as shape
use Rattle.field.specs.Field.{Field}
use Rattle.length_field.specs.Leading.{leading_start, leading_count, leading_end, length_field_refusal}
use Rattle.scans.specs.MinMax.{min_max_end, scan_refusal}
use Rattle.unpack.specs.Found.{Found, found, read_answer}
use Rattle.unpack.specs.Unpacked.{unpack_refusal, unpacked_found}

-- 30 with the end needed, 26, 27; then c = ceil(length/8) bytes are cut at `at`, ordered, and `length` bits taken from `pos`
unfoldable pub bits_finding : ByteOrder → ℕ → Mask → List ℕ → ℕ → ℕ → Outcome Found
bits_finding o len mask payload at pos =
    unless_short (ltb (length payload) (saturating_sum at (bytes_for len))) (saturating_sum at (bytes_for len)) (length payload)
    (after (unpack_refusal len pos (bytes_for len))
    (gives (unpacked_found mask len pos (ordered o (cut at (bytes_for len) payload)))))

-- 21 to 25, 30, 26, 27
abbrev pub standard_finding : DataType → ByteOrder → ℕ → Mask → List ℕ → ℕ → ℕ → Outcome Found
standard_finding t o len mask payload at pos = after (bit_length_refusal t len) (bits_finding o len mask payload at pos)

-- n data bytes come ordered, 8 bits each
abbrev pub data_found : ByteOrder → List ℕ → ℕ → ℕ → Found
data_found o payload start n = found (8 * n) (ordered o (cut start n payload))

-- 21, 25, 31, 32, 30; then the data bytes
unfoldable pub leading_finding : DataType → ByteOrder → ℕ → List ℕ → ℕ → Outcome Found
leading_finding t o bits payload at =
    let end = leading_end o bits payload at in
    after (bit_length_refusal t bits)
    (after (length_field_refusal o bits payload at)
    (unless_short (ltb (length payload) end) end (length payload)
    (gives (data_found o payload (leading_start o bits payload at) (leading_count o bits payload at)))))

-- 34, 30 for fewer than min bytes, 30 for bytes that end past the payload; then the data bytes
unfoldable pub min_max_finding : DataType → ByteOrder → MinMaxLengthType → List ℕ → ℕ → Outcome Found
min_max_finding t o m payload at =
    let end = min_max_end m (is_unicode_type t) payload at in
    after (scan_refusal m (is_unicode_type t) payload at)
    (unless_short (ltb (end - at) m.min_length) (saturating_sum at m.min_length) (length payload)
    (unless_short (ltb at end && ltb (length payload) end) end (length payload)
    (gives (data_found o payload at (end - at)))))

-- 37 for Param
abbrev pub shape_finding : DataType → ByteOrder → Shape → Mask → List ℕ → ℕ → ℕ → Outcome Found
shape_finding t o (shape.Standard len) mask payload at pos = standard_finding t o len.0 mask payload at pos
shape_finding t o (shape.Leading bits) mask payload at pos = leading_finding t o bits.0 payload at
shape_finding t o (shape.MinMax m) mask payload at pos = min_max_finding t o m payload at
shape_finding t o shape.Param mask payload at pos = refuses RuntimeLengthNeeded

-- 20, and then the variant's own
abbrev pub field_finding : Field → List ℕ → ℕ → ℕ → Outcome Found
field_finding f payload at pos = after (bit_position_refusal f.type pos) (shape_finding f.type f.order f.shape f.mask payload at pos)

-- a field read at a byte position and a bit position, with 41 last
abbrev pub decode_of : Field → List ℕ → ℕ → ℕ → List ℕ → Answer (List ℕ)
decode_of f payload at pos output = read_answer output (field_finding f payload at pos)
