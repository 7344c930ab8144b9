-- RULES 11, on one page: a list for each call and each variant, in the order of that section. A row is a number and the test under which it is
-- given, and the first row whose test holds counts. So a test may rest on those before it: what a length field says means something only
-- where the field is inside the payload. Sums saturate at 2^64-1: in `saturating_sum`, `cut_end`,
-- `leading_start`, `leading_end` and `min_max_end`.
use Rattle.std.specs.Prelude.{ℕ, ◌+◌, ◌-◌, ◌*◌, ◌^◌, ◌%◌, ◌≡◌, Bool, true, false, cond, not, ◌&&◌, ◌||◌, List, [], ◌∷◌, length, eqb, ltb, leb, Option, Some, None, is_none, unwrap_or, ℤ}
use Rattle.kinds.specs.declared.types.DataType.{DataType}
use Rattle.kinds.specs.declared.types.DataType.TheVariants.{Int32, UInt32, Float32, Float64}
use Rattle.kinds.specs.declared.types.ByteOrder.{ByteOrder}
use Rattle.kinds.specs.Types.{among, is_byte_type, is_numeric, is_unicode_type, bytes_for}
use Rattle.kinds.specs.Slices.{saturating_sum, cut}
use Rattle.kinds.specs.Answers.{number_in}
use Rattle.coded.specs.declared.variants.Place.{Place}
use Rattle.coded.specs.declared.variants.MinMaxLengthType.{MinMaxLengthType}
use Rattle.coded.specs.declared.variants.DiagCodedTypeVariant.{DiagCodedTypeVariant}
use Rattle.coded.specs.declared.variants.DiagCodedTypeVariant.TheVariants.{LeadingLengthInfo, MinMaxLength, StandardLength, ParamLengthInfo}
use Rattle.coded.specs.declared.coded_type.DiagCodedType.{DiagCodedType}
use Rattle.coded.specs.Refusals.{some_max, finds_its_length, odd_limits}
use Rattle.order.specs.Order.{ordered}
use Rattle.masks.specs.Mask.{Mask}
use Rattle.field.specs.declared.Shape.{Shape}
use Rattle.field.specs.declared.Shape.TheVariants as shape
use Rattle.field.specs.Field.{Field, field_of, outside, store_place}
use Rattle.record.specs.Numbers.{record_size}
use Rattle.record.specs.Parsing.{coded_in}
use Rattle.table.specs.Table.{said_by, record_place, is_wrong}
use Rattle.length_field.specs.Leading.{leading_start, leading_count, leading_end}
use Rattle.scans.specs.MinMax.{ends_with_zero, min_max_end}
use Rattle.unpack.specs.Unpacked.{unpacked}
use Rattle.pack.specs.Source.{effective_mask, size_under}
use Rattle.payload.specs.Payload.{Payload}
use Rattle.payload.specs.Writing.{cut_end}
use Rattle.lengths.specs.Refusals.{condensed_bits, until_end_of_pdu}
use Rattle.writers.specs.Shapes.{with_terminator}
use Rattle.bits.specs.Bits.{bit_at, number}
use Rattle.encodings.specs.declared.forms.Encoding.{Encoding}
use Rattle.encodings.specs.Widths.{encoding_of, fits}
use Rattle.encodings.specs.Meaning.{legal_digits}
use Rattle.encodings.specs.Writing.{in_range}
use Rattle.values.specs.Values.{value_read, value_written, value_read_by_code, value_written_by_code}
use Rattle.calls.specs.Calls.{Description, coded_said, record_bytes, decoded, encoded, cleared_field, runtime_read, key_name}
use Rattle.dct.specs.Boundary.{places_fetched}

-- ---- rows

pub record Row : Type 0 where
  pub number : ℕ
  pub test : Bool

abbrev pub ◌when◌ : ℕ → Bool → Row
◌when◌ n t = record { number = n; test = t }

infix 10 ◌when◌
-- the number of the first row whose test holds, and 0 where none does
abbrev pub first_number : List Row → ℕ
first_number [] = 0
first_number (r ∷ rs) = cond r.test r.number (first_number rs)

-- ---- words for the tests

abbrev pub any_above : ℕ → List ℕ → Bool
any_above limit [] = false
any_above limit (n ∷ ns) = ltb limit n || any_above limit ns

-- a part that is outside a store of so many bytes
abbrev pub is_outside : Option Place → ℕ → Bool
is_outside (Some p) store = outside p store
is_outside None store = false

-- the limits of a variant; what has none has no maximum
abbrev pub lower_limit : DiagCodedTypeVariant → ℕ
lower_limit (MinMaxLength m) = m.min_length
lower_limit (LeadingLengthInfo bits) = 0
lower_limit (StandardLength s) = 0
lower_limit (ParamLengthInfo name) = 0

abbrev pub upper_limit : DiagCodedTypeVariant → Option ℕ
upper_limit (MinMaxLength m) = m.max_length
upper_limit (LeadingLengthInfo bits) = None
upper_limit (StandardLength s) = None
upper_limit (ParamLengthInfo name) = None

-- a byte type, bit position not 0
abbrev pub at_bit_position : DataType → ℕ → Bool
at_bit_position t pos = is_byte_type t && not (eqb pos 0)

abbrev pub is_integer : DataType → Bool
is_integer t = among t (Int32 ∷ UInt32 ∷ [])

abbrev pub is_float32 : DataType → Bool
is_float32 t = among t (Float32 ∷ [])

abbrev pub is_float64 : DataType → Bool
is_float64 t = among t (Float64 ∷ [])

-- ---- 43, 44, 45, 42, then 12, 13, 10, 11

-- what a call is judged by before its own rules
pub record Lent : Type 0 where
  pub slice_too_long : Bool
  pub used_above_slice : Bool
  pub table_wrong : Bool
  pub record_malformed_or_absent : Bool
  pub store_length : ℕ
  pub coded_type : DiagCodedType

abbrev pub prefix : Lent → List Row → List Row
prefix c own =
    let t = c.coded_type.base_datatype in
    let v = c.coded_type.type_ in
    (43 when c.slice_too_long)
    ∷ (44 when c.used_above_slice)
    ∷ (45 when c.table_wrong)
    ∷ (42 when c.record_malformed_or_absent)
    ∷ (42 when is_outside (store_place v) c.store_length)
    ∷ (12 when some_max (λ n. eqb n 0) (upper_limit v))
    ∷ (13 when some_max (λ n. ltb n (lower_limit v)) (upper_limit v))
    ∷ (10 when finds_its_length v && is_numeric t)
    ∷ (11 when odd_limits v && is_unicode_type t)
    ∷ own

-- the coded type; where there is none 42 is given before it counts, and any will do
abbrev pub type_in : Option DiagCodedType → DiagCodedType
type_in said =
    unwrap_or said
    (record { base_datatype = UInt32; type_ = ParamLengthInfo (record { at = 0; len = record { 0 = 0 } }); is_high_low_byte_order = true })

-- a call that takes a description and a store, and slices of these sizes; 45 is of a table alone
abbrev pub of_call : Description → List ℕ → List ℕ → Bool → (Field → List Row) → List Row
of_call d store sizes used_above own =
    prefix
    (record {
      slice_too_long = any_above 65535 (record_bytes d ∷ sizes) || ltb 32768 (length store);
      used_above_slice = used_above;
      table_wrong = false;
      record_malformed_or_absent = is_none (coded_said d);
      store_length = length store;
      coded_type = type_in (coded_said d);
    })
    (own (field_of (type_in (coded_said d)) store))

-- ---- decode: 20; then each variant's; last 41

module _ (t : DataType) (o : ByteOrder) (payload : List ℕ) (at pos : ℕ) (output : List ℕ) where
  -- Standard 21 to 25, 30, 26, 27
  abbrev pub decode_standard : ℕ → Mask → List Row
  decode_standard len mask =
      (20 when at_bit_position t pos)
      ∷ (21 when eqb len 0)
      ∷ (22 when is_integer t && ltb 64 len)
      ∷ (23 when is_float32 t && not (eqb len 32))
      ∷ (24 when is_float64 t && not (eqb len 64))
      ∷ (25 when is_unicode_type t && not (eqb (len % 16) 0))
      ∷ (30 when ltb (length payload) (saturating_sum at (bytes_for len)))
      ∷ (26 when ltb 7 pos)
      ∷ (27 when ltb (8 * bytes_for len) (pos + len))
      ∷ (41 when ltb (length output) (length (unpacked mask len pos (ordered o (cut at (bytes_for len) payload)))))
      ∷ []

  -- Leading 21, 25, 31, 32, 30
  abbrev pub decode_leading : ℕ → List Row
  decode_leading bits =
      (20 when at_bit_position t pos)
      ∷ (21 when eqb bits 0)
      ∷ (25 when is_unicode_type t && not (eqb (bits % 16) 0))
      ∷ (31 when ltb (length payload) (leading_start o bits payload at))
      ∷ (32 when ltb 64 bits)
      ∷ (30 when ltb (length payload) (leading_end o bits payload at))
      ∷ (41 when ltb (length output) (leading_count o bits payload at))
      ∷ []

  -- MinMax 34, 30: fewer than min bytes, or an end past the payload
  abbrev pub decode_min_max : MinMaxLengthType → List Row
  decode_min_max m =
      let end = min_max_end m (is_unicode_type t) payload at in
      (20 when at_bit_position t pos)
      ∷ (34 when ends_with_zero m.termination && ltb (length payload) end)
      ∷ (30 when ltb (end - at) m.min_length)
      ∷ (30 when ltb at end && ltb (length payload) end)
      ∷ (41 when ltb (length output) (end - at))
      ∷ []

  -- Param 37
  abbrev pub decode_param : List Row
  decode_param = (20 when at_bit_position t pos) ∷ (37 when true) ∷ []

  abbrev pub decode_shape : Shape → Mask → List Row
  decode_shape (shape.Standard len) mask = decode_standard len.0 mask
  decode_shape (shape.Leading bits) mask = decode_leading bits.0
  decode_shape (shape.MinMax m) mask = decode_min_max m
  decode_shape shape.Param mask = decode_param

abbrev pub decode_order : Description → List ℕ → List ℕ → ℕ → ℕ → List ℕ → List Row
decode_order d store payload at pos output =
    of_call d store (length payload ∷ length output ∷ []) false
    (λ f. decode_shape f.type f.order payload at pos output f.shape f.mask)

-- ---- runtime read: 30 only

abbrev pub read_order : Description → List ℕ → List ℕ → ℕ → ℕ → List Row
read_order d store payload at count =
    of_call d store (length payload ∷ []) false
    (λ f. (30 when not (eqb count 0) && ltb (length payload) (saturating_sum at count)) ∷ [])

-- ---- encode: 20; then each variant's

module _ (t : DataType) (input : List ℕ) (p : Payload) (at pos : ℕ) where
  -- Standard 21 to 25, 36, 26, 40
  abbrev pub encode_standard : ℕ → Mask → List Row
  encode_standard len mask =
      (20 when at_bit_position t pos)
      ∷ (21 when eqb len 0)
      ∷ (22 when is_integer t && ltb 64 len)
      ∷ (23 when is_float32 t && not (eqb len 32))
      ∷ (24 when is_float64 t && not (eqb len 64))
      ∷ (25 when is_unicode_type t && not (eqb (len % 16) 0))
      ∷ (36 when ltb len (condensed_bits mask))
      ∷ (26 when ltb 7 pos)
      ∷ (40 when ltb (length p.bytes) (cut_end at pos (size_under (effective_mask mask) len)))
      ∷ []

  -- Leading 33, 32, 38, 40
  abbrev pub encode_leading : ℕ → List Row
  encode_leading bits =
      (20 when at_bit_position t pos)
      ∷ (33 when ltb bits 64 && leb (2 ^ bits) (length input))
      ∷ (32 when ltb 64 bits)
      ∷ (38 when eqb bits 0 && eqb (length input) 0)
      ∷ (40 when ltb (length p.bytes) (saturating_sum at (bytes_for bits + length input)))
      ∷ []

  -- MinMax 35, 40
  abbrev pub encode_min_max : MinMaxLengthType → List Row
  encode_min_max m =
      (20 when at_bit_position t pos)
      ∷ (35 when until_end_of_pdu m.termination && eqb (length input) 0)
      ∷ (40 when ltb (length p.bytes) (saturating_sum at (length (with_terminator m.termination (is_unicode_type t) input))))
      ∷ []

  -- Param: empty input succeeds and changes nothing, otherwise 26, 40
  abbrev pub encode_param : List Row
  encode_param =
      (20 when at_bit_position t pos)
      ∷ (0 when eqb (length input) 0)
      ∷ (26 when ltb 7 pos)
      ∷ (40 when ltb (length p.bytes) (cut_end at pos (8 * length input)))
      ∷ []

  abbrev pub encode_shape : Shape → Mask → List Row
  encode_shape (shape.Standard len) mask = encode_standard len.0 mask
  encode_shape (shape.Leading bits) mask = encode_leading bits.0
  encode_shape (shape.MinMax m) mask = encode_min_max m
  encode_shape shape.Param mask = encode_param

abbrev pub encode_order : Description → List ℕ → List ℕ → Payload → ℕ → ℕ → List Row
encode_order d store input p at pos =
    of_call d store (length input ∷ length p.bytes ∷ []) (ltb (length p.bytes) p.used)
    (λ f. encode_shape f.type input p at pos f.shape f.mask)

-- ---- clear: 39, 21 to 24, 36, 26, 30

module _ (t : DataType) (p : Payload) (at pos : ℕ) where
  abbrev pub clear_standard : ℕ → Mask → List Row
  clear_standard len mask =
      (39 when is_byte_type t)
      ∷ (21 when eqb len 0)
      ∷ (22 when is_integer t && ltb 64 len)
      ∷ (23 when is_float32 t && not (eqb len 32))
      ∷ (24 when is_float64 t && not (eqb len 64))
      ∷ (36 when ltb len (condensed_bits mask))
      ∷ (26 when ltb 7 pos)
      ∷ (30 when ltb p.used (cut_end at pos (size_under (effective_mask mask) len)))
      ∷ []

  abbrev pub clear_shape : Shape → Mask → List Row
  clear_shape (shape.Standard len) mask = clear_standard len.0 mask
  clear_shape (shape.Leading bits) mask = (39 when true) ∷ []
  clear_shape (shape.MinMax m) mask = (39 when true) ∷ []
  clear_shape shape.Param mask = (39 when true) ∷ []

abbrev pub clear_order : Description → List ℕ → Payload → ℕ → ℕ → List Row
clear_order d store p at pos =
    of_call d store (length p.bytes ∷ []) (ltb (length p.bytes) p.used)
    (λ f. clear_shape f.type p at pos f.shape f.mask)

-- ---- fetch and key name: none of their own

-- the record with this number: absent where the table has as many or fewer, else what its 16 bytes say
abbrev pub fetch_order : List ℕ → ℕ → List Row
fetch_order table number =
    let h = said_by table in
    let said = coded_in (cut (record_place number) record_size table) in
    prefix
    (record {
      slice_too_long = ltb 65535 (length table);
      used_above_slice = false;
      table_wrong = is_wrong table h;
      record_malformed_or_absent = leb h.count number || is_none said;
      store_length = h.store_len.0;
      coded_type = type_in said;
    })
    []

abbrev pub key_name_order : Description → List ℕ → List Row
key_name_order d store = of_call d store [] false (λ f. [])

-- ---- values: 43, 58, and then 60 of a reading and 59 of a writing. What tells no encoding fits no width

abbrev pub read_value_order : Option Encoding → ℕ → List ℕ → List Row
read_value_order (Some e) width xs =
    (43 when ltb 65535 (length xs))
    ∷ (58 when not (fits e width (length xs)))
    ∷ (60 when not (legal_digits e width (number width (bit_at xs))))
    ∷ []
read_value_order None width xs = (43 when ltb 65535 (length xs)) ∷ (58 when true) ∷ []

abbrev pub write_value_order : Option Encoding → ℕ → ℤ → List ℕ → List Row
write_value_order (Some e) width v xs =
    (43 when ltb 65535 (length xs))
    ∷ (58 when not (fits e width (length xs)))
    ∷ (59 when not (in_range e width v))
    ∷ []
write_value_order None width v xs = (43 when ltb 65535 (length xs)) ∷ (58 when true) ∷ []

-- ---- every call, for every input: the number in its report is that of the first row whose test holds

pub record InOrder : Type 0 where
  pub decode : (d : Description) (store payload : List ℕ) (at pos : ℕ) (output : List ℕ)
      → number_in (decoded d store payload at pos output).report ≡ first_number (decode_order d store payload at pos output)
  pub read : (d : Description) (store payload : List ℕ) (at count : ℕ)
      → number_in (runtime_read d store payload at count).report ≡ first_number (read_order d store payload at count)
  pub encode : (d : Description) (store input : List ℕ) (p : Payload) (at pos : ℕ)
      → number_in (encoded d store input p at pos).report ≡ first_number (encode_order d store input p at pos)
  pub clear : (d : Description) (store : List ℕ) (p : Payload) (at pos : ℕ)
      → number_in (cleared_field d store p at pos).report ≡ first_number (clear_order d store p at pos)
  pub fetch : (table : List ℕ) (number : ℕ) → number_in (places_fetched table number).report ≡ first_number (fetch_order table number)
  pub key_name : (d : Description) (store : List ℕ) → number_in (key_name d store).report ≡ first_number (key_name_order d store)
  pub value_read : (e : Encoding) (width : ℕ) (xs : List ℕ) (old : ℤ) → number_in (value_read e width xs old).report ≡ first_number (read_value_order (Some e) width xs)
  pub value_read_by_code : (code width : ℕ) (xs : List ℕ) (old : ℤ)
      → number_in (value_read_by_code code width xs old).report ≡ first_number (read_value_order (encoding_of code) width xs)
  pub value_written : (e : Encoding) (width : ℕ) (v : ℤ) (xs : List ℕ)
      → number_in (value_written e width v xs).report ≡ first_number (write_value_order (Some e) width v xs)
  pub value_written_by_code : (code width : ℕ) (v : ℤ) (xs : List ℕ)
      → number_in (value_written_by_code code width v xs).report ≡ first_number (write_value_order (encoding_of code) width v xs)
