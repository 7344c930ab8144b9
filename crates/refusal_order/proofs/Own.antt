-- What each call refuses of its own, variant by variant, is what the page says.
use Rattle.std.proofs.Common.{◌≡◌, refl, sym, ap, ◌∙◌, ⊎_elim, Bool, true, false, cond, not, ◌&&◌, true≢false, List, ℕ, ◌+◌, ◌-◌, ◌*◌, ◌^◌, ◌%◌, ◌≤◌, ◌<◌, arith, length, length-append, length-take, length-drop, eqb, ltb, leb, ltb-false, lt-ltb, le-ltb, eqb-true}
use Rattle.std.proofs.lemmas.Bool.{not-false}
use Rattle.kinds.specs.declared.types.DataType.{DataType}
use Rattle.kinds.specs.declared.types.DataType.TheVariants.{Int32, UInt32, Float32, AsciiString, Utf8String, Unicode2String, ByteField, Float64}
use Rattle.kinds.specs.declared.types.ByteOrder.{ByteOrder}
use Rattle.kinds.specs.Types.{is_byte_type, is_numeric, is_unicode_type, bytes_for}
use Rattle.kinds.specs.Slices.{saturating_sum, cut}
use Rattle.kinds.specs.Outcomes.{Outcome, gives, after}
use Rattle.kinds.specs.Refusals.{bit_position_refusal, bit_length_refusal}
use Rattle.kinds.proofs.Compare.{below}
use Rattle.kinds.proofs.Cuts.{length_cut}
use Rattle.coded.specs.declared.variants.MinMaxLengthType.{MinMaxLengthType}
use Rattle.coded.specs.declared.variants.DiagCodedTypeVariant.{DiagCodedTypeVariant}
use Rattle.coded.specs.declared.variants.DiagCodedTypeVariant.TheVariants.{LeadingLengthInfo, MinMaxLength, StandardLength, ParamLengthInfo}
use Rattle.coded.specs.Refusals.{finds_its_length}
use Rattle.order.proofs.Index.{length-ordered}
use Rattle.bits.specs.Bits.{bit, packed}
use Rattle.bits.proofs.Bytes.{length-packed}
use Rattle.masks.specs.Mask.{Mask}
use Rattle.field.specs.Field.{shape_of}
use Rattle.length_field.specs.Leading.{leading_start, leading_count, leading_end}
use Rattle.scans.specs.MinMax.{ends_with_zero, min_max_end}
use Rattle.readers.specs.Finding.{bits_finding, standard_finding, data_found, leading_finding, min_max_finding, shape_finding}
use Rattle.pack.specs.Source.{Source, bytes_source, effective_mask, size_under, standard_source, behind_length}
use Rattle.payload.specs.Payload.{Payload}
use Rattle.payload.specs.Writing.{cut_bytes, cut_end, writing, clearing}
use Rattle.lengths.specs.Refusals.{condensed_bits, until_end_of_pdu}
use Rattle.writers.specs.Shapes.{with_terminator, standard_encoded, leading_encoded, min_max_encoded, param_encoded, shape_encoded}
use Rattle.clear.specs.Clear.{standard_cleared, shape_cleared}
use Rattle.refusal_order.specs.RefusalsInOrder.{first_number, at_bit_position, is_integer, is_float32, is_float64, decode_standard, decode_leading, decode_min_max, decode_shape, encode_standard, encode_leading, encode_min_max, encode_param, encode_shape, clear_standard, clear_shape}
use Rattle.refusal_order.proofs.Numbers.{ended, step, thirty, in_turn, none, room}

-- ---- what a type is not

second : (a b : Bool) → a ≡ true → (a && b) ≡ false → b ≡ false
second true b e f = f
second false b e f = absurd (true≢false (sym e))

byte_type : (t : DataType) → is_byte_type t ≡ true → (is_integer t ≡ false) × (is_float32 t ≡ false) × (is_float64 t ≡ false)
byte_type Int32 e = absurd (true≢false (sym e))
byte_type UInt32 e = absurd (true≢false (sym e))
byte_type Float32 e = absurd (true≢false (sym e))
byte_type Float64 e = absurd (true≢false (sym e))
byte_type AsciiString e = (refl, refl, refl)
byte_type Utf8String e = (refl, refl, refl)
byte_type Unicode2String e = (refl, refl, refl)
byte_type ByteField e = (refl, refl, refl)

numeric : (t : DataType) → is_byte_type t ≡ false → is_unicode_type t ≡ false
numeric Int32 e = refl
numeric UInt32 e = refl
numeric Float32 e = refl
numeric Float64 e = refl
numeric AsciiString e = absurd (true≢false e)
numeric Utf8String e = absurd (true≢false e)
numeric Unicode2String e = absurd (true≢false e)
numeric ByteField e = absurd (true≢false e)

-- a byte type that is not refused for its bit position is at bit 0
at_bit_0 : (t : DataType) (pos : ℕ) → is_byte_type t ≡ true → at_bit_position t pos ≡ false → pos ≡ 0
at_bit_0 t pos b e = eqb-true pos 0 (not-false (eqb pos 0) (second (is_byte_type t) (not (eqb pos 0)) b e))

-- ---- the bit length: 21 to 25

module _ {A : Type 0} (k : A → ℕ) (t : DataType) (len : ℕ) (o : Outcome A) {n : ℕ} (f : ended o k ≡ n) where
  abbrev unicode_row : ℕ
  unicode_row = cond (is_unicode_type t && not (eqb (len % 16) 0)) 25 n

  length-number : ended (after (bit_length_refusal t len) o) k
      ≡ cond (eqb len 0) 21 (cond (is_integer t && ltb 64 len) 22 (cond (is_float32 t && not (eqb len 32)) 23 (cond (is_float64 t && not (eqb len 64)) 24 unicode_row)))
  length-number =
      step k (eqb len 0) _ _ o
      (λ z. step k (is_integer t && ltb 64 len) _ _ o
      (λ z. step k (is_float32 t && not (eqb len 32)) _ _ o
      (λ z. step k (is_float64 t && not (eqb len 64)) _ _ o
      (λ z. step k (is_unicode_type t && not (eqb (len % 16) 0)) _ _ o (λ z. f)))))

  -- of a byte type 21 and 25 are left
  byte_length_number : is_byte_type t ≡ true → ended (after (bit_length_refusal t len) o) k ≡ cond (eqb len 0) 21 unicode_row
  byte_length_number b =
      let not-numeric = byte_type t b in
      length-number ∙ simp (not-numeric.0, not-numeric.1, not-numeric.2) refl

  -- and of a numeric one all but 25
  numeric_length_number : is_byte_type t ≡ false → ended (after (bit_length_refusal t len) o) k
      ≡ cond (eqb len 0) 21 (cond (is_integer t && ltb 64 len) 22 (cond (is_float32 t && not (eqb len 32)) 23 (cond (is_float64 t && not (eqb len 64)) 24 n)))
  numeric_length_number b = length-number ∙ simp (numeric t b) refl

-- ---- decode

-- the bytes up to an end that is inside the payload, or not past the start
up_to : (payload : List ℕ) (at end : ℕ) → (ltb at end && ltb (length payload) end) ≡ false → length (cut at (end - at) payload) ≡ end - at
up_to payload at end e =
    ⊎_elim (λ (l : at < end). let inside = ltb-false (length payload) end (second (ltb at end) (ltb (length payload) end) (lt-ltb at end l) e) in simp (length-take, length-drop) (omega arith))
    (λ (l : end ≤ at). simp (length-take, length-drop) (omega arith)) (below at end)

module _ (t : DataType) (o : ByteOrder) (payload : List ℕ) (at pos : ℕ) (output : List ℕ) where
  decode_standard_lem : (len : ℕ) (mask : Mask)
      → ended (after (bit_position_refusal t pos) (standard_finding t o len mask payload at pos)) (room output) ≡ first_number (decode_standard t o payload at pos output len mask)
  unfolding bits_finding
  decode_standard_lem len mask =
      let k = room output in
      step k (at_bit_position t pos) _ _ _
      (λ z. length-number k t len _
      (thirty k (ltb (length payload) (saturating_sum at (bytes_for len))) _ _ _
      (λ z. step k (ltb 7 pos) _ _ _ (λ z. step k (ltb (8 * bytes_for len) (pos + len)) _ _ _ (λ z. refl)))))

  -- the data bytes that are read have the size that they are read for, where they end in the payload
  data_room : (start n : ℕ) → length (cut start n payload) ≡ n → room output (data_found o payload start n) ≡ cond (ltb (length output) n) 41 0
  data_room start n e = rw (length-ordered o (cut start n payload), e) refl

  decode_leading_lem : (bits : ℕ) → length payload ≤ 65535 → is_byte_type t ≡ true
      → ended (after (bit_position_refusal t pos) (leading_finding t o bits payload at)) (room output) ≡ first_number (decode_leading t o payload at pos output bits)
  unfolding leading_finding
  decode_leading_lem bits few byte =
      let k = room output in
      let start = leading_start o bits payload at in
      let count = leading_count o bits payload at in
      let end = leading_end o bits payload at in
      step k (at_bit_position t pos) _ _ _
      (λ z. byte_length_number k t bits _
      (step k (ltb (length payload) start) _ _ _
      (λ z. step k (ltb 64 bits) _ _ _
      (λ z. thirty k (ltb (length payload) end) _ _ _
      (λ inside. data_room start count (length_cut payload few start count (ltb-false (length payload) end inside)))))) byte)

  decode_min_max_lem : (m : MinMaxLengthType)
      → ended (after (bit_position_refusal t pos) (min_max_finding t o m payload at)) (room output) ≡ first_number (decode_min_max t o payload at pos output m)
  unfolding min_max_finding
  decode_min_max_lem m =
      let k = room output in
      let end = min_max_end m (is_unicode_type t) payload at in
      step k (at_bit_position t pos) _ _ _
      (λ z. step k (ends_with_zero m.termination && ltb (length payload) end) _ _ _
      (λ z. thirty k (ltb (end - at) m.min_length) _ _ _
      (λ z. thirty k (ltb at end && ltb (length payload) end) _ _ _ (λ inside. data_room at (end - at) (up_to payload at end inside)))))

  pub decode_variant : (v : DiagCodedTypeVariant) (mask : Mask) → length payload ≤ 65535 → (finds_its_length v && is_numeric t) ≡ false
      → ended (after (bit_position_refusal t pos) (shape_finding t o (shape_of v) mask payload at pos)) (room output) ≡ first_number (decode_shape t o payload at pos output (shape_of v) mask)
  decode_variant (StandardLength s) mask few ten = decode_standard_lem s.bit_length.0 mask
  decode_variant (LeadingLengthInfo bits) mask few ten = decode_leading_lem bits.0 few (not-false (is_byte_type t) ten)
  decode_variant (MinMaxLength m) mask few ten = decode_min_max_lem m
  decode_variant (ParamLengthInfo name) mask few ten = step (room output) (at_bit_position t pos) _ _ _ (λ z. refl)

-- ---- encode and clear

-- an empty input succeeds
unless_empty : (t : Bool) (p : Payload) (o : Outcome Payload) {n : ℕ} → ended o none ≡ n → ended (cond t (gives p) o) none ≡ cond t 0 n
unless_empty true p o e = refl
unless_empty false p o e = e

module _ (t : DataType) (o : ByteOrder) (input : List ℕ) (p : Payload) (at pos : ℕ) where
  -- 26, 40
  write_number : (s : Source) → ended (writing o s p at pos) none ≡ cond (ltb 7 pos) 26 (cond (ltb (length p.bytes) (cut_end at pos s.size)) 40 0)
  unfolding writing
  write_number s = step none (ltb 7 pos) _ _ _ (λ z. step none (ltb (length p.bytes) (cut_end at pos s.size)) _ _ _ (λ z. refl))

  -- 40 alone at bit 0, of whole bytes
  bytes_number : (xs : List ℕ) (n : ℕ) → pos ≡ 0 → length xs ≡ n
      → ended (writing o (bytes_source xs) p at pos) none ≡ cond (ltb (length p.bytes) (saturating_sum at n)) 40 0
  bytes_number xs n z e =
      let low : ltb 7 pos ≡ false = le-ltb 7 pos (omega arith) in
      let whole : cut_bytes pos (8 * length xs) ≡ n = omega arith in
      write_number (bytes_source xs) ∙ rw (low, whole) refl

  encode_standard_lem : (len : ℕ) (mask : Mask)
      → ended (after (bit_position_refusal t pos) (standard_encoded o input p at pos t len mask)) none ≡ first_number (encode_standard t input p at pos len mask)
  encode_standard_lem len mask =
      step none (at_bit_position t pos) _ _ _
      (λ z. in_turn none (bit_length_refusal t len) _ _
      (length-number none t len _
      (step none (ltb len (condensed_bits mask)) _ _ _ (λ z. write_number (standard_source t len (effective_mask mask) input)))))

  encode_leading_lem : (bits : ℕ) → is_byte_type t ≡ true
      → ended (after (bit_position_refusal t pos) (leading_encoded o input p at pos bits)) none ≡ first_number (encode_leading t input p at pos bits)
  encode_leading_lem bits byte =
      let size : length (behind_length bits input) ≡ bytes_for bits + length input = length-append (packed (bytes_for bits) (bit (length input))) input ∙ ap (λ (n : ℕ). n + length input) (length-packed (bytes_for bits) (bit (length input))) in
      step none (at_bit_position t pos) _ _ _
      (λ z. step none (ltb bits 64 && leb (2 ^ bits) (length input)) _ _ _
      (λ _. step none (ltb 64 bits) _ _ _
      (λ _. step none (eqb bits 0 && eqb (length input) 0) _ _ _
      (λ _. bytes_number (behind_length bits input) (bytes_for bits + length input) (at_bit_0 t pos byte z) size))))

  encode_min_max_lem : (m : MinMaxLengthType) → is_byte_type t ≡ true
      → ended (after (bit_position_refusal t pos) (min_max_encoded o input p at pos (is_unicode_type t) m.termination)) none ≡ first_number (encode_min_max t input p at pos m)
  encode_min_max_lem m byte =
      let written = with_terminator m.termination (is_unicode_type t) input in
      step none (at_bit_position t pos) _ _ _
      (λ z. step none (until_end_of_pdu m.termination && eqb (length input) 0) _ _ _ (λ _. bytes_number written (length written) (at_bit_0 t pos byte z) refl))

  encode_param_lem : ended (after (bit_position_refusal t pos) (param_encoded o input p at pos)) none ≡ first_number (encode_param t input p at pos)
  encode_param_lem = step none (at_bit_position t pos) _ _ _ (λ z. unless_empty (eqb (length input) 0) p (writing o (bytes_source input) p at pos) (write_number (bytes_source input)))

  pub encode_variant : (v : DiagCodedTypeVariant) (mask : Mask) → (finds_its_length v && is_numeric t) ≡ false
      → ended (after (bit_position_refusal t pos) (shape_encoded o input p at pos t (shape_of v) mask)) none ≡ first_number (encode_shape t input p at pos (shape_of v) mask)
  encode_variant (StandardLength s) mask ten = encode_standard_lem s.bit_length.0 mask
  encode_variant (LeadingLengthInfo bits) mask ten = encode_leading_lem bits.0 (not-false (is_byte_type t) ten)
  encode_variant (MinMaxLength m) mask ten = encode_min_max_lem m (not-false (is_byte_type t) ten)
  encode_variant (ParamLengthInfo name) mask ten = encode_param_lem

module _ (t : DataType) (o : ByteOrder) (p : Payload) (at pos : ℕ) where
  clear_standard_lem : (len : ℕ) (mask : Mask) → ended (standard_cleared t o p at pos len mask) none ≡ first_number (clear_standard t p at pos len mask)
  unfolding clearing
  clear_standard_lem len mask =
      let size = size_under (effective_mask mask) len in
      step none (is_byte_type t) _ _ _
      (λ z. in_turn none (bit_length_refusal t len) _ _
      (numeric_length_number none t len _
      (step none (ltb len (condensed_bits mask)) _ _ _
      (λ _. step none (ltb 7 pos) _ _ _ (λ _. thirty none (ltb p.used (cut_end at pos size)) _ _ _ (λ _. refl)))) z))

  pub clear_variant : (v : DiagCodedTypeVariant) (mask : Mask) → ended (shape_cleared t o p at pos (shape_of v) mask) none ≡ first_number (clear_shape t p at pos (shape_of v) mask)
  clear_variant (StandardLength s) mask = clear_standard_lem s.bit_length.0 mask
  clear_variant (LeadingLengthInfo bits) mask = refl
  clear_variant (MinMaxLength m) mask = refl
  clear_variant (ParamLengthInfo name) mask = refl
