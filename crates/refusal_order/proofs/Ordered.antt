-- The order of refusals is proved: what specs/RefusalsInOrder states.
use Rattle.std.proofs.Common.{◌≡◌, refl, sym, ◌∙◌, Bool, true, false, cond, not, ◌&&◌, List, [], ◌∷◌, ℕ, ◌*◌, arith, length, eqb, ltb, ℤ, le-ltb, Option, Some, None, Err}
use Rattle.kinds.specs.declared.refusals.Refusal.TheVariants.{SliceTooLong, WidthNotAllowed, ValueOutOfRange, DigitAboveNine}
use Rattle.kinds.specs.Answers.{passed, number_in, wrote, read, report_of_check}
use Rattle.kinds.specs.Slices.{saturating_sum}
use Rattle.kinds.specs.Outcomes.{answer}
use Rattle.field.specs.Field.{field_of}
use Rattle.table.specs.Table.{fetched}
use Rattle.parts.specs.Part.{runtime_part}
use Rattle.payload.specs.Payload.{Payload}
use Rattle.bits.specs.Bits.{bit_at, number}
use Rattle.encodings.specs.declared.forms.Encoding.{Encoding}
use Rattle.encodings.specs.Widths.{encoding_of, fits}
use Rattle.encodings.specs.Meaning.{legal_digits}
use Rattle.encodings.specs.Writing.{in_range}
use Rattle.values.specs.Values.{value_read, value_written, by_encoding, value_read_by_code, value_written_by_code}
use Rattle.calls.specs.Calls.{Description, decoded, encoded, cleared_field, runtime_read, key_name}
use Rattle.dct.specs.Boundary.{places_of, places_fetched}
use Rattle.refusal_order.specs.RefusalsInOrder.{◌when◌, first_number, decode_shape, decode_order, read_order, encode_shape, encode_order, clear_shape, clear_order, fetch_order, key_name_order, read_value_order, write_value_order, InOrder}
use Rattle.refusal_order.proofs.Numbers.{none, room, step, thirty, concluded-number, read_number}
use Rattle.refusal_order.proofs.Prefix.{called-number, fetched-number}
use Rattle.refusal_order.proofs.Own.{decode_variant, encode_variant, clear_variant}

-- nothing of a slice that is not to be written is used
none_used : (n : ℕ) → false ≡ ltb n 0
none_used n = sym (le-ltb n 0 (omega arith))

module _ (d : Description) (store : List ℕ) where
  in_decode : (payload : List ℕ) (at pos : ℕ) (output : List ℕ)
      → number_in (decoded d store payload at pos output).report ≡ first_number (decode_order d store payload at pos output)
  unfolding decoded
  in_decode payload at pos output =
      read_number output _
      ∙ called-number (room output) store (length payload) (length output) 0 (length payload ∷ length output ∷ []) false _
      (λ f. decode_shape f.type f.order payload at pos output f.shape f.mask) refl (none_used (length output))
      (λ t few ten. let f = field_of t store in decode_variant f.type f.order payload at pos output t.type_ f.mask few ten) d

  in_read : (payload : List ℕ) (at count : ℕ) → number_in (runtime_read d store payload at count).report ≡ first_number (read_order d store payload at count)
  unfolding runtime_read
  in_read payload at count =
      let long = not (eqb count 0) && ltb (length payload) (saturating_sum at count) in
      concluded-number none [] (λ part. answer (read (8 * length part) (length part)) part) (λ part. refl) _
      ∙ called-number none store (length payload) 0 0 (length payload ∷ []) false (λ t. runtime_part payload at count) (λ f. (30 when long) ∷ []) refl refl
      (λ t few ten. thirty none long _ _ _ (λ z. refl)) d

  in_encode : (input : List ℕ) (p : Payload) (at pos : ℕ) → number_in (encoded d store input p at pos).report ≡ first_number (encode_order d store input p at pos)
  unfolding encoded
  in_encode input p at pos =
      concluded-number none p (answer wrote) (λ q. refl) _
      ∙ called-number none store (length input) (length p.bytes) p.used (length input ∷ length p.bytes ∷ []) (ltb (length p.bytes) p.used) _
      (λ f. encode_shape f.type input p at pos f.shape f.mask) refl refl
      (λ t few ten. let f = field_of t store in encode_variant f.type f.order input p at pos t.type_ f.mask ten) d

  in_clear : (p : Payload) (at pos : ℕ) → number_in (cleared_field d store p at pos).report ≡ first_number (clear_order d store p at pos)
  unfolding cleared_field
  in_clear p at pos =
      concluded-number none p (answer wrote) (λ q. refl) _
      ∙ called-number none store 0 (length p.bytes) p.used (length p.bytes ∷ []) (ltb (length p.bytes) p.used) _
      (λ f. clear_shape f.type p at pos f.shape f.mask) refl refl
      (λ t few ten. let f = field_of t store in clear_variant f.type f.order p at pos t.type_ f.mask) d

  in_key_name : number_in (key_name d store).report ≡ first_number (key_name_order d store)
  unfolding key_name
  in_key_name =
      concluded-number none [] (answer wrote) (λ name. refl) _ ∙ called-number none store 0 0 0 [] false _ (λ f. []) refl refl (λ t few ten. refl) d

in_fetch : (table : List ℕ) (number : ℕ) → number_in (places_fetched table number).report ≡ first_number (fetch_order table number)
unfolding places_fetched
in_fetch table number = concluded-number none _ (λ e. answer wrote (places_of e)) (λ e. refl) (fetched table number) ∙ fetched-number table number

-- ---- values

module _ (e : Encoding) (width : ℕ) where
  in_value_read : (xs : List ℕ) (old : ℤ) → number_in (value_read e width xs old).report ≡ first_number (read_value_order (Some e) width xs)
  unfolding value_read
  in_value_read xs old =
      concluded-number none old (answer wrote) (λ z. refl) _
      ∙ step none (ltb 65535 (length xs)) SliceTooLong _ _ (λ z.
      step none (not (fits e width (length xs))) WidthNotAllowed passed _
      (λ z. step none (not (legal_digits e width (number width (bit_at xs)))) DigitAboveNine passed _ (λ z. refl)))

  in_value_written : (v : ℤ) (xs : List ℕ) → number_in (value_written e width v xs).report ≡ first_number (write_value_order (Some e) width v xs)
  unfolding value_written
  in_value_written v xs =
      concluded-number none xs (answer wrote) (λ z. refl) _
      ∙ step none (ltb 65535 (length xs)) SliceTooLong _ _ (λ z.
      step none (not (fits e width (length xs))) WidthNotAllowed passed _ (λ z. step none (not (in_range e width v)) ValueOutOfRange passed _ (λ z. refl)))

-- by a code that tells no encoding
in_unknown : (long : Bool) → number_in (report_of_check (cond long (Err SliceTooLong) (Err WidthNotAllowed))) ≡ cond long 43 58
in_unknown true = refl
in_unknown false = refl

in_read_by : (told : Option Encoding) (width : ℕ) (xs : List ℕ) (old : ℤ)
    → number_in (by_encoding told (length xs) old (λ e. value_read e width xs old)).report ≡ first_number (read_value_order told width xs)
in_read_by (Some e) width xs old = in_value_read e width xs old
in_read_by None width xs old = in_unknown (ltb 65535 (length xs))

in_written_by : (told : Option Encoding) (width : ℕ) (v : ℤ) (xs : List ℕ)
    → number_in (by_encoding told (length xs) xs (λ e. value_written e width v xs)).report ≡ first_number (write_value_order told width v xs)
in_written_by (Some e) width v xs = in_value_written e width v xs
in_written_by None width v xs = in_unknown (ltb 65535 (length xs))

in_read_by_code : (code width : ℕ) (xs : List ℕ) (old : ℤ)
    → number_in (value_read_by_code code width xs old).report ≡ first_number (read_value_order (encoding_of code) width xs)
unfolding value_read_by_code
in_read_by_code code width xs old = in_read_by (encoding_of code) width xs old

in_written_by_code : (code width : ℕ) (v : ℤ) (xs : List ℕ)
    → number_in (value_written_by_code code width v xs).report ≡ first_number (write_value_order (encoding_of code) width v xs)
unfolding value_written_by_code
in_written_by_code code width v xs = in_written_by (encoding_of code) width v xs

pub refusals_in_order : InOrder
refusals_in_order =
    record {
      decode = in_decode;
      read = in_read;
      encode = in_encode;
      clear = in_clear;
      fetch = in_fetch;
      key_name = in_key_name;
      value_read = in_value_read;
      value_read_by_code = in_read_by_code;
      value_written = in_value_written;
      value_written_by_code = in_written_by_code;
    }
