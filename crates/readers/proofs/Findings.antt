-- What is read at the place that each variant names is what the variant finds.
use Rattle.std.proofs.Common.{◌≡◌, sym, ap, ◌∙◌, ⊎_elim, ◌&&◌, List, ℕ, ◌-◌, ◌*◌, ◌≤◌, ◌<◌, arith, length, ltb, lt-ltb, le-ltb, ltb-false, Ok, Err}
use Rattle.kinds.specs.declared.types.DataType.{DataType}
use Rattle.kinds.specs.declared.types.ByteOrder.{ByteOrder}
use Rattle.kinds.specs.Types.{is_unicode_type}
use Rattle.kinds.specs.Slices.{saturating_sum}
use Rattle.kinds.specs.Outcomes.{Outcome, gives, lacks, after, unless_short, following, answer}
use Rattle.kinds.specs.Answers.{Check, passed, report_of_reading}
use Rattle.kinds.specs.declared.refusals.PosInfo.{PosInfo}
use Rattle.kinds.specs.declared.refusals.Failure.{Failure}
use Rattle.kinds.specs.declared.refusals.Failure.TheVariants.{NotEnoughData, Refused}
use Rattle.kinds.specs.CodePlaces.{Span, span, outcome_of_search}
use Rattle.kinds.specs.Refusals.{bit_length_refusal}
use Rattle.kinds.proofs.Compare.{below}
use Rattle.kinds.proofs.Outcomes.{following-after, following-short, after_ext, short_ext}
use Rattle.coded.specs.declared.variants.MinMaxLengthType.{MinMaxLengthType}
use Rattle.bits.proofs.Bytes.{Bytes}
use Rattle.masks.specs.Mask.{Mask, no_mask}
use Rattle.length_field.specs.Leading.{leading_start, leading_count, leading_end, length_field_refusal}
use Rattle.length_field.specs.CodePlace.{leading_place}
use Rattle.length_field.proofs.LengthField.{some_bits}
use Rattle.scans.specs.MinMax.{min_max_end, scan_refusal}
use Rattle.scans.specs.CodePlace.{min_max_place}
use Rattle.scans.proofs.Scans.{end_le}
use Rattle.unpack.specs.Found.{Found, read_answer}
use Rattle.readers.specs.Finding.{bits_finding, standard_finding, data_found, leading_finding, min_max_finding}
use Rattle.readers.specs.CodeReading.{read_bits}
use Rattle.readers.proofs.Places.{bits_there}
use Rattle.readers.proofs.Data.{read_none, read_data, past_data}

-- a search that fails ends the reading, whatever would come next
failed : (f : Failure) (place : Outcome Span) (next : Span → Outcome Found) (output : List ℕ) → outcome_of_search (Err f) ≡ place
    → answer (report_of_reading (Err f)) output ≡ read_answer output (following place next)
unfolding read_answer
failed (NotEnoughData expected actual) place next output e = rw (← e)
failed (Refused r) place next output e = rw (← e)

-- ---- Standard

pub standard_read : (t : DataType) (o : ByteOrder) (len : ℕ) (mask : Mask) (payload : List ℕ) (at pos : ℕ)
    → following (after (bit_length_refusal t len) (gives (span at len))) (λ s. read_bits o s.bits mask payload s.start pos) ≡ standard_finding t o len mask payload at pos
standard_read t o len mask payload at pos =
    following-after (bit_length_refusal t len) (gives (span at len)) _
    ∙ after_ext (bit_length_refusal t len) (read_bits o len mask payload at pos) (bits_finding o len mask payload at pos)
    (λ z. let s = some_bits t len z in bits_there o len mask payload at pos (λ (e : len ≡ 0). omega arith))

-- of a length that is not refused
pub standard_found : (t : DataType) (o : ByteOrder) (len : ℕ) (mask : Mask) (payload : List ℕ) (at pos : ℕ) → bit_length_refusal t len ≡ passed
    → read_bits o len mask payload at pos ≡ standard_finding t o len mask payload at pos
standard_found t o len mask payload at pos z =
    ap (λ (c : Check). following (after c (gives (span at len))) (λ s. read_bits o s.bits mask payload s.start pos)) (sym z) ∙ standard_read t o len mask payload at pos

module _ (t : DataType) (o : ByteOrder) (payload : List ℕ) (at : ℕ) where
  -- what is read where data bytes are told
  abbrev next : Span → Outcome Found
  next s = read_bits o s.bits no_mask payload s.start 0

  -- ---- Leading

  module _ (bits : ℕ) where
    abbrev place : Outcome Span
    place = leading_place o bits payload at t

    -- the data bytes behind the length field
    abbrev behind : Outcome Found
    behind = gives (data_found o payload (leading_start o bits payload at) (leading_count o bits payload at))

    leading_steps : following place (λ s. behind) ≡ leading_finding t o bits payload at
    unfolding leading_finding
    leading_steps =
        let end = leading_end o bits payload at in
        let field = length_field_refusal o bits payload at in
        following-after (bit_length_refusal t bits) _ _
        ∙ ap (after (bit_length_refusal t bits)) (following-after field _ _ ∙ ap (after field) (following-short (ltb (length payload) end) end (length payload) _ _))

    pub leading_failed : (output : List ℕ) (f : Failure) → outcome_of_search (Err f) ≡ place
        → answer (report_of_reading (Err f)) output ≡ read_answer output (leading_finding t o bits payload at)
    leading_failed output f e = failed f place (λ s. behind) output e ∙ ap (read_answer output) leading_steps

    module _ (few : length payload ≤ 65535) (bytes : Bytes payload) where
      pub leading_read : following place next ≡ leading_finding t o bits payload at
      unfolding leading_finding
      leading_read =
          let start = leading_start o bits payload at in
          let count = leading_count o bits payload at in
          let end = leading_end o bits payload at in
          let past = ltb (length payload) end in
          let field = length_field_refusal o bits payload at in
          following-after (bit_length_refusal t bits) _ next
          ∙ ap (after (bit_length_refusal t bits))
          (following-after field _ next
          ∙ ap (after field)
          (following-short past end (length payload) (gives (span start (8 * count))) next
          ∙ short_ext past end (length payload) (next (span start (8 * count))) behind
          (λ h. read_data o payload few bytes start count (ltb-false (length payload) end h))))

      pub leading_found : (s : PosInfo) → outcome_of_search (Ok s) ≡ place → read_bits o s.bit_len.0 no_mask payload s.start_pos 0 ≡ leading_finding t o bits payload at
      leading_found s e = ap (λ (p : Outcome Span). following p next) e ∙ leading_read

  -- ---- MinMax

  module _ (m : MinMaxLengthType) where
    abbrev place_within : Outcome Span
    place_within = min_max_place m (is_unicode_type t) payload at

    abbrev end : ℕ
    end = min_max_end m (is_unicode_type t) payload at

    -- the data bytes up to their end
    abbrev within : Outcome Found
    within = unless_short (ltb at end && ltb (length payload) end) end (length payload) (gives (data_found o payload at (end - at)))

    min_max_steps : following place_within (λ s. within) ≡ min_max_finding t o m payload at
    unfolding min_max_finding
    min_max_steps =
        let scan = scan_refusal m (is_unicode_type t) payload at in
        following-after scan _ _ ∙ ap (after scan) (following-short (ltb (end - at) m.min_length) (saturating_sum at m.min_length) (length payload) _ _)

    pub min_max_failed : (output : List ℕ) (f : Failure) → outcome_of_search (Err f) ≡ place_within
        → answer (report_of_reading (Err f)) output ≡ read_answer output (min_max_finding t o m payload at)
    min_max_failed output f e = failed f place_within (λ s. within) output e ∙ ap (read_answer output) min_max_steps

    module _ (few : length payload ≤ 65535) (bytes : Bytes payload) where
      whole_end : at < end → saturating_sum at (end - at) ≡ end
      whole_end h = omega (arith, end_le m (is_unicode_type t) payload at)

      up_to_end : next (span at (8 * (end - at))) ≡ within
      up_to_end =
          ⊎_elim
          (λ (h : at < end).
          ⊎_elim
          (λ (l : length payload < end).
          past_data o payload few bytes at (end - at) (λ (e : end - at ≡ 0). omega arith) (rw (whole_end h) l)
          ∙ rw (lt-ltb at end h, lt-ltb (length payload) end l) (ap (λ (e : ℕ). lacks e (length payload)) (whole_end h)))
          (λ (l : end ≤ length payload).
          read_data o payload few bytes at (end - at) (rw (whole_end h) l) ∙ rw (lt-ltb at end h, le-ltb (length payload) end l))
          (below (length payload) end))
          (λ (h : end ≤ at). read_none o payload few bytes at (end - at) (omega arith) ∙ rw (le-ltb at end h))
          (below at end)

      pub min_max_read : following place_within next ≡ min_max_finding t o m payload at
      unfolding min_max_finding
      min_max_read =
          let scan = scan_refusal m (is_unicode_type t) payload at in
          let fewer = ltb (end - at) m.min_length in
          let least = saturating_sum at m.min_length in
          following-after scan _ next
          ∙ ap (after scan)
          (following-short fewer least (length payload) (gives (span at (8 * (end - at)))) next
          ∙ short_ext fewer least (length payload) (next (span at (8 * (end - at)))) within (λ h. up_to_end))

      pub min_max_found : (s : PosInfo) → outcome_of_search (Ok s) ≡ place_within → read_bits o s.bit_len.0 no_mask payload s.start_pos 0 ≡ min_max_finding t o m payload at
      min_max_found s e = ap (λ (p : Outcome Span). following p next) e ∙ min_max_read
