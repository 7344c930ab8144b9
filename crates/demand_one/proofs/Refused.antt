-- Demand 1 is proved: what specs/Refusing states.
use Rattle.std.proofs.Common.{◌≡◌, refl, ap, ◌∙◌, inl, inr, ⊎_elim, Bool, true, false, cond, not, ◌&&◌, List, [], ◌∷◌, ◌++◌, ℕ, ◌+◌, ◌-◌, ◌*◌, ◌≤◌, ◌<◌, min, arith, length, drop, length-append, length-take, length-drop, eqb, ltb, ne_eqb, Option, Some, None}
use lib.Seq.{drop-append_seam}
use Rattle.kinds.specs.declared.types.DataType.{DataType}
use Rattle.kinds.specs.declared.types.DataType.TheVariants.{ByteField}
use Rattle.kinds.specs.declared.types.ByteOrder.{ByteOrder}
use Rattle.kinds.specs.declared.refusals.Refusal.TheVariants.{OutputLacksRoom, NotClearable}
use Rattle.kinds.specs.Types.{is_byte_type, is_unicode_type}
use Rattle.kinds.specs.Slices.{saturating_sum, cut}
use Rattle.kinds.specs.Answers.{Check, numbered, wrote, read}
use Rattle.kinds.specs.Outcomes.{rule, first_among, Outcome, gives, lacks, refuses, after, unless_short, answer}
use Rattle.kinds.specs.Refusals.{bit_position_refusal}
use Rattle.kinds.proofs.Compare.{below, same}
use Rattle.kinds.proofs.Holding.{Holds, holds_after, holds_short, holds_following, holds_any}
use Rattle.coded.specs.declared.variants.Place.{Place}
use Rattle.coded.specs.declared.variants.DiagCodedTypeVariant.TheVariants.{ParamLengthInfo}
use Rattle.coded.specs.declared.coded_type.DiagCodedType.{DiagCodedType}
use Rattle.coded.specs.Refusals.{min_max_refusal, coded_type_refusal, made_refusal}
use Rattle.coded.specs.Getters.{key_place_of}
use Rattle.masks.specs.Mask.{Mask}
use Rattle.field.specs.declared.Shape.{Shape}
use Rattle.field.specs.Field.{field_of, outside, part_at}
use Rattle.field.specs.Refusals.{slices_refusal, description_refusal}
use Rattle.record.specs.Numbers.{record_size}
use Rattle.record.specs.Parsing.{coded_in}
use Rattle.storing.specs.Storing.{numbers_for, bytes_of, storing_refusal, stored_record}
use Rattle.table.specs.declared.Entry.{Entry}
use Rattle.table.specs.Table.{fetched}
use Rattle.unpack.specs.Found.{Found, read_answer}
use Rattle.unpack.proofs.Rooms.{lacks_room, has_room}
use Rattle.pack.specs.Source.{Source, bytes_source, effective_mask, size_under, standard_source, behind_length}
use Rattle.cutout.specs.CutOut.{cleared}
use Rattle.payload.specs.Payload.{Payload, payload_of}
use Rattle.payload.specs.Writing.{in_cut_out, cut_bytes, cut_end, above_seven, write_refusal, written, writing, clearing}
use Rattle.lengths.specs.Refusals.{standard_refusal, count_refusal, empty_refusal}
use Rattle.writers.specs.Shapes.{with_terminator, shape_encoded}
use Rattle.clear.specs.Clear.{shape_cleared}
use Rattle.parts.specs.Part.{runtime_part, part_answer, part_start}
use Rattle.calls.specs.Calls.{Description, by_type, by_record, coded_by, called, decoded, encoded, cleared_field, runtime_read, key_name}
use Rattle.dct.specs.Boundary.{start_answer, places_of, places_fetched}
use Rattle.demand_one.specs.Refusing.{Ends, Decodes, Reads, Encodes, Clears, Fetches, HandsBack, Names, Stores, ByDescription, Demand1}
use Rattle.demand_one.proofs.Sizes.{size_written, size_cleared}
use Rattle.demand_one.proofs.Ending.{refuses_row, refuses_30, ends}
use Rattle.demand_one.proofs.Made.{makes, makes_after, said_makes, fetch_makes}
use Rattle.demand_one.proofs.Values.{value_read_ends, value_written_ends, value_read_by_code_ends, value_written_by_code_ends}
use Rattle.field.specs.declared.Shape.TheVariants as shape

-- what every call refuses first
holds_called : {A : Type 0} (P : A → Type 0) (d : Description) (store : List ℕ) (a b used : ℕ) (own : DiagCodedType → Outcome A)
    → ((t : DiagCodedType) → Holds P (own t)) → Holds P (called d store a b used own)
holds_called P d store a b used own h =
    holds_following P (coded_by d (length store) a b used) _ (λ t. holds_after P (description_refusal t (length store)) (own t) (h t))

-- ---- readings

-- the bytes are in front of an output that has room for them
gives_bytes : (bits : ℕ) (bytes output : List ℕ) → length bytes ≤ length output → Decodes output (answer (read bits (length bytes)) (bytes ++ drop (length bytes) output))
gives_bytes bits bytes output h =
    record {
      bits = bits;
      bytes = length bytes;
      reports = refl;
      fits = h;
      size = simp (length-append, length-drop) (omega arith);
      past = drop-append_seam bytes (drop (length bytes) output);
    }

reading_ends : (output : List ℕ) (o : Outcome Found) → Ends (Decodes output) output (read_answer output o)
unfolding read_answer
reading_ends output (lacks e a) = inr (refuses_30 output e a)
reading_ends output (refuses r) = inr (refuses_row output r)
reading_ends output (gives f) =
    let n = length f.bytes in
    ⊎_elim (λ (l : length output < n). rw (lacks_room f output n refl l) (inr (refuses_row output OutputLacksRoom)))
    (λ (l : n ≤ length output). rw (has_room f output n refl l) (inl (gives_bytes f.bits f.bytes output l))) (below (length output) n)

-- a part that is not empty starts where it is asked for, and an empty one at 0
part_inside : (payload : List ℕ) (at count : ℕ) → part_start (length (cut at count payload)) at + length (cut at count payload) ≤ length payload
part_inside payload at count =
    let n = length (cut at count payload) in
    let long : n ≡ min count (length payload - at) = length-take count (drop at payload) ∙ ap (min count) (length-drop at payload) in
    ⊎_elim (λ (z : n ≡ 0). rw z (omega arith)) (λ (z : n ≡ 0 → ⊥). rw (ne_eqb n 0 z) (omega (arith, long))) (same n 0)

part_ends : (payload : List ℕ) (at : ℕ) (o : Outcome (List ℕ)) → Holds (λ part. part_start (length part) at + length part ≤ length payload) o
    → Ends (Reads payload) 0 (start_answer at (part_answer o))
part_ends payload at (gives part) h = inl (record { bits = 8 * length part; bytes = length part; reports = refl; inside = h })
part_ends payload at (lacks e a) h = inr (refuses_30 0 e a)
part_ends payload at (refuses r) h = inr (refuses_row 0 r)

-- the name that a variant has is a part of the store; where it is outside, or there is none, it is the empty part
record PartOf (store name : List ℕ) : Type 0 where
  at : ℕ
  size : ℕ
  part : name ≡ cut at size store

in_store : (store : List ℕ) (p : Place) (out : Bool) → PartOf store (cond out [] (cut p.at p.len.0 store))
in_store store p true = record { at = 0; size = 0; part = refl }
in_store store p false = record { at = p.at; size = p.len.0; part = refl }

at_place : (store : List ℕ) (p : Option Place) → PartOf store (part_at store p)
at_place store (Some p) = in_store store p (outside p (length store))
at_place store None = record { at = 0; size = 0; part = refl }

-- ---- writings

module _ (p : Payload) (o : ByteOrder) (at pos : ℕ) where
  abbrev SameSize : Payload → Type 0
  SameSize q = length q.bytes ≡ length p.bytes

  abbrev SameUsed : Payload → Type 0
  SameUsed q = SameSize q × (q.used ≡ p.used)

  writing-keeps : (s : Source) → Holds SameSize (writing o s p at pos)
  unfolding writing
  writing-keeps s = holds_after SameSize (write_refusal s.size p at pos) (gives (written o s p at pos)) (size_written o p at pos s)

  -- a check, and then a source
  checked_keeps : (c : Check) (s : Source) → Holds SameSize (after c (writing o s p at pos))
  checked_keeps c s = holds_after SameSize c (writing o s p at pos) (writing-keeps s)

  encode_keeps : (input : List ℕ) (t : DataType) (s : Shape) (mask : Mask) → Holds SameSize (shape_encoded o input p at pos t s mask)
  encode_keeps input t (shape.Standard len) mask = checked_keeps (standard_refusal t len.0 mask) (standard_source t len.0 (effective_mask mask) input)
  encode_keeps input t (shape.Leading bits) mask = checked_keeps (count_refusal bits.0 (length input)) (bytes_source (behind_length bits.0 input))
  encode_keeps input t (shape.MinMax m) mask =
      checked_keeps (empty_refusal m.termination (length input)) (bytes_source (with_terminator m.termination (is_unicode_type t) input))
  encode_keeps input t shape.Param mask =
      ⊎_elim (λ (z : length input ≡ 0). rw z refl) (λ (z : length input ≡ 0 → ⊥). rw (ne_eqb (length input) 0 z) (writing-keeps (bytes_source input))) (same (length input) 0)

  clearing_keeps : (mask : Mask) (size : ℕ) → Holds SameUsed (clearing o mask size p at pos)
  unfolding clearing
  clearing_keeps mask size =
      let end = cut_end at pos size in
      let q = payload_of (in_cut_out o (cleared mask size pos) at (cut_bytes pos size) p.bytes) p.used in
      let short = ltb p.used end in
      holds_after SameUsed (above_seven pos) (unless_short short end p.used (gives q)) (holds_short SameUsed short end p.used (gives q) (size_cleared o p at pos mask size, refl))

  clear_keeps : (t : DataType) (s : Shape) (mask : Mask) → Holds SameUsed (shape_cleared t o p at pos s mask)
  clear_keeps t (shape.Standard len) mask =
      let m = effective_mask mask in
      let next = clearing o m (size_under m len.0) p at pos in
      let check = standard_refusal t len.0 mask in
      holds_after SameUsed (first_among (rule (is_byte_type t) NotClearable ∷ [])) (after check next) (holds_after SameUsed check next (clearing_keeps m (size_under m len.0)))
  clear_keeps t (shape.Leading bits) mask = tt
  clear_keeps t (shape.MinMax m) mask = tt
  clear_keeps t shape.Param mask = tt

-- ---- the calls

module _ (d : Description) (store : List ℕ) where
  encode_ends : (input : List ℕ) (p : Payload) (at pos : ℕ) → Ends (Encodes p) p (encoded d store input p at pos)
  unfolding encoded
  encode_ends input p at pos =
      let P : Payload → Type 0 = λ q. length q.bytes ≡ length p.bytes in
      ends P (Encodes p) p (answer wrote) (λ q h. record { reports = refl; size = h }) _
      (holds_called P d store (length input) (length p.bytes) p.used _
      (λ t.
      let f = field_of t store in
      holds_after P (bit_position_refusal f.type pos) (shape_encoded f.order input p at pos f.type f.shape f.mask) (encode_keeps p f.order at pos input f.type f.shape f.mask)))

  clear_ends : (p : Payload) (at pos : ℕ) → Ends (Clears p) p (cleared_field d store p at pos)
  unfolding cleared_field
  clear_ends p at pos =
      let P : Payload → Type 0 = λ q. (length q.bytes ≡ length p.bytes) × (q.used ≡ p.used) in
      ends P (Clears p) p (answer wrote) (λ q h. (record { reports = refl; size = h.0 }, h.1)) _
      (holds_called P d store 0 (length p.bytes) p.used _ (λ t. let f = field_of t store in clear_keeps p f.order at pos f.type f.shape f.mask))

  read_ends : (payload : List ℕ) (at count : ℕ) → Ends (Reads payload) 0 (start_answer at (runtime_read d store payload at count))
  unfolding runtime_read
  read_ends payload at count =
      part_ends payload at _
      (holds_called (λ part. part_start (length part) at + length part ≤ length payload) d store (length payload) 0 0 (λ t. runtime_part payload at count)
      (λ t. holds_short _ (not (eqb count 0) && ltb (length payload) (saturating_sum at count)) _ _ (gives (cut at count payload)) (part_inside payload at count)))

  part_handed : (payload : List ℕ) (at count : ℕ) → Ends (HandsBack payload at count) [] (runtime_read d store payload at count)
  unfolding runtime_read
  part_handed payload at count =
      let P : List ℕ → Type 0 = λ part. part ≡ cut at count payload in
      ends P (HandsBack payload at count) [] (λ part. answer (read (8 * length part) (length part)) part) (λ part h. record { reports = refl; part = h }) _
      (holds_called P d store (length payload) 0 0 (λ t. runtime_part payload at count)
      (λ t. holds_short P (not (eqb count 0) && ltb (length payload) (saturating_sum at count)) _ _ (gives (cut at count payload)) refl))

  key_name_ends : Ends (Names store) [] (key_name d store)
  unfolding key_name
  key_name_ends =
      ends (PartOf store) (Names store) [] (answer wrote) (λ name h. record { at = h.at; size = h.size; reports = refl; part = h.part }) _
      (holds_called (PartOf store) d store 0 0 0 _ (λ t. at_place store (key_place_of t.type_)))

fetch_ends : (table : List ℕ) (number : ℕ) → Ends Fetches (0 ∷ 0 ∷ 0 ∷ []) (places_fetched table number)
unfolding places_fetched
fetch_ends table number =
    ends (λ (e : Entry). e ≡ e) Fetches (0 ∷ 0 ∷ 0 ∷ []) (λ e. answer wrote (places_of e))
    (λ e h. record { record_at = e.record_at; store_at = e.store_at; store_len = e.store_len.0; reports = refl; places = refl }) _
    (holds_any (fetched table number))

record_of_ends : (t : DiagCodedType) (old : List ℕ) → Ends Stores old (stored_record t old)
unfolding stored_record
record_of_ends t old =
    let P : List ℕ → Type 0 = λ bytes. length bytes ≡ record_size in
    ends P Stores old (answer wrote) (λ bytes h. record { reports = refl; size = h }) _
    (holds_after P (storing_refusal (numbers_for t).place) (gives (bytes_of (numbers_for t))) refl)

-- ---- all of them

by_description : (d : Description) → ByDescription d
unfolding decoded
by_description d =
    record {
      decode = λ store payload at pos output. reading_ends output _;
      encode = encode_ends d;
      clear = clear_ends d;
      read = read_ends d;
      read_part = part_handed d;
      key_name = key_name_ends d;
    }

pub demand_1 : Demand1
demand_1 =
    record {
      by_type = λ t. by_description (by_type t);
      by_record = λ bytes. by_description (by_record bytes);
      fetch = fetch_ends;
      record_of = record_of_ends;
      value_read = value_read_ends;
      value_written = value_written_ends;
      value_read_by_code = value_read_by_code_ends;
      value_written_by_code = value_written_by_code_ends;
      new_limits = λ min max e. makes_after _ (min_max_refusal min max) _ (makes _ _ (refl, refl, refl));
      new = λ t v high_low. makes_after _ (coded_type_refusal t v) _ (makes _ _ (refl, refl, refl));
      validate = λ t. makes_after _ (made_refusal t) _ (makes _ _ refl);
      coded_by_record = λ bytes store a b used. makes_after _ (slices_refusal (length bytes) store a b used) _ (said_makes (coded_in bytes));
      fetch_entry = fetch_makes;
    }

-- one that no record can say: the name of its key is past what 16 bits tell
abbrev unsaid : DiagCodedType
unsaid = record { base_datatype = ByteField; type_ = ParamLengthInfo (record { at = 65536; len = record { 0 = 0 } }); is_high_low_byte_order = true }

no_record : (old : List ℕ) → (stored_record unsaid old).report ≡ numbered 42
unfolding stored_record
no_record old = refl

pub demand_1_unsaid : ByDescription (by_type unsaid)
demand_1_unsaid = demand_1.by_type unsaid
