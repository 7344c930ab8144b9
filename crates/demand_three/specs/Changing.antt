-- Demand 3: changing one field equals building anew. This file states it, of any way to call and then of three: the field layer, the
-- calls by a coded type, and the calls by a record, which C makes. proofs/Changed and proofs/Ways prove it.
use Rattle.std.specs.Prelude.{◌≡◌, Bool, true, false, not, ◌&&◌, ◌||◌, ℕ, zero, suc, ◌+◌, ◌*◌, ◌%◌, ◌≤◌, ◌<◌, length, get_or, take, drop, replicate, eqb, ltb, leb}
use mathlib.Core.List.{List, [], ◌∷◌, ◌++◌, Permᴰ}
use Rattle.kinds.specs.declared.types.DataType.{DataType}
use Rattle.kinds.specs.declared.types.DataType.TheVariants.{UInt32}
use Rattle.kinds.specs.declared.types.ByteOrder.{ByteOrder}
use Rattle.kinds.specs.declared.types.ByteOrder.TheVariants.{Keep}
use Rattle.kinds.specs.Types.{is_numeric, byte_order_of, bytes_for}
use Rattle.kinds.specs.Answers.{number_in, read}
use Rattle.kinds.specs.Slices.{slice_limit}
use Rattle.kinds.specs.Outcomes.{Outcome, gives, lacks, refuses, Answer, answer}
use Rattle.coded.specs.declared.variants.DiagCodedTypeVariant.{DiagCodedTypeVariant}
use Rattle.coded.specs.declared.variants.DiagCodedTypeVariant.TheVariants.{LeadingLengthInfo, MinMaxLength, StandardLength, ParamLengthInfo}
use Rattle.coded.specs.declared.coded_type.DiagCodedType.{DiagCodedType}
use Rattle.bits.specs.Bits.{bit_at}
use Rattle.masks.specs.Mask.{Mask, no_mask, plain_mask, condensed_mask}
use Rattle.field.specs.declared.Shape.TheVariants.{Standard}
use Rattle.field.specs.Field.{Field, field, mask_in}
use Rattle.record.specs.Recorded.{well_formed}
use Rattle.pack.specs.Source.{effective_mask, size_under}
use Rattle.payload.specs.Payload.{Payload, payload_of}
use Rattle.readers.specs.Finding.{decode_of}
use Rattle.writers.specs.Shapes.{encode_of}
use Rattle.clear.specs.Clear.{clear_of}
use Rattle.calls.specs.Calls.{Description, by_type, by_record, coded_said, decoded, encoded, cleared_field}
use Rattle.ownership.specs.Ownership.{Cut, owns}

-- ---- a field at its place

-- a field of StandardLength, at a byte and a bit position
pub record Placed : Type 0 where
  pub type : DataType
  pub order : ByteOrder
  pub len : ℕ
  pub mask : Mask
  pub at : ℕ
  pub pos : ℕ

-- the cut-out that encode uses: an empty mask counts as none, and a condensed one sets the length
abbrev pub cut_of : Placed → Cut
cut_of f = record { order = f.order; at = f.at; pos = f.pos; size = size_under (effective_mask f.mask) f.len; mask = effective_mask f.mask }

-- bit k of n bytes is one of the field's own
abbrev pub own : ℕ → Placed → ℕ → Bool
own n f k = owns (cut_of f) n k

-- two fields own none of the first m bits of n bytes in common
unfoldable pub apart_below : ℕ → ℕ → Placed → Placed → Bool
apart_below zero n f g = true
apart_below (suc m) n f g = not (own n f m && own n g m) && apart_below m n f g

abbrev pub apart : ℕ → Placed → Placed → Bool
apart n f g = apart_below (8 * n) n f g

-- ---- ways to call

-- what a call is told of a field, the field that this says, and the three calls
pub record Way : Type 1 where
  pub Told : Type 0
  pub says : Told → Placed
  pub write : Told → List ℕ → Payload → Answer Payload
  pub clear : Told → Payload → Answer Payload
  pub read_back : Told → List ℕ → List ℕ → Answer (List ℕ)
  -- whether an input or an output of so many bytes may be lent
  pub lends : ℕ → Bool

-- the field layer is told the field itself, and takes an input and an output of any size
abbrev pub field_at : Placed → Field
field_at f = field f.type f.order (Standard (record { 0 = f.len })) f.mask

abbrev pub field_way : Way
field_way =
    record {
      Told = Placed;
      says = λ f. f;
      write = λ f v p. encode_of (field_at f) v p f.at f.pos;
      clear = λ f p. clear_of (field_at f) p f.at f.pos;
      read_back = λ f xs output. decode_of (field_at f) xs f.at f.pos output;
      lends = λ m. true;
    }

-- the bit length of StandardLength; of another variant 0, and a field of 0 bits is not accepted
abbrev pub standard_length : DiagCodedTypeVariant → ℕ
standard_length (LeadingLengthInfo bits) = 0
standard_length (MinMaxLength m) = 0
standard_length (StandardLength s) = s.bit_length.0
standard_length (ParamLengthInfo name) = 0

-- the field that a coded type says with its store; a record that says no coded type says a field of 0 bits
abbrev pub placed_as : Outcome DiagCodedType → List ℕ → ℕ → ℕ → Placed
placed_as (gives t) store at pos =
    record {
      type = t.base_datatype;
      order = byte_order_of t.base_datatype t.is_high_low_byte_order;
      len = standard_length t.type_;
      mask = mask_in store t.type_;
      at = at;
      pos = pos;
    }
placed_as (lacks e a) store at pos = record { type = UInt32; order = Keep; len = 0; mask = no_mask; at = at; pos = pos }
placed_as (refuses r) store at pos = record { type = UInt32; order = Keep; len = 0; mask = no_mask; at = at; pos = pos }

-- the coded type that a description says
abbrev pub coded_as : Description → Outcome DiagCodedType
coded_as d = well_formed (coded_said d)

-- a description, a byte and a bit position
pub record Located (A : Type 0) : Type 0 where
  pub description : A
  pub at : ℕ
  pub pos : ℕ

-- calls that are told a description, all with one store
abbrev pub call_way : {A : Type 0} → (A → Description) → List ℕ → Way
call_way {A} by store =
    record {
      Told = Located A;
      says = λ x. placed_as (coded_as (by x.description)) store x.at x.pos;
      write = λ x v p. encoded (by x.description) store v p x.at x.pos;
      clear = λ x p. cleared_field (by x.description) store p x.at x.pos;
      read_back = λ x xs output. decoded (by x.description) store xs x.at x.pos output;
      lends = λ m. leb m slice_limit;
    }

-- by a coded type, and by a record: `dct_encode`, `dct_clear`, `dct_decode`
abbrev pub type_way : List ℕ → Way
type_way store = call_way by_type store

abbrev pub record_way : List ℕ → Way
record_way store = call_way by_record store

-- ---- messages

-- n zero bytes, all used
abbrev pub zeros : ℕ → Payload
zeros n = payload_of (replicate n 0) n

-- the same in a slice with more room, whatever bytes are behind
abbrev pub blank : ℕ → List ℕ → Payload
blank n behind = payload_of (replicate n 0 ++ behind) n

-- the bytes that are used
abbrev pub message : Payload → List ℕ
message p = take p.used p.bytes

-- a call gives 0, keeps the used length, and leaves the bytes behind it as they came
pub record Succeeds (n : ℕ) (behind : List ℕ) (a : Answer Payload) : Type 0 where
  pub number : number_in a.report ≡ 0
  pub used : a.left.used ≡ n
  pub size : length (message a.left) ≡ n
  pub stays : drop n a.left.bytes ≡ behind

-- ---- what is read back exactly

-- the length is below 8 or whole bytes, so that nothing but bits past it is trimmed
abbrev pub whole_or_short : ℕ → Bool
whole_or_short len = ltb len 8 || eqb (len % 8) 0

-- the field ends inside the bytes that its length takes
abbrev pub inside_bytes : Placed → Bool
inside_bytes f = leb (f.pos + f.len) (8 * bytes_for f.len)

-- no mask, not even an empty one
abbrev pub unmasked : Mask → Bool
unmasked no_mask = true
unmasked (plain_mask mask) = false
unmasked (condensed_mask mask) = false

-- a value of as many bytes as the field takes, with no bit at or above its length
pub record Exact (len : ℕ) (v : List ℕ) : Type 0 where
  pub fills : length v ≡ bytes_for len
  pub bytes : (j : ℕ) → get_or v j 0 < 256
  pub fits : (i : ℕ) → len ≤ i → bit_at v i ≡ 0

-- ---- the statement, of any way to call

module _ (w : Way) where
  -- what a call is told of a field, and the value that this is to have
  pub record Assignment : Type 0 where
    pub told : w.Told
    pub value : List ℕ

  abbrev pub with : w.Told → List ℕ → Assignment
  with x v = record { told = x; value = v }

  abbrev pub write_assignment : Assignment → Payload → Answer Payload
  write_assignment e p = w.write e.told e.value p

  -- one write after the other
  unfoldable pub build : List Assignment → Payload → Payload
  build [] p = p
  build (e ∷ l) p = build l (write_assignment e p).left

  -- each of these writes succeeds
  unfoldable pub AllSucceed : ℕ → List ℕ → List Assignment → Payload → Type 0
  AllSucceed n behind [] p = Unit {0}
  AllSucceed n behind (e ∷ l) p = Succeeds n behind (write_assignment e p) × AllSucceed n behind l (write_assignment e p).left

  -- one field of what was built is changed: its bits are cleared, and the new value is written
  abbrev pub change : w.Told → List ℕ → Payload → Answer Payload
  change x v p = w.write x v (w.clear x p).left

  -- a numeric field of StandardLength that encode accepts on n zero bytes, all used, and keeps their number; the value does not matter as
  -- long as it may be lent
  abbrev pub accepted : ℕ → w.Told → Bool
  accepted n x =
      is_numeric (w.says x).type
      && (ltb 0 (w.says x).len
      && (eqb (number_in (w.write x [] (zeros n)).report) 0
      && eqb (w.write x [] (zeros n)).left.used n))

  unfoldable pub all_accepted : ℕ → List Assignment → Bool
  all_accepted n [] = true
  all_accepted n (e ∷ l) = accepted n e.told && all_accepted n l

  -- each value may be lent
  unfoldable pub all_lent : List Assignment → Bool
  all_lent [] = true
  all_lent (e ∷ l) = w.lends (length e.value) && all_lent l

  unfoldable pub apart_from : ℕ → Placed → List Assignment → Bool
  apart_from n f [] = true
  apart_from n f (e ∷ l) = apart n f (w.says e.told) && apart_from n f l

  -- own bits are pairwise disjoint
  unfoldable pub disjoint : ℕ → List Assignment → Bool
  disjoint n [] = true
  disjoint n (e ∷ l) = apart_from n (w.says e.told) l && disjoint n l

  -- a field with its value between other fields
  abbrev pub between : List Assignment → List Assignment → w.Told → List ℕ → List Assignment
  between before after x v = before ++ (with x v ∷ after)

  module _ (n : ℕ) (behind : List ℕ) (before after : List Assignment) (x : w.Told) (v v' : List ℕ) (l' l'' : List Assignment) where
    -- l' is the list of the fields in any order, and l'' in any other, with a new value for one of them
    pub record Premises : Type 0 where
      pub small : n + length behind ≤ 65535
      pub all_accepted : all_accepted n (between before after x v) ≡ true
      pub all_lent : all_lent (between before after x v) ≡ true
      pub new_lent : w.lends (length v') ≡ true
      pub own_disjoint : disjoint n (between before after x v) ≡ true
      pub one_order : Permᴰ (between before after x v) l'
      pub other_order : Permᴰ (between before after x v') l''

    -- what was built, and what the change makes of it
    abbrev pub built : Payload
    built = build l' (blank n behind)

    abbrev pub changed : Payload
    changed = (change x v' built).left

    pub record Changed : Type 0 where
      -- every call gives 0, keeps the used length, and leaves the bytes behind it
      pub a_built : AllSucceed n behind l' (blank n behind)
      pub a_cleared : Succeeds n behind (w.clear x built)
      pub a_changed : Succeeds n behind (change x v' built)
      pub a_anew : AllSucceed n behind l'' (blank n behind)
      -- what is changed is what is built anew
      pub b : changed ≡ build l'' (blank n behind)
      -- and no bit changes but the field's own
      pub c : (k : ℕ) → own n (w.says x) k ≡ false → bit_at (message built) k ≡ bit_at (message changed) k
      -- the new value is read back, whatever stands behind the message in the slice that is read, and what is past it in the output stays
      pub d : whole_or_short (w.says x).len ≡ true → inside_bytes (w.says x) ≡ true → unmasked (w.says x).mask ≡ true → Exact (w.says x).len v'
          → (rest : List ℕ) → n + length rest ≤ 65535
          → (output : List ℕ) → bytes_for (w.says x).len ≤ length output → w.lends (length output) ≡ true
          → w.read_back x (message changed ++ rest) output ≡ answer (read (w.says x).len (bytes_for (w.says x).len)) (v' ++ drop (bytes_for (w.says x).len) output)

  abbrev pub Demand3Of : Type 0
  Demand3Of =
      (n : ℕ) (behind : List ℕ) (before after : List Assignment) (x : w.Told) (v v' : List ℕ) (l' l'' : List Assignment)
      → Premises n behind before after x v v' l' l'' → Changed n behind before after x v v' l' l''

-- ---- the statement, of the three ways

pub record Demand3 : Type 0 where
  pub by_field : Demand3Of field_way
  pub by_type : (store : List ℕ) → Demand3Of (type_way store)
  pub by_record : (store : List ℕ) → Demand3Of (record_way store)
