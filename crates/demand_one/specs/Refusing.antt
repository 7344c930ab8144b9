-- Demand 1: every input ends in an answer or in a numbered refusal, and a refusal changes nothing. This file states it, of the definitions
-- that the contracts of the calls cite; proofs/Refused proves it.
use Rattle.std.specs.Prelude.{◌≡◌, ◌⊎◌, Bool, List, [], ◌∷◌, ℕ, ◌+◌, ◌*◌, ◌≤◌, length, drop, Option, Some, ℤ}
use Rattle.kinds.specs.declared.types.DataType.{DataType}
use Rattle.kinds.specs.declared.refusals.Refusal.{Refusal}
use Rattle.kinds.specs.Slices.{cut}
use Rattle.kinds.specs.Answers.{number_of, wrote, read}
use Rattle.kinds.specs.Outcomes.{Outcome, gives, refuses, after, Answer}
use Rattle.coded.specs.declared.variants.Termination.{Termination}
use Rattle.coded.specs.declared.variants.DiagCodedTypeVariant.{DiagCodedTypeVariant}
use Rattle.coded.specs.declared.coded_type.DiagCodedType.{DiagCodedType}
use Rattle.coded.specs.Refusals.{made_refusal}
use Rattle.coded.specs.Making.{new_min_max, new_coded_type}
use Rattle.record.specs.Numbers.{record_size}
use Rattle.record.specs.Parsing.{coded_in}
use Rattle.record.specs.Recorded.{coded_by_record}
use Rattle.storing.specs.Storing.{stored_record}
use Rattle.table.specs.Table.{fetched}
use Rattle.payload.specs.Payload.{Payload}
use Rattle.bits.specs.Bits.{bit_at, number}
use Rattle.encodings.specs.declared.forms.Encoding.{Encoding}
use Rattle.encodings.specs.Widths.{encoding_of}
use Rattle.encodings.specs.Meaning.{meaning}
use Rattle.values.specs.Values.{value_read, value_written, value_read_by_code, value_written_by_code}
use Rattle.calls.specs.Calls.{Description, by_type, by_record, decoded, encoded, cleared_field, runtime_read, key_name}
use Rattle.dct.specs.Boundary.{start_answer, places_fetched}

-- a number of the table of refusals
pub data Tabled : ℕ → Type 0 where
  row : (r : Refusal) → Tabled (number_of r)
  thirty : Tabled 30

-- a refusal: its number and counts of 0; 30 alone says what was expected and what there is; and what is left is `old`: what came, or the
-- zeros or the empty part that a refusal leaves
pub record Refuses {A : Type 0} (old : A) (s : Answer A) : Type 0 where
  pub number : ℕ
  pub tabled : Tabled number
  pub not_0 : number ≡ 0 → ⊥
  pub expected : ℕ
  pub actual : ℕ
  pub reports : s.report ≡ number ∷ 0 ∷ 0 ∷ expected ∷ actual ∷ []
  pub alone : (number ≡ 30 → ⊥) → (expected ≡ 0) × (actual ≡ 0)
  pub keeps : s.left ≡ old

-- a call ends in an answer, of which this holds, or in a refusal
abbrev pub Ends : {A : Type 0} → (Answer A → Type 0) → A → Answer A → Type 0
Ends Good old s = Good s ⊎ Refuses old s

-- a decode: the bytes that it gives fit into the output, which keeps its size, and what is past them stays
pub record Decodes (output : List ℕ) (s : Answer (List ℕ)) : Type 0 where
  pub bits : ℕ
  pub bytes : ℕ
  pub reports : s.report ≡ read bits bytes
  pub fits : bytes ≤ length output
  pub size : length s.left ≡ length output
  pub past : drop bytes s.left ≡ drop bytes output

-- a read: what is left is where the part starts, and the part is in the payload
pub record Reads (payload : List ℕ) (s : Answer ℕ) : Type 0 where
  pub bits : ℕ
  pub bytes : ℕ
  pub reports : s.report ≡ read bits bytes
  pub inside : s.left + bytes ≤ length payload

-- an encode: counts of 0, and the payload keeps its size
pub record Encodes (p : Payload) (s : Answer Payload) : Type 0 where
  pub reports : s.report ≡ wrote
  pub size : length s.left.bytes ≡ length p.bytes

-- a clear: the used length stays besides
abbrev pub Clears : Payload → Answer Payload → Type 0
Clears p s = Encodes p s × (s.left.used ≡ p.used)

-- a fetch: three places
pub record Fetches (s : Answer (List ℕ)) : Type 0 where
  pub record_at : ℕ
  pub store_at : ℕ
  pub store_len : ℕ
  pub reports : s.report ≡ wrote
  pub places : s.left ≡ record_at ∷ store_at ∷ store_len ∷ []

-- a read that hands back the part itself
pub record HandsBack (payload : List ℕ) (at count : ℕ) (s : Answer (List ℕ)) : Type 0 where
  pub reports : s.report ≡ read (8 * length s.left) (length s.left)
  pub part : s.left ≡ cut at count payload

-- a key name: some part of the store, which may be empty; the contract says which
pub record Names (store : List ℕ) (s : Answer (List ℕ)) : Type 0 where
  pub at : ℕ
  pub size : ℕ
  pub reports : s.report ≡ wrote
  pub part : s.left ≡ cut at size store

-- a record that is stored has its size
pub record Stores (s : Answer (List ℕ)) : Type 0 where
  pub reports : s.report ≡ wrote
  pub size : length s.left ≡ record_size

-- a value that is read: what the lowest bits say
pub record ReadsValue (e : Encoding) (width : ℕ) (xs : List ℕ) (s : Answer ℤ) : Type 0 where
  pub reports : s.report ≡ wrote
  pub means : s.left ≡ meaning e width (number width (bit_at xs))

-- a value that is written: the bytes keep their number
pub record WritesValue (xs : List ℕ) (s : Answer (List ℕ)) : Type 0 where
  pub reports : s.report ≡ wrote
  pub size : length s.left ≡ length xs

-- by a code, which tells an encoding then
pub record ReadsByCode (code width : ℕ) (xs : List ℕ) (s : Answer ℤ) : Type 0 where
  pub encoding : Encoding
  pub told : encoding_of code ≡ Some encoding
  pub reads : ReadsValue encoding width xs s

pub record WritesByCode (code : ℕ) (xs : List ℕ) (s : Answer (List ℕ)) : Type 0 where
  pub encoding : Encoding
  pub told : encoding_of code ≡ Some encoding
  pub writes : WritesValue xs s

-- a call that is lent nothing to change: it makes something, of which this holds,
pub record Gives {A : Type 0} (Good : A → Type 0) (o : Outcome A) : Type 0 where
  pub made : A
  pub good : Good made
  pub is : o ≡ gives made

-- or it refuses with a number of the table, and never with 30
pub record TurnsDown {A : Type 0} (o : Outcome A) : Type 0 where
  pub refusal : Refusal
  pub is : o ≡ refuses refusal
  pub not_0 : number_of refusal ≡ 0 → ⊥
  pub not_30 : number_of refusal ≡ 30 → ⊥

abbrev pub Makes : {A : Type 0} → (A → Type 0) → Outcome A → Type 0
Makes Good o = Gives Good o ⊎ TurnsDown o

-- The calls that take a description, for every input. What is left is all that a call can change beside its report: of a decode the output,
-- of an encode and a clear the payload with its used length, and of a read from C the place of the part, which is 0 where there is none. A
-- read and a key name hand back a part, which is empty then.
pub record ByDescription (d : Description) : Type 0 where
  pub decode : (store payload : List ℕ) (at pos : ℕ) (output : List ℕ) → Ends (Decodes output) output (decoded d store payload at pos output)
  pub encode : (store input : List ℕ) (p : Payload) (at pos : ℕ) → Ends (Encodes p) p (encoded d store input p at pos)
  pub clear : (store : List ℕ) (p : Payload) (at pos : ℕ) → Ends (Clears p) p (cleared_field d store p at pos)
  pub read : (store payload : List ℕ) (at count : ℕ) → Ends (Reads payload) 0 (start_answer at (runtime_read d store payload at count))
  pub read_part : (store payload : List ℕ) (at count : ℕ) → Ends (HandsBack payload at count) [] (runtime_read d store payload at count)
  pub key_name : (store : List ℕ) → Ends (Names store) [] (key_name d store)

-- Every public call that can refuse; `new_high_low_byte_order` is `new` with true. A coded type is any at all: also one that no record can
-- say, and one that `new` would refuse. So is a record: any bytes.
-- A refused fetch leaves zeros in place of the places that C is told, a refused `record_of` the old bytes, a refused reading of a value the
-- old value, and a refused writing the old bytes. `new_limits` is the `new` of
-- MinMaxLengthType, and `new` that of DiagCodedType. `validate` answers a check alone; what passes
-- it stands here as what is made.
pub record Demand1 : Type 0 where
  pub by_type : (t : DiagCodedType) → ByDescription (by_type t)
  pub by_record : (bytes : List ℕ) → ByDescription (by_record bytes)
  pub fetch : (table : List ℕ) (number : ℕ) → Ends Fetches (0 ∷ 0 ∷ 0 ∷ []) (places_fetched table number)
  pub record_of : (t : DiagCodedType) (old : List ℕ) → Ends Stores old (stored_record t old)
  pub value_read : (e : Encoding) (width : ℕ) (xs : List ℕ) (old : ℤ) → Ends (ReadsValue e width xs) old (value_read e width xs old)
  pub value_written : (e : Encoding) (width : ℕ) (v : ℤ) (xs : List ℕ) → Ends (WritesValue xs) xs (value_written e width v xs)
  pub value_read_by_code : (code width : ℕ) (xs : List ℕ) (old : ℤ) → Ends (ReadsByCode code width xs) old (value_read_by_code code width xs old)
  pub value_written_by_code : (code width : ℕ) (v : ℤ) (xs : List ℕ) → Ends (WritesByCode code xs) xs (value_written_by_code code width v xs)
  pub new_limits : (min : ℕ) (max : Option ℕ) (e : Termination)
      → Makes (λ m. (m.min_length ≡ min) × (m.max_length ≡ max) × (m.termination ≡ e)) (new_min_max min max e)
  pub new : (t : DataType) (v : DiagCodedTypeVariant) (high_low : Bool)
      → Makes (λ c. (c.base_datatype ≡ t) × (c.type_ ≡ v) × (c.is_high_low_byte_order ≡ high_low)) (new_coded_type t v high_low)
  pub validate : (t : DiagCodedType) → Makes (λ c. c ≡ t) (after (made_refusal t) (gives t))
  pub coded_by_record : (bytes : List ℕ) (store a b used : ℕ) → Makes (λ t. coded_in bytes ≡ Some t) (coded_by_record bytes store a b used)
  pub fetch_entry : (table : List ℕ) (number : ℕ) → Makes (λ e. e.store_at + e.store_len.0 ≡ length table) (fetched table number)
