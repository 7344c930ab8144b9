-- RULES 7: what each variant makes of a payload, and a field's whole answer to an encode.
use Rattle.std.specs.Prelude.{ℕ, Bool, cond, List, length, eqb}
use Rattle.kinds.specs.declared.types.DataType.{DataType}
use Rattle.kinds.specs.declared.types.ByteOrder.{ByteOrder}
use Rattle.kinds.specs.Types.{is_unicode_type}
use Rattle.kinds.specs.Outcomes.{Outcome, gives, after, Answer}
use Rattle.kinds.specs.Refusals.{bit_position_refusal}
use Rattle.coded.specs.declared.variants.Termination.{Termination}
use Rattle.coded.specs.declared.variants.Termination.TheVariants.{EndOfPdu, Zero, HexFF}
use Rattle.masks.specs.Mask.{Mask}
use Rattle.field.specs.declared.Shape.{Shape}
use Rattle.field.specs.declared.Shape.TheVariants as shape
use Rattle.field.specs.Field.{Field}
use Rattle.pack.specs.Source.{bytes_source, effective_mask, standard_source, behind_length, terminated}
use Rattle.payload.specs.Payload.{Payload, write_answer}
use Rattle.payload.specs.Writing.{writing}
use Rattle.lengths.specs.Refusals.{standard_refusal, count_refusal, empty_refusal}

-- the input, then 00 or FF, twice for Unicode2String
abbrev pub with_terminator : Termination → Bool → List ℕ → List ℕ
with_terminator EndOfPdu unicode input = input
with_terminator Zero unicode input = terminated input (cond unicode 2 1) 0x00
with_terminator HexFF unicode input = terminated input (cond unicode 2 1) 0xFF

module _ (o : ByteOrder) (input : List ℕ) (p : Payload) (at pos : ℕ) where
  -- 21 to 25, 36, 26, 40
  abbrev pub standard_encoded : DataType → ℕ → Mask → Outcome Payload
  standard_encoded t len mask = after (standard_refusal t len mask) (writing o (standard_source t len (effective_mask mask) input) p at pos)

  -- 33, 32, 38, 40
  abbrev pub leading_encoded : ℕ → Outcome Payload
  leading_encoded bits = after (count_refusal bits (length input)) (writing o (bytes_source (behind_length bits input)) p at pos)

  -- 35, 40; min and max are not looked at
  abbrev pub min_max_encoded : Bool → Termination → Outcome Payload
  min_max_encoded unicode e = after (empty_refusal e (length input)) (writing o (bytes_source (with_terminator e unicode input)) p at pos)

  -- an empty input succeeds and changes nothing, otherwise 26, 40
  abbrev pub param_encoded : Outcome Payload
  param_encoded = cond (eqb (length input) 0) (gives p) (writing o (bytes_source input) p at pos)

  -- 26 is not given for Leading and MinMax: on a byte type 20 comes before, and on others 10
  abbrev pub shape_encoded : DataType → Shape → Mask → Outcome Payload
  shape_encoded t (shape.Standard len) mask = standard_encoded t len.0 mask
  shape_encoded t (shape.Leading bits) mask = leading_encoded bits.0
  shape_encoded t (shape.MinMax m) mask = min_max_encoded (is_unicode_type t) m.termination
  shape_encoded t shape.Param mask = param_encoded

-- 20, and then the variant's own
abbrev pub field_encoding : Field → List ℕ → Payload → ℕ → ℕ → Outcome Payload
field_encoding f input p at pos = after (bit_position_refusal f.type pos) (shape_encoded f.order input p at pos f.type f.shape f.mask)

-- a field written at a byte position and a bit position
abbrev pub encode_of : Field → List ℕ → Payload → ℕ → ℕ → Answer Payload
encode_of f input p at pos = write_answer p (field_encoding f input p at pos)
