-- RULES 8: what a clear makes of a payload, and a field's whole answer to it.
use Rattle.std.specs.Prelude.{ℕ, [], ◌∷◌}
use Rattle.kinds.specs.declared.types.DataType.{DataType}
use Rattle.kinds.specs.declared.types.ByteOrder.{ByteOrder}
use Rattle.kinds.specs.declared.refusals.Refusal.TheVariants.{NotClearable}
use Rattle.kinds.specs.Types.{is_byte_type}
use Rattle.kinds.specs.Outcomes.{rule, first_among, Outcome, refuses, after, Answer}
use Rattle.masks.specs.Mask.{Mask}
use Rattle.field.specs.declared.Shape.{Shape}
use Rattle.field.specs.declared.Shape.TheVariants as shape
use Rattle.field.specs.Field.{Field}
use Rattle.pack.specs.Source.{effective_mask, size_under}
use Rattle.payload.specs.Payload.{Payload, write_answer}
use Rattle.payload.specs.Writing.{clearing}
use Rattle.lengths.specs.Refusals.{standard_refusal}

module _ (t : DataType) (o : ByteOrder) (p : Payload) (at pos : ℕ) where
  -- 39 for byte types; 21 to 24, 36, 26, 30; then the field's own bits are zero, in the cut-out that encode would use
  abbrev pub standard_cleared : ℕ → Mask → Outcome Payload
  standard_cleared len mask =
      after (first_among (rule (is_byte_type t) NotClearable ∷ []))
      (after (standard_refusal t len mask)
      (clearing o (effective_mask mask) (size_under (effective_mask mask) len) p at pos))

  -- 39 for anything but StandardLength
  abbrev pub shape_cleared : Shape → Mask → Outcome Payload
  shape_cleared (shape.Standard len) mask = standard_cleared len.0 mask
  shape_cleared (shape.Leading bits) mask = refuses NotClearable
  shape_cleared (shape.MinMax m) mask = refuses NotClearable
  shape_cleared shape.Param mask = refuses NotClearable

abbrev pub field_clearing : Field → Payload → ℕ → ℕ → Outcome Payload
field_clearing f p at pos = shape_cleared f.type f.order p at pos f.shape f.mask

-- a field taken back to zero at a byte position and a bit position
abbrev pub clear_of : Field → Payload → ℕ → ℕ → Answer Payload
clear_of f p at pos = write_answer p (field_clearing f p at pos)
