-- What matters of a coded type, with the contents of its mask in place of where the store has it.
use Rattle.std.specs.Prelude.{ℕ, ◌+◌, Bool, cond, List, [], length, ltb, Option, Some, None}
use Rattle.kinds.specs.declared.types.DataType.{DataType}
use Rattle.kinds.specs.declared.types.ByteOrder.{ByteOrder}
use Rattle.kinds.specs.Types.{byte_order_of}
use Rattle.kinds.specs.Slices.{cut}
use Rattle.coded.specs.declared.variants.Place.{Place}
use Rattle.coded.specs.declared.variants.DiagCodedTypeVariant.{DiagCodedTypeVariant}
use Rattle.coded.specs.declared.variants.DiagCodedTypeVariant.TheVariants.{LeadingLengthInfo, MinMaxLength, StandardLength, ParamLengthInfo}
use Rattle.coded.specs.declared.coded_type.DiagCodedType.{DiagCodedType}
use Rattle.masks.specs.Mask.{Mask, no_mask, plain_mask, condensed_mask, mask_of}
use Rattle.field.specs.declared.Field as code
use Rattle.field.specs.declared.Shape.{Shape}
use Rattle.field.specs.declared.Shape.TheVariants as shape

-- a part that ends past a store of n bytes
abbrev pub outside : Place → ℕ → Bool
outside p n = ltb n (p.at + p.len.0)

-- a part of the store, and nothing where it is outside
abbrev pub part_of : List ℕ → Place → List ℕ
part_of store p = cond (outside p (length store)) [] (cut p.at p.len.0 store)

abbrev pub part_at : List ℕ → Option Place → List ℕ
part_at store (Some p) = part_of store p
part_at store None = []

-- where it starts in a store of n bytes, and 0 where there is none
abbrev pub start_of : ℕ → Place → ℕ
start_of n p = cond (outside p n) 0 p.at

abbrev pub start_at : ℕ → Option Place → ℕ
start_at n (Some p) = start_of n p
start_at n None = 0

-- the part of the store that a variant speaks of: a mask, or a key name
abbrev pub store_place : DiagCodedTypeVariant → Option Place
store_place (LeadingLengthInfo bits) = None
store_place (MinMaxLength m) = None
store_place (StandardLength s) = s.bit_mask
store_place (ParamLengthInfo name) = Some name

-- a mask is condensed where the description says so, and condensed without a mask does nothing
abbrev pub mask_at : List ℕ → Option Place → Bool → Mask
mask_at store (Some p) condensed = cond condensed (condensed_mask (part_of store p)) (plain_mask (part_of store p))
mask_at store None condensed = no_mask

abbrev pub mask_in : List ℕ → DiagCodedTypeVariant → Mask
mask_in store (LeadingLengthInfo bits) = no_mask
mask_in store (MinMaxLength m) = no_mask
mask_in store (StandardLength s) = mask_at store s.bit_mask s.condensed
mask_in store (ParamLengthInfo name) = no_mask

-- what else a variant says
abbrev pub shape_of : DiagCodedTypeVariant → Shape
shape_of (LeadingLengthInfo bits) = shape.Leading bits
shape_of (MinMaxLength m) = shape.MinMax m
shape_of (StandardLength s) = shape.Standard s.bit_length
shape_of (ParamLengthInfo name) = shape.Param

-- the mask counts for Standard alone
pub record Field : Type 0 where
  pub type : DataType
  pub order : ByteOrder
  pub shape : Shape
  pub mask : Mask

abbrev pub field : DataType → ByteOrder → Shape → Mask → Field
field t o s m = record { type = t; order = o; shape = s; mask = m }

abbrev pub field_of : DiagCodedType → List ℕ → Field
field_of t store =
    field t.base_datatype (byte_order_of t.base_datatype t.is_high_low_byte_order) (shape_of t.type_) (mask_in store t.type_)

-- a field as the code has it
abbrev pub said_of : code.Field → Field
said_of f = field f.base_datatype f.byte_order f.shape (mask_of f.mask)
