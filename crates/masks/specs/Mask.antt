-- A mask with its use.
use Rattle.std.specs.Prelude.{ℕ, List, Option, Some, None}
use Rattle.std.specs.Borrow.{Bor}
use Rattle.masks.specs.declared.uses.Mask as code
use Rattle.masks.specs.declared.uses.Mask.TheVariants.{Absent, Plain, Condensed}

pub data Mask : Type 0 where
  no_mask : Mask
  plain_mask : List ℕ → Mask
  condensed_mask : List ℕ → Mask

-- these bytes put to their use
abbrev pub mask_of : code.Mask → Mask
mask_of Absent = no_mask
mask_of (Plain mask) = plain_mask mask.now
mask_of (Condensed mask) = condensed_mask mask.now

-- the mask in plain use, or none
abbrev pub plain_of : Option (Bor (List ℕ)) → Mask
plain_of None = no_mask
plain_of (Some mask) = plain_mask mask.now
