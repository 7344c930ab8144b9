-- Coded types by a few words, for the tables of examples.
use Rattle.std.proofs.Common.{Bool, false, ℕ, None, Option, Some}
use Rattle.kinds.specs.declared.types.DataType.{DataType}
use Rattle.coded.specs.declared.variants.Termination.{Termination}
use Rattle.coded.specs.declared.variants.DiagCodedTypeVariant.{DiagCodedTypeVariant}
use Rattle.coded.specs.declared.variants.DiagCodedTypeVariant.TheVariants.{LeadingLengthInfo, MinMaxLength, StandardLength, ParamLengthInfo}
use Rattle.calls.specs.Calls.{Description, by_type}
use Rattle.coded.specs.declared.variants.Place.{Place}

-- a type, high-low or not, and a variant
abbrev pub coded : DataType → Bool → DiagCodedTypeVariant → Description
coded t high_low v = by_type (record { base_datatype = t; type_ = v; is_high_low_byte_order = high_low })

abbrev pub under : ℕ → Option Place → Bool → DiagCodedTypeVariant
under bits place condensed = StandardLength (record { bit_length = record { 0 = bits }; bit_mask = place; condensed = condensed })

abbrev pub plainly : ℕ → DiagCodedTypeVariant
plainly bits = under bits None false

-- the mask is the whole store
abbrev pub whole : ℕ → Option Place
whole n = Some (record { at = 0; len = record { 0 = n } })

abbrev pub behind : ℕ → DiagCodedTypeVariant
behind bits = LeadingLengthInfo (record { 0 = bits })

abbrev pub limited : ℕ → ℕ → Termination → DiagCodedTypeVariant
limited least most t = MinMaxLength (record { min_length = least; max_length = Some most; termination = t })

-- a parameter whose name is empty gives the length
abbrev pub unnamed : DiagCodedTypeVariant
unnamed = ParamLengthInfo (record { at = 0; len = record { 0 = 0 } })
