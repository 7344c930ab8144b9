-- What the small getters of a coded type give.
use Rattle.std.specs.Prelude.{Option, Some, None}
use Rattle.kinds.specs.declared.types.BitLength.{BitLength}
use Rattle.coded.specs.declared.variants.Place.{Place}
use Rattle.coded.specs.declared.variants.DiagCodedTypeVariant.{DiagCodedTypeVariant}
use Rattle.coded.specs.declared.variants.DiagCodedTypeVariant.TheVariants.{LeadingLengthInfo, MinMaxLength, StandardLength, ParamLengthInfo}

-- the length that a description gives: of the length field, or of the field itself
abbrev pub bit_len_of : DiagCodedTypeVariant → Option BitLength
bit_len_of (LeadingLengthInfo bits) = Some bits
bit_len_of (MinMaxLength m) = None
bit_len_of (StandardLength s) = Some s.bit_length
bit_len_of (ParamLengthInfo name) = None

-- where the key's name stands in the store
abbrev pub key_place_of : DiagCodedTypeVariant → Option Place
key_place_of (ParamLengthInfo name) = Some name
key_place_of (LeadingLengthInfo bits) = None
key_place_of (MinMaxLength m) = None
key_place_of (StandardLength s) = None
