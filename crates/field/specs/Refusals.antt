-- RULES 11.2: what is refused before a call's own rules.
use Rattle.std.specs.Prelude.{ℕ, ◌≤◌, List, [], ◌∷◌, length, ltb, Option, Some, None}
use Rattle.kinds.specs.declared.refusals.Refusal.TheVariants.{MalformedRecord, SliceTooLong, UsedPastSlice}
use Rattle.kinds.specs.Answers.{Check, passed}
use Rattle.coded.specs.declared.variants.Place.{Place}
use Rattle.kinds.specs.Slices.{slice_limit, store_limit}
use Rattle.kinds.specs.Outcomes.{rule, first_among, or_else}
use Rattle.coded.specs.declared.coded_type.DiagCodedType.{DiagCodedType}
use Rattle.coded.specs.Refusals.{made_refusal}
use Rattle.field.specs.declared.Sizes.{Sizes}
use Rattle.field.specs.Field.{outside, store_place}

-- 43: a slice above its limit, of a record, a store and two others with so many bytes; 44: of the last one so many are used
abbrev pub slices_refusal : ℕ → ℕ → ℕ → ℕ → ℕ → Check
slices_refusal bytes store a b used =
    first_among
    (rule (ltb slice_limit bytes) SliceTooLong
    ∷ rule (ltb store_limit store) SliceTooLong
    ∷ rule (ltb slice_limit a) SliceTooLong
    ∷ rule (ltb slice_limit b) SliceTooLong
    ∷ rule (ltb b used) UsedPastSlice
    ∷ [])

-- the sizes of these slices
abbrev pub sizes_of : List ℕ → List ℕ → List ℕ → ℕ → Sizes
sizes_of store a b used =
    record {
      store_len = record { 0 = length store };
      first_len = record { 0 = length a };
      second_len = record { 0 = length b };
      used = used;
    }

-- what is known of the sizes where neither 43 nor 44 is given
pub record Fit (sizes : Sizes) : Type 0 where
  pub store : sizes.store_len.0 ≤ 32768
  pub first : sizes.first_len.0 ≤ 65535
  pub second : sizes.second_len.0 ≤ 65535
  pub used : sizes.used ≤ sizes.second_len.0

-- 42: its part is outside the store
abbrev pub place_refusal : Option Place → ℕ → Check
place_refusal (Some p) store = first_among (rule (outside p store) MalformedRecord ∷ [])
place_refusal None store = passed

-- 42, then 12, 13, 10, 11
abbrev pub description_refusal : DiagCodedType → ℕ → Check
description_refusal t store = or_else (place_refusal (store_place t.type_) store) (made_refusal t)
