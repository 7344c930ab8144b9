-- The theorems of `OneToOne` at inputs that only just meet their premises, so that a stronger premise is refused here.
use Rattle.std.proofs.Common.{◌≡◌, refl, Bool, true, false, ◌&&◌, List, [], ◌∷◌, ℕ, zero, suc, arith, ltb, ltb-true, Some}
use Rattle.kinds.specs.declared.types.DataType.TheVariants.{UInt32, AsciiString}
use Rattle.kinds.specs.Answers.{wrote}
use Rattle.kinds.specs.Outcomes.{answer}
use Rattle.kinds.proofs.Outcomes.{both}
use Rattle.bits.proofs.Bytes.{Bytes}
use Rattle.coded.specs.declared.variants.Termination.TheVariants.{HexFF}
use Rattle.coded.specs.declared.variants.DiagCodedTypeVariant.TheVariants.{MinMaxLength, StandardLength}
use Rattle.coded.specs.declared.coded_type.DiagCodedType.{DiagCodedType}
use Rattle.record.specs.Parsing.{coded_of, coded_in}
use Rattle.storing.specs.Storing.{stored_record}
use Rattle.storing.proofs.OneToOne.{Storable, stored_parses, parsed_stored, one_record, one_coded_type}

-- ---- coded types

-- the longest bit length that 32 bits say, and a mask at the highest place and of the highest length that 16 bits say
abbrev longest : DiagCodedType
longest =
    record {
      base_datatype = UInt32;
      type_ = StandardLength (record { bit_length = record { 0 = 0xFFFFFFFF }; bit_mask = Some (record { at = 65535; len = record { 0 = 65535 } }); condensed = true });
      is_high_low_byte_order = true;
    }

longest_storable : Storable longest
longest_storable = record { length = omega arith; most = omega arith; place = refl }

-- the highest limits that 32 bits say
abbrev widest : DiagCodedType
widest =
    record {
      base_datatype = AsciiString;
      type_ = MinMaxLength (record { min_length = 0xFFFFFFFF; max_length = Some 0xFFFFFFFF; termination = HexFF });
      is_high_low_byte_order = false;
    }

widest_storable : Storable widest
widest_storable = record { length = omega arith; most = omega arith; place = refl }

-- length, place and the part's length at their edges; and the maximum
pub longest_parses : (old : List ℕ) → coded_in (stored_record longest old).left ≡ Some longest
longest_parses old = stored_parses longest old longest_storable

pub widest_parses : (old : List ℕ) → coded_in (stored_record widest old).left ≡ Some widest
widest_parses old = stored_parses widest old widest_storable

-- whatever the old bytes were
pub longest_once : longest ≡ longest
unfolding stored_record
longest_once = one_coded_type longest longest [] (0xFF ∷ []) longest_storable longest_storable refl

-- ---- records

abbrev all_bytes : List ℕ → Bool
all_bytes [] = true
all_bytes (x ∷ xs) = ltb x 256 && all_bytes xs

bytes : (xs : List ℕ) → all_bytes xs ≡ true → Bytes xs
bytes [] e j = omega arith
bytes (x ∷ xs) e zero = ltb-true x 256 (both (ltb x 256) (all_bytes xs) e).0
bytes (x ∷ xs) e (suc j) = bytes xs (both (ltb x 256) (all_bytes xs) e).1 j

-- their records, with 255, the highest byte, wherever a number can have it
abbrev longest_bytes : List ℕ
longest_bytes = 2 ∷ 7 ∷ 3 ∷ 0 ∷ 255 ∷ 255 ∷ 255 ∷ 255 ∷ 0 ∷ 0 ∷ 0 ∷ 0 ∷ 255 ∷ 255 ∷ 255 ∷ 255 ∷ []

abbrev widest_bytes : List ℕ
widest_bytes = 4 ∷ 8 ∷ 2 ∷ 3 ∷ 255 ∷ 255 ∷ 255 ∷ 255 ∷ 255 ∷ 255 ∷ 255 ∷ 255 ∷ 0 ∷ 0 ∷ 0 ∷ 0 ∷ []

longest_said : coded_in longest_bytes ≡ Some longest
unfolding coded_of
longest_said = refl

widest_said : coded_in widest_bytes ≡ Some widest
unfolding coded_of
widest_said = refl

-- bytes of 255
pub longest_stored : (old : List ℕ) → stored_record longest old ≡ answer wrote longest_bytes
longest_stored old = parsed_stored longest_bytes old longest (bytes longest_bytes refl) longest_said

pub widest_stored : (old : List ℕ) → stored_record widest old ≡ answer wrote widest_bytes
widest_stored old = parsed_stored widest_bytes old widest (bytes widest_bytes refl) widest_said

pub longest_one_record : longest_bytes ≡ longest_bytes
longest_one_record = one_record longest_bytes longest_bytes longest (bytes longest_bytes refl) (bytes longest_bytes refl) longest_said longest_said
