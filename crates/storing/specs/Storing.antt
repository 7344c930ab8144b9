-- RULES 9.5: the record of a coded type.
use Rattle.std.specs.Prelude.{ℕ, ◌+◌, ◌*◌, ◌/◌, ◌%◌, Bool, false, cond, List, [], ◌∷◌, ltb}
use Rattle.kinds.specs.declared.refusals.Refusal.TheVariants.{MalformedRecord}
use Rattle.kinds.specs.Answers.{wrote}
use Rattle.kinds.specs.Outcomes.{rule, first_among, gives, after, Answer, answer, concluded}
use Rattle.kinds.specs.Types.{type_code_of}
use Rattle.coded.specs.declared.variants.Place.{Place}
use Rattle.coded.specs.declared.variants.MinMaxLengthType.{MinMaxLengthType}
use Rattle.coded.specs.declared.variants.StandardLengthType.{StandardLengthType}
use Rattle.coded.specs.declared.variants.DiagCodedTypeVariant.{DiagCodedTypeVariant}
use Rattle.coded.specs.declared.variants.DiagCodedTypeVariant.TheVariants.{LeadingLengthInfo, MinMaxLength, StandardLength, ParamLengthInfo}
use Rattle.coded.specs.declared.coded_type.DiagCodedType.{DiagCodedType}
use Rattle.record.specs.declared.numbers.Flags.{Flags}
use Rattle.record.specs.declared.numbers.Numbers.{Numbers}
use Rattle.std.specs.Prelude.{is_some, unwrap_or}
use Rattle.coded.specs.RecordCodes.{termination_code}
use Rattle.kinds.specs.Answers.{Check}

-- what a variant lacks is 0
abbrev pub nowhere : Place
nowhere = record { at = 0; len = record { 0 = 0 } }

abbrev pub flags : Bool → Bool → Bool → Bool → Flags
flags high_low mask condensed max = record { high_low = high_low; mask = mask; condensed = condensed; max = max; others = 0 }

module _ (code : ℕ) (high_low : Bool) where
  -- of a variant with neither a mask nor limits
  abbrev pub plain_numbers : ℕ → ℕ → Place → Numbers
  plain_numbers variant length place =
      record {
        type_code = code;
        flags = flags high_low false false false;
        variant = variant;
        termination = 0;
        length = length;
        most = 0;
        place = place;
      }

  abbrev pub min_max_numbers : MinMaxLengthType → Numbers
  min_max_numbers m =
      record {
        type_code = code;
        flags = flags high_low false false (is_some m.max_length);
        variant = 2;
        termination = termination_code m.termination;
        length = m.min_length;
        most = unwrap_or m.max_length 0;
        place = nowhere;
      }

  abbrev pub standard_numbers : StandardLengthType → Numbers
  standard_numbers s =
      record {
        type_code = code;
        flags = flags high_low (is_some s.bit_mask) s.condensed false;
        variant = 3;
        termination = 0;
        length = s.bit_length.0;
        most = 0;
        place = unwrap_or s.bit_mask nowhere;
      }

  abbrev pub variant_numbers : DiagCodedTypeVariant → Numbers
  variant_numbers (LeadingLengthInfo bits) = plain_numbers 1 bits.0 nowhere
  variant_numbers (MinMaxLength m) = min_max_numbers m
  variant_numbers (StandardLength s) = standard_numbers s
  variant_numbers (ParamLengthInfo name) = plain_numbers 4 0 name

abbrev pub numbers_for : DiagCodedType → Numbers
numbers_for t = variant_numbers (type_code_of t.base_datatype) t.is_high_low_byte_order t.type_

abbrev pub flag : Bool → ℕ → ℕ
flag set value = cond set value 0

abbrev pub flags_byte : Flags → ℕ
flags_byte f = flag f.high_low 1 + flag f.mask 2 + flag f.condensed 4 + flag f.max 8 + 16 * f.others

-- the byte of a number that counts so much
abbrev pub digit : ℕ → ℕ → ℕ
digit n weight = n / weight % 256

-- big-endian, in 16 bytes
abbrev pub bytes_of : Numbers → List ℕ
bytes_of n =
    n.type_code ∷ flags_byte n.flags ∷ n.variant ∷ n.termination
    ∷ digit n.length 16777216 ∷ digit n.length 65536 ∷ digit n.length 256 ∷ digit n.length 1
    ∷ digit n.most 16777216 ∷ digit n.most 65536 ∷ digit n.most 256 ∷ digit n.most 1
    ∷ digit n.place.at 256 ∷ digit n.place.at 1
    ∷ digit n.place.len.0 256 ∷ digit n.place.len.0 1
    ∷ []

-- 42: a place or a length that 16 bits cannot say
abbrev pub storing_refusal : Place → Check
storing_refusal p = first_among (rule (ltb 65535 p.at) MalformedRecord ∷ rule (ltb 65535 p.len.0) MalformedRecord ∷ [])

-- the record of a coded type; a refusal leaves the old bytes
unfoldable pub stored_record : DiagCodedType → List ℕ → Answer (List ℕ)
stored_record t old = concluded old (answer wrote) (after (storing_refusal (numbers_for t).place) (gives (bytes_of (numbers_for t))))
