-- What is written of a variant's packed source is what is written of its source.
use Rattle.std.proofs.Common.{◌&&◌, ◌≡◌, List, ℕ, ◌+◌, ◌*◌, ◌^◌, ◌≤◌, length, take, ltb, leb, ltb-false}
use Rattle.kinds.specs.declared.types.DataType.{DataType}
use Rattle.kinds.specs.declared.types.ByteOrder.{ByteOrder}
use Rattle.kinds.specs.declared.refusals.Refusal.TheVariants.{LengthFieldTooWide, CountTooLarge}
use Rattle.kinds.specs.Types.{is_byte_type, bytes_for}
use Rattle.kinds.specs.Answers.{passed}
use Rattle.kinds.proofs.Outcomes.{rule_passed}
use Rattle.masks.specs.Mask.{Mask, no_mask}
use Rattle.pack.specs.Source.{bytes_source, standard_source, behind_length, terminated}
use Rattle.pack.specs.CodePacking.{packed_source, framing, packing}
use Rattle.pack.proofs.Sources.{standard_alike, leading_alike, terminated_alike}
use Rattle.payload.specs.Payload.{Payload}
use Rattle.payload.specs.Writing.{writing}
use Rattle.payload.proofs.Likeness.{writing_alike}
use Rattle.lengths.specs.Refusals.{count_refusal}

module _ (o : ByteOrder) (input : List ℕ) (p : Payload) (at pos : ℕ) where
  pub standard_shown : (t : DataType) (len : ℕ) (mask : Mask)
      → writing o (packed_source (packing mask (is_byte_type t) len (length input)) mask (take (packing mask (is_byte_type t) len (length input)).data_len.0 input)) p at pos
      ≡ writing o (standard_source t len mask input) p at pos
  standard_shown t len mask = writing_alike o _ _ (standard_alike t len mask input) p at pos

  -- a length field that is not refused is no wider than a count
  no_wider : (bits : ℕ) → count_refusal bits (length input) ≡ passed → bits ≤ 64
  no_wider bits z =
      let holds = rule_passed (ltb bits 64 && leb (2 ^ bits) (length input)) CountTooLarge _ z in
      ltb-false 64 bits (rule_passed (ltb 64 bits) LengthFieldTooWide _ holds.1).0

  pub leading_shown : (bits : ℕ) → count_refusal bits (length input) ≡ passed
      → writing o (packed_source (framing (8 * (bytes_for bits + length input)) (length input) (length input) 0 0) no_mask input) p at pos
      ≡ writing o (bytes_source (behind_length bits input)) p at pos
  leading_shown bits z = writing_alike o _ _ (leading_alike bits input (no_wider bits z)) p at pos

  pub terminated_shown : (n x : ℕ)
      → writing o (packed_source (framing (8 * (length input + n)) 0 (length input) x n) no_mask input) p at pos
      ≡ writing o (bytes_source (terminated input n x)) p at pos
  terminated_shown n x = writing_alike o _ _ (terminated_alike input n x) p at pos
