-- How the code tells where the data bytes are behind a length field; no part of RULES.
use Rattle.std.specs.Prelude.{ℕ, ◌*◌, cond, List, length, ltb, Result, Ok, Err}
use Rattle.kinds.specs.declared.types.DataType.{DataType}
use Rattle.kinds.specs.declared.types.ByteOrder.{ByteOrder}
use Rattle.kinds.specs.declared.types.ByteCount.{ByteCount}
use Rattle.kinds.specs.declared.refusals.Refusal.{Refusal}
use Rattle.kinds.specs.declared.refusals.Refusal.TheVariants.{LengthFieldTooWide}
use Rattle.kinds.specs.Outcomes.{Outcome, gives, after, unless_short}
use Rattle.kinds.specs.CodePlaces.{Span, span}
use Rattle.kinds.specs.Refusals.{bit_length_refusal}
use Rattle.bits.specs.Bits.{bit_at, number}
use Rattle.length_field.specs.Leading.{leading_start, leading_count, leading_end, length_field_refusal}

-- how many data bytes a length field of so many bits says, of its ordered bytes
abbrev pub count_in : ℕ → List ℕ → Result ByteCount Refusal
count_in bits field = cond (ltb 64 bits) (Err LengthFieldTooWide) (Ok (record { 0 = number bits (bit_at field) }))

module _ (o : ByteOrder) (bits : ℕ) (payload : List ℕ) (at : ℕ) where
  -- 31, 32, 30 first
  abbrev pub data_place : Outcome Span
  data_place =
      let end = leading_end o bits payload at in
      after (length_field_refusal o bits payload at)
      (unless_short (ltb (length payload) end) end (length payload)
      (gives (span (leading_start o bits payload at) (8 * leading_count o bits payload at))))

  -- 21, 25 before them
  abbrev pub leading_place : DataType → Outcome Span
  leading_place t = after (bit_length_refusal t bits) data_place
