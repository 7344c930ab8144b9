-- RULES 5.5, 5.6: the number in a length field, and where its data bytes are.
use Rattle.std.specs.Prelude.{ℕ, zero, suc, ◌+◌, ◌*◌, cond, ◌||◌, List, [], ◌∷◌, length, get_or, eqb, ltb, None, Option, Some}
use Rattle.kinds.specs.declared.types.ByteOrder.{ByteOrder}
use Rattle.kinds.specs.Types.{bytes_for}
use Rattle.kinds.specs.Slices.{saturating_sum, cut}
use Rattle.kinds.specs.declared.refusals.Refusal.TheVariants.{LengthFieldPastPayload, LengthFieldTooWide}
use Rattle.kinds.specs.Outcomes.{rule, first_among}
use Rattle.order.specs.Order.{ordered}
use Rattle.bits.specs.Bits.{bit_at, number}
use Rattle.kinds.specs.Answers.{Check}
use Rattle.kinds.specs.declared.types.ByteCount.{ByteCount}

-- n bytes f 0, f 1, .. as one number, big-endian
unfoldable pub big_endian : (ℕ → ℕ) → ℕ → ℕ
big_endian f zero = 0
big_endian f (suc n) = 256 * big_endian f n + f n

-- a length field is read as one, two, three, four, or five to eight bytes, and is too wide where it has more, or none
abbrev pub length_info : List ℕ → Option ByteCount
length_info xs = cond (eqb (length xs) 0 || ltb 8 (length xs)) None (Some (record { 0 = big_endian (λ j. get_or xs j 0) (length xs) }))

module _ (o : ByteOrder) (bits : ℕ) (payload : List ℕ) (at : ℕ) where
  -- the length field is ceil(bits/8) bytes, ordered
  abbrev pub length_field : List ℕ
  length_field = ordered o (cut at (bytes_for bits) payload)

  -- its lowest bits are the number of data bytes
  unfoldable pub leading_count : ℕ
  leading_count = number bits (bit_at length_field)

  -- which follow at the next byte edge
  abbrev pub leading_start : ℕ
  leading_start = saturating_sum at (bytes_for bits)

  abbrev pub leading_end : ℕ
  leading_end = saturating_sum leading_start leading_count

  -- 31, 32
  abbrev pub length_field_refusal : Check
  length_field_refusal =
      first_among
      (rule (ltb (length payload) leading_start) LengthFieldPastPayload
      ∷ rule (ltb 64 bits) LengthFieldTooWide
      ∷ [])
