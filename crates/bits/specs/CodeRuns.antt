-- A run of bits as the code has it.
use Rattle.std.specs.Prelude.{ℕ, List}
use Rattle.order.specs.Order.{ordered}
use Rattle.bits.specs.Bits.{bit_at}
use Rattle.bits.specs.Moves.{from, extracted}
use Rattle.bits.specs.declared.run.Run.{Run}

-- its bits, from the lowest
abbrev pub bits_of_run : Run → ℕ → ℕ
bits_of_run r = from r.bit_pos (bit_at (ordered r.byte_order r.data.bytes.now))

-- taken out, right-aligned
abbrev pub extracted_run : Run → List ℕ
extracted_run r = extracted r.bit_len.0 r.bit_pos (ordered r.byte_order r.data.bytes.now)
