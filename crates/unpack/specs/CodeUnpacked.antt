-- What is taken of a run of bits as the code has it; no part of RULES.
use Rattle.std.specs.Prelude.{ℕ, List}
use Rattle.order.specs.Order.{ordered}
use Rattle.bits.specs.declared.run.Run.{Run}
use Rattle.masks.specs.Mask.{Mask}
use Rattle.unpack.specs.Found.{Found}
use Rattle.unpack.specs.Unpacked.{unpacked, unpacked_found}

abbrev pub unpacked_run : Mask → Run → List ℕ
unpacked_run mask r = unpacked mask r.bit_len.0 r.bit_pos (ordered r.byte_order r.data.bytes.now)

abbrev pub run_found : Mask → Run → Found
run_found mask r = unpacked_found mask r.bit_len.0 r.bit_pos (ordered r.byte_order r.data.bytes.now)
