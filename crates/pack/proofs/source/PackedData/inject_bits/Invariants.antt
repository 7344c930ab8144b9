-- `pack::PackedData::inject_bits` meets its contract. The loop's invariant: the first i bits are ORed in.
use Rattle.std.proofs.Common.{◌≡◌}
use Rattle.bits.specs.Moves.{injected}
use Rattle.masks.specs.Mask.{plain_of}
use Rattle.pack.specs.CodePacking.{packed_bits_under}
use Rattle.pack.proofs.source.PackedData.inject_bits.Given as goal

abbrev pub invariant-loop-i : goal.invariant-loop-i
invariant-loop-i l = l.dst_data ≡ injected l.i l.bit_pos (packed_bits_under (plain_of l.mask) l.self.packing l.self.data.bytes.now) l.initial.dst_data
