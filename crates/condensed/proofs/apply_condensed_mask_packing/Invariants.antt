-- `condensed::apply_condensed_mask_packing` meets its contract. The loop's invariant: the first bits of the source are ORed in.
use Rattle.std.proofs.Common.{◌≤◌, ◌≡◌}
use Rattle.bits.specs.Bits.{bit_at}
use Rattle.bits.specs.Moves.{injected}
use Rattle.condensed.specs.Condensed.{ones_below, replaced}
use Rattle.condensed.proofs.apply_condensed_mask_packing.Given as goal

abbrev pub invariant-loop-mask_bit_idx : goal.invariant-loop-mask_bit_idx
invariant-loop-mask_bit_idx l =
    (l.data_bit_idx ≤ l.mask_bit_idx) × (l.data_bit_idx ≡ ones_below (bit_at l.mask) l.mask_bit_idx) × (l.dst_data ≡ injected l.mask_bit_idx l.bit_pos (replaced l.mask l.data.bytes.now) l.initial.dst_data)
