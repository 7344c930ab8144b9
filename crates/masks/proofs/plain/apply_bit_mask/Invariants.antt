-- `masks::apply_bit_mask` meets its contract. The loop's invariant: the first i bits are masked.
use Rattle.std.proofs.Common.{◌≡◌}
use Rattle.masks.specs.Plain.{masked}
use Rattle.masks.proofs.plain.apply_bit_mask.Given as goal

abbrev pub invariant-loop-i : goal.invariant-loop-i
invariant-loop-i l = l.data ≡ masked l.kept l.i l.bit_pos l.mask l.initial.data
