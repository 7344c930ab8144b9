-- `count_met_ones` meets its contract. The loop's invariant: the ones below place i are counted.
use Rattle.std.proofs.Common.{◌≤◌, ◌≡◌}
use Rattle.condensed.specs.Condensed.{front_bit, ones_below}
use Rattle.condensed.proofs.count_met_ones.Given as goal

abbrev pub invariant-loop-i : goal.invariant-loop-i
invariant-loop-i l = (l.count ≤ l.i) × (l.count ≡ ones_below (front_bit l.bit_mask l.field_bytes.0) l.i)
