-- `condensed::ones_in` meets its contract. The loop's invariant: the ones of the first bytes are counted, at most eight for each.
use Rattle.std.proofs.Common.{◌≡◌, ◌*◌, ◌≤◌, take, sum_by}
use Rattle.std.specs.Int.Count.{ones}
use Rattle.condensed.proofs.ones_in.Given as goal

abbrev pub invariant-loop-byte : goal.invariant-loop-byte
invariant-loop-byte l = (l.total ≡ sum_by ones (take l.byte-index l.bytes)) × (l.total ≤ 8 * l.byte-index)
