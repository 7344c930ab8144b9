-- `condensed::ones_up_to` meets its contract. The loop's invariant: the ones of the first bytes are counted, up to the most.
use Rattle.std.proofs.Common.{◌≡◌, min, take, sum_by}
use Rattle.std.specs.Int.Count.{ones}
use Rattle.condensed.proofs.ones_up_to.Given as goal

abbrev pub invariant-loop-byte : goal.invariant-loop-byte
invariant-loop-byte l = l.count ≡ min l.most.0 (sum_by ones (take l.byte-index l.mask))
