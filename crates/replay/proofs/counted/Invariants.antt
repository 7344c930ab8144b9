-- Each turn counts one answer, so no count overflows.
use Rattle.std.proofs.Common.{◌≡◌, ◌+◌}
use Rattle.replay.proofs.counted.Given as goal

abbrev pub invariant-loop : goal.invariant-loop
invariant-loop g l = l.counts.same + l.counts.other ≡ l.counter
