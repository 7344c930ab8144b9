-- What came fits in the buffer.
use Rattle.std.proofs.Common.{◌≤◌, length}
use Rattle.stored_answers.proofs.filling.read_full.Given as goal

abbrev pub invariant-loop : goal.invariant-loop
invariant-loop g l = l.done ≤ length l.buffer
