-- `bits::extract_bits` meets its contract. The loop's invariant: the first bytes, as many as the index says, are those of the run.
use Rattle.std.proofs.Common.{◌≡◌, ◌≤◌, length}
use Rattle.bits.specs.Moves.{first}
use Rattle.bits.specs.CodeRuns.{bits_of_run}
use Rattle.bits.proofs.Written.{written}
use Rattle.bits.proofs.extract_bits.Given as goal

abbrev pub invariant-loop-index : goal.invariant-loop-index
invariant-loop-index l =
    (l.index ≤ length l.initial.result_bytes) × (l.index-end ≡ length l.initial.result_bytes) × (l.count ≡ length l.initial.result_bytes)
    × (l.result_bytes ≡ written l.initial.result_bytes (first l.run.bit_len.0 (bits_of_run l.run)) l.index)
