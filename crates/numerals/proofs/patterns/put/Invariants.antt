-- The loop's invariant: the first bytes, as many as the index says, are those of the number.
use Rattle.std.proofs.Common.{◌≤◌, ◌≡◌, length}
use Rattle.numerals.proofs.Bytes.{written}
use Rattle.numerals.proofs.patterns.put.Given as goal

abbrev pub invariant-loop-index : goal.invariant-loop-index
invariant-loop-index l =
    (l.index ≤ length l.initial.bytes) × (l.index-end ≡ length l.initial.bytes) × (l.count ≡ length l.initial.bytes) × (l.bytes ≡ written l.initial.bytes l.pattern l.index)
