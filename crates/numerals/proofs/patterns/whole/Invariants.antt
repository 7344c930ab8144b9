-- The loop's invariant: the pattern is what the first j bytes make.
use Rattle.std.proofs.Common.{◌≤◌, ◌≡◌, length}
use Rattle.numerals.proofs.Bytes.{front}
use Rattle.numerals.proofs.patterns.whole.Given as goal

abbrev pub invariant-loop-byte : goal.invariant-loop-byte
invariant-loop-byte l = (l.byte-index ≤ length l.bytes) × (l.pattern ≡ front l.bytes l.byte-index)
