-- `condensed::gather_bits` meets its contract. The loop's invariant: the result holds what is gathered of the first i bits.
use Rattle.std.proofs.Common.{◌≤◌, ◌≡◌, length}
use Rattle.bits.specs.Bits.{packed}
use Rattle.bits.specs.CodeRuns.{bits_of_run}
use Rattle.condensed.specs.Condensed.{front_bit, gathered, bits_of}
use Rattle.condensed.proofs.gather_bits.Given as goal

abbrev pub invariant-loop-i : goal.invariant-loop-i
invariant-loop-i l =
    let gathered_yet = gathered (front_bit l.bit_mask l.field_bytes.0) (bits_of_run l.field) l.i in
    (l.count.0 ≤ l.i) × (l.count.0 ≡ length gathered_yet) × (l.result_bytes ≡ packed (length l.initial.result_bytes) (bits_of gathered_yet))
