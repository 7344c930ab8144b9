-- `condensed::ones_in` meets its contract.
use Rattle.std.proofs.Common.{sym, ap, ◌∙◌, ℕ, ◌+◌, ◌≤◌, arith, slice_index_or}
use Rattle.std.proofs.lemmas.List.Sums.{sum_by_more}
use lib.Count.{ones, ones-le}
use Rattle.condensed.proofs.ones_in.Goals as goal

pub loop-byte-preserved : goal.loop-byte-preserved
loop-byte-preserved c =
    let i = c.loop-byte.byte-index in
    let few : ones (slice_index_or c.args.bytes.now i 0) ≤ 8 = ones-le 8 _ (c.type_inv.bytes i).fits in (
      ap (λ (n : ℕ). n + ones (slice_index_or c.args.bytes.now i 0)) c.loop-byte.invariant.0 ∙ sym (sum_by_more ones c.args.bytes.now i 0 (omega arith)),
      omega arith,
    )
