-- `order::reorder_pairs` meets its contract. The loop's invariant: the first i pairs are swapped.
use Rattle.std.proofs.Common.{◌≡◌}
use Rattle.order.proofs.Exchange.{swapped}
use Rattle.order.proofs.reorder_pairs.Given as goal

abbrev pub invariant-loop-i : goal.invariant-loop-i
invariant-loop-i l = l.data ≡ swapped l.i l.initial.data
