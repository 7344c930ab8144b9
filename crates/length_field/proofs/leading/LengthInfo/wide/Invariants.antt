-- `length_field::wide` meets its contract. The loop's invariant: len is what the first j bytes make, and fits them.
use Rattle.std.proofs.Common.{◌*◌, ◌^◌, ◌<◌, ◌≡◌, get_or}
use Rattle.order.specs.Order.{ordered}
use Rattle.length_field.specs.Leading.{big_endian}
use Rattle.length_field.proofs.leading.LengthInfo.wide.Given as goal

abbrev pub invariant-loop-j : goal.invariant-loop-j
invariant-loop-j l =
    (l.len < 2 ^ (8 * l.j)) × (l.len ≡ big_endian (λ i. get_or (ordered l.self.byte_order l.self.bytes.now) i 0) l.j)
