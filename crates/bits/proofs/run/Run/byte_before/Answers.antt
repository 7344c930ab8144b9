-- `Run::byte_before` meets its contract.
use Rattle.std.proofs.Common.{◌∙◌, arith}
use Rattle.bits.proofs.Windows.{eight_there}
use Rattle.bits.proofs.run.Run.byte_before.Goals as goal

pub returns-clause-value : goal.returns-clause-value
returns-clause-value c =
    c.from.ensures ∙ eight_there c.args.self.byte_order c.args.self.data.bytes.now c.args.behind c.ordered_byte.result (omega arith) c.ordered_byte.ensures (omega arith)
