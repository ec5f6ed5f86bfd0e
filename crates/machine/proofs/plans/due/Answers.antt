use Rattle.std.proofs.Common.{arith}
use Rattle.machine.proofs.Planning.{due}
use Rattle.machine.proofs.plans.due.Goals as goal

pub returns : goal.returns
returns c = (c.decode.ensures, due c.args.sizes c.args.bytes.now c.args.place c.decode.ensures c.requires (λ i. omega (arith, c.type_inv.bytes i)))
