use Rattle.std.proofs.Common.{refl, arith}
use Rattle.machine.proofs.Planning.{pushes}
use Rattle.machine.proofs.states.moved.Goals as goal

pub returns-in-Push : goal.returns-in-Push
returns-in-Push c =
    let room = c.requires c.in-Push.q c.in-Push.is in
    let s = c.args.s.now in
    rw (c.from.ensures, c.in-Push.is, pushes s.stack s.depth c.in-Push.q (omega arith)) (refl, refl, refl)
