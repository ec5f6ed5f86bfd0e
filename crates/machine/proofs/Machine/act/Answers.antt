use Rattle.machine.specs.Turns.{lent_in, table_of_machine}
use Rattle.machine.proofs.Stepping.{room_for}
use Rattle.machine.proofs.Machine.act.Goals as goal

pub moved-after-requires : goal.moved-after-requires
moved-after-requires c =
    let m = c.args.self.now in
    room_for (table_of_machine m) c.args.s.now c.args.dir (lent_in m) c.in_ok-plan.plan c.in_ok-plan.ensures.plans c.requires
