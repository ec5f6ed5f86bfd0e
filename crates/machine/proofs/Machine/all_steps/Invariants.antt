-- The run's loop: what is left of the model's run from here on, with what was done so far, is the whole run
-- (`Going`). Each turn takes one directive, so that the directives left fall.
use Rattle.std.proofs.Common.{◌≡◌, ◌-◌, false, length, Ok}
use Rattle.reading.specs.Reading.{read_at}
use Rattle.model.specs.Machine.{start_ctl}
use Rattle.machine.specs.States.{words, table_in}
use Rattle.machine.specs.Turns.{Same, lent_in}
use Rattle.machine.proofs.Going.{Going}
use Rattle.machine.proofs.Machine.all_steps.Given as goal

abbrev pub invariant-turns : goal.invariant-turns
invariant-turns l =
    let a = l.fn.self in
    let k = a.table.now in
    Same a l.self
    × (e : read_at k.bytes.now ≡ Ok k.sizes)
    × Going k.bytes.now k.sizes e (start_ctl (table_in k) false) (words a.regs.now a.mem.now false) l.dirs a.obs.now l.s l.at l.steps (lent_in l.self)

abbrev pub decreases-turns : goal.decreases-turns
decreases-turns l = length l.dirs - l.at
