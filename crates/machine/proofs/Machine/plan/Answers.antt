use Rattle.std.proofs.Common.{sym, ◌∙◌}
use Rattle.reading.specs.theory.Limits.{read_limits}
use Rattle.machine.specs.States.{ctl_of}
use Rattle.machine.specs.Turns.{data_in}
use Rattle.machine.proofs.Planning.{step_got, step_bad}
use Rattle.machine.proofs.Machine.plan.Goals as goal

pub due-requires : goal.due-requires
due-requires c =
    let m = c.args.self.now in
    (read_limits m.table.now.bytes.now m.table.now.sizes m.reads).2

pub returns-in-Ok-clause-plans : goal.returns-in-Ok-clause-plans
returns-in-Ok-clause-plans c =
    let a = c.args in
    let k = a.self.now.table.now in
    c.by_record.ensures.plans ∙ sym (step_got k.sizes k.bytes.now (ctl_of a.state.now) a.dir (data_in a.self.now a.state.now) (sym c.due.ensures.0 ∙ c.in-Ok.is))

pub returns-in-Err-clause-plans : goal.returns-in-Err-clause-plans
returns-in-Err-clause-plans c =
    let a = c.args in
    let k = a.self.now.table.now in
    c.returning.ensures.plans ∙ sym (step_bad k.sizes k.bytes.now (ctl_of a.state.now) a.dir (data_in a.self.now a.state.now) (sym c.due.ensures.0 ∙ c.in-Err.is))
