use Rattle.std.proofs.Common.{sym, ◌∙◌}
use Rattle.machine.proofs.Step.store.Goals as goal

pub returns-clause-plans : goal.returns-clause-plans
returns-clause-plans c =
    let e = rw c.reg-i.ensures at (sym c.access_to.ensures.word ∙ c.in_ok-to.was) in
    simp (c.at.ensures, c.reg.ensures, c.reg-i.ensures, e)

pub returns-clause-lands : goal.returns-clause-lands
returns-clause-lands c = (rw c.in_ok-to.was at c.access_to.ensures.within).0
