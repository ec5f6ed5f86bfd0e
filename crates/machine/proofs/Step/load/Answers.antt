use Rattle.std.proofs.Common.{sym, ◌∙◌}
use Rattle.machine.proofs.Step.load.Goals as goal

pub returns-clause-plans : goal.returns-clause-plans
returns-clause-plans c =
    let e = rw c.reg-i.ensures at (sym c.access_to.ensures.word ∙ c.in_ok-from.was) in
    simp (c.at.ensures, c.word_at.ensures, c.reg-i.ensures, e)
