use Rattle.std.proofs.Common.{◌∙◌}
use Rattle.machine.proofs.Step.load_fixed.Goals as goal

pub returns-clause-plans : goal.returns-clause-plans
returns-clause-plans c = c.plain.ensures.plans ∙ simp (c.at.ensures, c.word_at-value.ensures, c.from.ensures, c.from-2.ensures)
