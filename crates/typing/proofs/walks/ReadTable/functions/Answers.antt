use mathlib.Core.Path.{sym, ◌∙◌}
use Rattle.typing.proofs.Turns.{handed, functions_next, functions_fault, functions_end}
use Rattle.typing.proofs.walks.ReadTable.functions.Goals as goal

pub loop-g-preserved : goal.loop-g-preserved
loop-g-preserved c = c.loop-g.invariant ∙ functions_next c.args.self.now c.loop-g.g c.loop-g-test.true c.in_ok-function.ensures

pub returns-in_err-function : goal.returns-in_err-function
returns-in_err-function c =
    handed _ c.in_err-function.field-0.0 c.from_residual.ensures.1
    ∙ sym (c.loop-g.invariant ∙ functions_fault c.args.self.now c.loop-g.g c.loop-g-test.true c.in_err-function.ensures)

pub returns : goal.returns
returns c = sym (c.loop-g.invariant ∙ functions_end c.args.self.now c.loop-g.g c.loop-g-test.false)
