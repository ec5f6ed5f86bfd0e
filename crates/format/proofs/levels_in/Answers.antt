use Rattle.std.proofs.Common.{arith}
use mathlib.Core.Path.{sym, ◌∙◌}
use borrow.Author.Tests.{ne_eqb}
use Rattle.format.proofs.Laws.{levels_next}
use Rattle.format.proofs.levels_in.Goals as goal

pub loop-preserved : goal.loop-preserved
loop-preserved c =
    let l = c.loop in
    sym (levels_next c.args.n l.counter l.left (omega (arith, c.loop-test.true)) (ne_eqb _ _ c.if-left-eq3.false)) ∙ l.invariant
