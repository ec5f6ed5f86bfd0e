use Rattle.std.proofs.Common.{arith}
use mathlib.Core.Path.{sym, ◌∙◌}
use Rattle.head.proofs.Laws.{arrays_next}
use Rattle.head.proofs.arrays.Goals as goal

pub loop-preserved : goal.loop-preserved
loop-preserved c =
    let l = c.loop in
    sym (arrays_next c.args.t.now c.args.n l.counter l.at _ (omega (arith, c.loop-test.true)) (sym c.array.ensures ∙ c.in_ok-at.was)) ∙ l.invariant
