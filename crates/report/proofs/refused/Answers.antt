use Rattle.report.proofs.Written.{adds_both}
use Rattle.report.proofs.refused.Goals as goal

pub returns-clause-adds : goal.returns-clause-adds
returns-clause-adds c = adds_both _ _ _ _ _ c.text.ensures (adds_both _ _ _ _ _ (rw c.from.ensures at c.number.ensures.adds) (adds_both _ _ _ _ _ c.text-2.ensures (adds_both _ _ _ _ _ c.number-2.ensures.adds c.text-3.ensures)))
