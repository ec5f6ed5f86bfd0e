use Rattle.std.proofs.Common.{arith}
use Rattle.report.proofs.Written.{decimal_last, decimal_more, decimal_few, adds_both}
use Rattle.report.proofs.text.Line.+number.Goals.{then-n-ge10, else-n-ge10}
use Rattle.report.proofs.text.Line.+number.Goals as goal

pub returns-clause-adds : goal.returns-clause-adds
returns-clause-adds t c = elim c.if-n-ge10.branch [
  | then-n-ge10 w ↦ rw (decimal_more c.args.n (omega arith) (omega arith)) (adds_both _ _ _ _ _ w.number.ensures.adds (rw w.self-is at c.byte.ensures))
  | else-n-ge10 w ↦ rw (decimal_last c.args.n (omega arith)) (rw w.self-is at c.byte.ensures)
]

pub returns-clause-short : goal.returns-clause-short
returns-clause-short t c = omega (arith, decimal_few c.args.n, (returns-clause-adds t c).counted)
