use Rattle.std.proofs.Common.{length}
use Rattle.run_examples.proofs.cases.Given as goal

abbrev pub decreases-loop-s : goal.decreases-loop-s
decreases-loop-s l = length l.s
