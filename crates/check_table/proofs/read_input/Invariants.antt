use Rattle.std.proofs.Common.{◌≤◌, length, ◌-◌}
use Rattle.check_table.proofs.read_input.Given as goal

abbrev pub invariant-loop-n : goal.invariant-loop-n
invariant-loop-n l = l.n ≤ length l.space

abbrev pub decreases-loop-n : goal.decreases-loop-n
decreases-loop-n l = length l.space - l.n
