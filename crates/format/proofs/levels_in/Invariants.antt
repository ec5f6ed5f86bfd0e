use Rattle.std.proofs.Common.{◌≡◌, ◌-◌}
use Rattle.model.specs.Packing.{levels_in}
use Rattle.format.proofs.levels_in.Given as goal

-- the slots that are left decide
abbrev pub invariant-loop : goal.invariant-loop
invariant-loop l = levels_in (l.n - l.counter) l.left ≡ levels_in l.n l.w
