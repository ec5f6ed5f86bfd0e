use Rattle.std.proofs.Common.{◌≡◌, ◌-◌}
use Rattle.format.specs.Head.{arrays_at}
use Rattle.head.proofs.arrays.Given as goal

-- what is left to read decides
abbrev pub invariant-loop : goal.invariant-loop
invariant-loop l = arrays_at l.t (l.n - l.counter) l.at ≡ arrays_at l.t l.n l.from
