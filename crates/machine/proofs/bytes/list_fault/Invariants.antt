use Rattle.std.proofs.Common.{◌≡◌, ℕ, ◌-◌, ◌≤◌, length}
use Rattle.machine.specs.Directives.{list_from}
use Rattle.machine.proofs.bytes.list_fault.Given as goal

abbrev pub invariant-loop-at : goal.invariant-loop-at
invariant-loop-at l = (l.at ≤ length l.d) × (k : ℕ) × (length l.d - l.at ≤ k) × (list_from (length l.d) l.d 0 ≡ list_from k l.d l.at)

abbrev pub decreases-loop-at : goal.decreases-loop-at
decreases-loop-at l = length l.d - l.at
