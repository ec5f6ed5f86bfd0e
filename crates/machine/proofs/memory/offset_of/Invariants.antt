use Rattle.std.proofs.Common.{◌≡◌, ◌*◌, ◌≤◌}
use Rattle.machine.specs.States.{words_in}
use Rattle.model.specs.Memory.{offset_in}
use Rattle.machine.proofs.memory.offset_of.Given as goal

abbrev pub invariant-loop-b : goal.invariant-loop-b
invariant-loop-b l = (l.offset ≡ offset_in (words_in l.table) l.b) × (l.offset ≤ 65535 * l.b)
