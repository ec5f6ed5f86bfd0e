use Rattle.std.proofs.Common.{◌≡◌, ◌-◌, length}
use Rattle.machine.specs.States.{table_in}
use Rattle.model.specs.InOrder.{code_from}
use Rattle.model.specs.Sites.{mark_in}
use Rattle.machine.proofs.returns.site_of.Given as goal

abbrev pub invariant-loop-c : goal.invariant-loop-c
invariant-loop-c l = mark_in (code_from (table_in l.table) l.initial.c) l.function l.q ≡ mark_in (code_from (table_in l.table) l.c) l.function l.q

abbrev pub decreases-loop-c : goal.decreases-loop-c
decreases-loop-c l = length l.table.bytes.now - l.c
