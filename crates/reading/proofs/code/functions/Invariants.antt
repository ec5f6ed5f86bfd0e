use Rattle.std.proofs.Common.{◌≡◌, ◌-◌}
use Rattle.reading.specs.Reading.{functions_at}
use Rattle.reading.proofs.code.functions.Given as goal

-- the functions that are left decide
abbrev pub invariant-loop-i : goal.invariant-loop-i
invariant-loop-i l = functions_at l.table.sizes l.table.bytes.now (l.table.sizes.functions - l.i) l.at ≡ functions_at l.table.sizes l.table.bytes.now l.table.sizes.functions l.from
