use Rattle.std.proofs.Common.{take}
use Rattle.report.specs.Added.{Adds}
use Rattle.report.proofs.text.Line.text.Given as goal

abbrev pub invariant-loop-byte : goal.invariant-loop-byte
invariant-loop-byte l = Adds l.initial.self (take l.byte-index l.text) l.self
