use mathlib.Core.Path.{sym}
use native.Mathlib.Omega.{arith}
use Rattle.model.proofs.theory.Words.{slot_past}
use Rattle.levels.proofs.Shifts.{shifted_down}
use Rattle.levels.proofs.Levels.level.Goals as goal

pub returns-then-i-lt16 : goal.returns-then-i-lt16
returns-then-i-lt16 c = rw c.from-k.ensures (shifted_down c.args.self.0 c.args.i)

pub returns : goal.returns
returns c = sym (slot_past 16 c.args.self.0 c.args.i (omega arith) c.if-i-lt16.false)
