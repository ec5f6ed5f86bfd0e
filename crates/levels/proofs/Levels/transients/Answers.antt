use mathlib.Core.Path.{sym, ap, ◌∙◌}
use native.Mathlib.Omega.{arith}
use Prim.Native.Nat.{min}
use mathlib.Core.Path.{◌≡◌}
use Rattle.model.specs.theory.Words.{lows}
use Rattle.levels.proofs.Shifts.{lows_shifted}
use Rattle.levels.proofs.Levels.transients.Goals as goal

pub returns-then-n-ge16 : goal.returns-then-n-ge16
unfolding lows
returns-then-n-ge16 c = let e : min c.args.n 16 ≡ 16 = omega (arith, c.if-n-ge16.true) in sym (ap lows e)

pub returns : goal.returns
unfolding lows
returns c = let e : min c.args.n 16 ≡ c.args.n = omega (arith, c.if-n-ge16.false) in rw c.from-k.ensures (lows_shifted c.args.n (omega (arith, c.if-n-ge16.false)) ∙ sym (ap lows e))
