use mathlib.Core.Path.{ap, ◌∙◌}
use native.Mathlib.Omega.{arith}
use Prim.Native.Nat.{ℕ, ◌*◌, ◌%◌, ◌^◌, ◌<◌}
use lib.Bits.{bit_xor}
use borrow.Author.Tests.{lt-ltb}
use Rattle.levels.proofs.Shifts.{put_shifted}
use Rattle.levels.proofs.Levels.with.Goals as goal

pub returns : goal.returns
returns c =
    let a = c.args in
    let l : a.i < 16 = omega (arith, c.if-i-ge16.false) in
    rw (lt-ltb a.i 16 l, c.from-k.ensures, c.from-old.ensures, c.from-new.ensures) (ap (λ (x : ℕ). bit_xor a.self.0 (bit_xor x (a.v % 4) * 2 ^ (2 * a.i) % 2 ^ 32)) c.level.ensures ∙ put_shifted a.self.0 a.i (a.v % 4) l (omega arith))
