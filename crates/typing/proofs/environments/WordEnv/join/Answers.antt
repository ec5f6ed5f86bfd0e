use native.Mathlib.Omega.{arith}
use mathlib.Core.Path.{◌∙◌}
use Rattle.typing.proofs.Packed.{join_slots}
use Rattle.typing.proofs.environments.WordEnv.join.Goals as goal

pub returns : goal.returns
returns c =
    let a = c.args in
    let p = c.requires in
    let regs = join_slots a.self.registers.0 a.other.registers.0 (omega arith) (omega arith) p.0.0 p.1.0 c.join-registers.ensures in
    let arrays = join_slots a.self.arrays.0 a.other.arrays.0 (omega arith) (omega arith) p.0.1 p.1.1 c.join-arrays.ensures in
    c.env_from.ensures ∙ (λ i. record { status = c.join_status-status.ensures i; regs = regs i; arrays = arrays i })
