use native.Mathlib.Omega.{arith}
use mathlib.Core.Path.{◌∙◌}
use Rattle.model.specs.declared.Status.TheVariants.{Updated}
use Rattle.typing.proofs.Packed.{settle_slots}
use Rattle.typing.proofs.rules.after_init.Goals as goal

pub returns : goal.returns
returns c =
    let b = c.before in
    let regs = settle_slots b.args.e.registers.0 (omega arith) b.requires.0 c.settled-registers.ensures in
    let arrays = settle_slots b.args.e.arrays.0 (omega arith) b.requires.1 c.settled-arrays.ensures in
    c.env_from.ensures ∙ (λ i. record { status = Updated; regs = regs i; arrays = arrays i })
