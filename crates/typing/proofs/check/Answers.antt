use mathlib.Core.Path.{sym}
use Rattle.typing.proofs.Ready.{ready_small, ready_signed, ready_short}
use Rattle.typing.proofs.check.Goals as goal

pub invariant_of-table : goal.invariant_of-table
invariant_of-table c =
    let e = sym c.in_ok-sizes.ensures in
    record { small = ready_small _ _ e; signed = ready_signed _ _ e; short = ready_short _ _ e }
