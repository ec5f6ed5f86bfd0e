use Rattle.std.proofs.Common.{◌≡◌, ℕ}
use Rattle.format.specs.Layout.{start_of}
use Rattle.model.specs.Sites.{home_of}
use Rattle.machine.proofs.returns.home.Given as goal

abbrev pub invariant-loop-f : goal.invariant-loop-f
invariant-loop-f l =
    let start : ℕ → ℕ = start_of l.table.sizes l.table.bytes.now in
    home_of start l.f l.p ≡ home_of start l.table.sizes.functions l.p
