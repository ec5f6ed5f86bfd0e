use native.Mathlib.Omega.{arith}
use mathlib.Core.Path.{ap, ◌∙◌}
use Rattle.model.specs.theory.Words.{join_words}
use Rattle.typing.proofs.Packed.{beside_public, beside_slots}
use Rattle.typing.proofs.rules.beside_levels.Goals as goal

pub returns-then-l-eq0 : goal.returns-then-l-eq0
returns-then-l-eq0 c = beside_public c.args.arrays.0 c.args.count c.args.l c.if-l-eq0.true

pub returns : goal.returns
returns c =
    let a = c.args in
    let p = c.requires in
    beside_slots a.arrays.0 a.count a.l (omega arith) p.0 p.1 c.if-l-eq0.false (c.join.ensures ∙ ap (join_words 16 a.arrays.0) c.transients.ensures)
