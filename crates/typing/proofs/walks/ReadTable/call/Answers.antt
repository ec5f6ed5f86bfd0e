use mathlib.Core.Path.{ap, ◌∙◌}
use Rattle.model.specs.Packing.{env_of}
use Rattle.model.specs.Levels.{Env}
use Rattle.model.specs.Rules.{returned}
use Rattle.model.specs.Walk.{Onward}
use Rattle.typing.specs.Envs.{view_env}
use Rattle.typing.proofs.Turns.{within_packed}
use Rattle.typing.proofs.walks.ReadTable.call.Goals as goal

pub returns-then-not-within : goal.returns-then-not-within
returns-then-not-within c =
    let a = c.args in
    let t = a.self.now in
    let w = within_packed t.table.sizes (view_env a.e) _ c.requires.1 (t.signed a.function c.requires.0).0 (c.from-into.ensures ∙ ap env_of c.in_of.ensures) c.within.ensures c.if-not-within.true in
    rw (w, c.at.ensures)

pub returns : goal.returns
returns c =
    let a = c.args in
    let t = a.self.now in
    let w = within_packed t.table.sizes (view_env a.e) _ c.requires.1 (t.signed a.function c.requires.0).0 (c.from-into.ensures ∙ ap env_of c.in_of.ensures) c.within.ensures c.if-not-within.false in
    rw (w, c.returned.ensures) (ap (λ (O : Env). Onward a.next (returned O a.mark (view_env a.e))) (c.from-out.ensures ∙ ap env_of c.out_of.ensures))
