use Rattle.std.specs.Prelude.{Ok}
use mathlib.Core.Path.{sym, ap, ◌∙◌}
use Rattle.model.specs.Packing.{env_of}
use Rattle.model.specs.Typing.{on_pass}
use Rattle.model.specs.Walk.{Ending}
use Rattle.model.specs.Levels.{Env}
use Rattle.typing.specs.Envs.{view_env}
use Rattle.typing.proofs.Turns.{handed, within_packed, block_fit, function_is, signed_in}
use Rattle.typing.proofs.walks.ReadTable.function.Goals as goal

pub block-requires : goal.block-requires
block-requires c = signed_in c.args.self.now c.args.g c.requires (c.from-into.ensures ∙ ap env_of c.in_of.ensures)

pub returns-in_err-end : goal.returns-in_err-end
returns-in_err-end c =
    let t = c.args.self.now.table in
    let b = function_is t.sizes t.bytes.now c.args.g c.start_of.ensures.0 (c.from-into.ensures ∙ ap env_of c.in_of.ensures) c.in_err-end.ensures in
    handed _ c.in_err-end.field-0.0 c.from_residual.ensures.1 ∙ ap (λ (w : Ending Env). on_pass w (Ok tt)) b

pub returns-then-not-within : goal.returns-then-not-within
returns-then-not-within c =
    let r = c.args.self.now in
    let into = c.from-into.ensures ∙ ap env_of c.in_of.ensures in
    let f = block_fit r 16 _ _ (signed_in r c.args.g c.requires into) c.in_ok-end.ensures in
    let v = within_packed r.table.sizes (view_env c.in_ok-end.end.env) _ f (r.signed c.args.g c.requires).1 (c.from-out.ensures ∙ ap env_of c.out_of.ensures) c.within.ensures c.if-not-within.true in
    rw (sym (function_is r.table.sizes r.table.bytes.now c.args.g c.start_of.ensures.0 into c.in_ok-end.ensures), v, c.at.ensures)

pub returns : goal.returns
returns c =
    let r = c.args.self.now in
    let into = c.from-into.ensures ∙ ap env_of c.in_of.ensures in
    let f = block_fit r 16 _ _ (signed_in r c.args.g c.requires into) c.in_ok-end.ensures in
    let v = within_packed r.table.sizes (view_env c.in_ok-end.end.env) _ f (r.signed c.args.g c.requires).1 (c.from-out.ensures ∙ ap env_of c.out_of.ensures) c.within.ensures c.if-not-within.false in
    rw (sym (function_is r.table.sizes r.table.bytes.now c.args.g c.start_of.ensures.0 into c.in_ok-end.ensures), v)
