-- The typing walk's cycle meets its contracts: the readers' cycle once more, with the environment carried along. What
-- falls at each call is the nesting that is left; in the block's loop it is the bytes left. The loop's invariant says
-- that the model's walk from the start is its walk from here on. That the environments keep to their slots (`Fit`) is
-- what the packed words ask, and is handed on from record to record.
use Prim.Native.Nat.{ℕ, suc, ◌≤◌, ◌+◌, ◌-◌}
use native.Mathlib.Omega.{arith}
use mathlib.Core.Bool.{true, false}
use mathlib.Core.Path.{refl, sym, ap, subst, ◌∙◌}
use lib.ListN.{length}
use borrow.Author.Rules.{rules}
use Rattle.model.specs.Levels.{Env}
use Rattle.model.specs.Packing.{env_of}
use Rattle.model.specs.Records.{Fits, Keeps, Closes}
use Rattle.model.specs.Rules.{guarded}
use Rattle.model.specs.Walk.{Onward}
use Rattle.model.proofs.theory.Whole.{no_threes, packed_whole}
use Rattle.format.specs.Layout.{record_fits, record_keeps}
use Rattle.typing.specs.Walks.{view_walk, view_end, simple_walk, call_walk}
use Rattle.typing.specs.Envs.{view_env}
use Rattle.typing.proofs.Turns.{handed, arrived, arrived_at_fault, guarded_fit, within_packed, closes, closed_at, record_is, kind_at, next_at, if_first, if_second, while_body, next_fit, block_fit, shut_near, next_ok, turn_next, turn_shut, turn_fault}
use Rattle.typing.proofs.walks.ReadTable.+block_branch_one_repeat.Goals as goal

pub block-loop-w-init : goal.block-loop-w-init
block-loop-w-init m c = (suc (length c.args.self.now.table.bytes.now), omega arith, c.requires, refl)

pub block-loop-w-smaller : goal.block-loop-w-smaller
block-loop-w-smaller m c =
    let L = c.loop-w in
    let t = c.args.self.now.table in
    let e = sym (arrived _ c.in_ok-w.ensures c.in-Next.is) in
    let o = next_ok t.sizes t.bytes.now c.args.depth L.at (view_env L.e) e in
    omega (arith, o.0, o.1)

pub block-loop-w-preserved : goal.block-loop-w-preserved
block-loop-w-preserved m c =
    let a = c.args in
    let L = c.loop-w in
    let t = a.self.now.table in
    let e = sym (arrived _ c.in_ok-w.ensures c.in-Next.is) in
    let n = turn_next t.sizes t.bytes.now a.depth L.invariant.0 L.at (view_env L.e) e L.invariant.1 in
    (n.0, n.1, next_fit a.self.now a.depth L.at (view_env L.e) L.invariant.2 e, L.invariant.3 ∙ n.2)

pub block-returns-in-Shut : goal.block-returns-in-Shut
block-returns-in-Shut m c =
    let L = c.loop-w in
    let t = c.args.self.now.table in
    let e = sym (arrived _ c.in_ok-w.ensures c.in-Shut.is) in
    sym (L.invariant.3 ∙ turn_shut t.sizes t.bytes.now c.args.depth L.invariant.0 L.at (view_env L.e) e L.invariant.1)

pub block-returns-in_err-w : goal.block-returns-in_err-w
block-returns-in_err-w m c =
    let L = c.loop-w in
    let t = c.args.self.now.table in
    ap view_end (handed _ c.in_err-w.field-0.0 c.from_residual.ensures.1)
    ∙ sym (L.invariant.3 ∙ turn_fault t.sizes t.bytes.now c.args.depth L.invariant.0 L.at (view_env L.e) (sym (arrived_at_fault c.in_err-w.ensures)) L.invariant.1)

pub branch-overflow_add-first : goal.branch-overflow_add-first
branch-overflow_add-first m c =
    let a = c.args in
    let t = a.self.now.table in
    let l = a.self.now.short in
    let s = shut_near t.sizes t.bytes.now (a.depth - 1) _ (a.at + 4) _ c.in_ok-first.ensures in
    let u : c.in_ok-first.first.place ≤ 200000 = omega (arith, s, l) in
    search rules

pub branch-overflow_add-result : goal.branch-overflow_add-result
branch-overflow_add-result m c =
    let a = c.args in
    let t = a.self.now.table in
    let l = a.self.now.short in
    let s = shut_near t.sizes t.bytes.now (a.depth - 1) _ (a.at + 4) _ c.in_ok-first.ensures in
    let n = shut_near t.sizes t.bytes.now (a.depth - 1) _ (c.in_ok-first.first.place + 3) _ c.in_ok-second.ensures in
    let u : c.in_ok-second.second.place ≤ 300000 = omega (arith, s, n, l) in
    search rules

pub branch-join-requires : goal.branch-join-requires
branch-join-requires m c =
    let a = c.args in
    let r = a.self.now in
    let f = block_fit r (a.depth - 1) (a.at + 4) _ (guarded_fit r.table.sizes (view_env a.e) a.register true c.requires.1 c.guarded.ensures) c.in_ok-first.ensures in
    let g = block_fit r (a.depth - 1) (c.in_ok-first.first.place + 3) _ (guarded_fit r.table.sizes (view_env a.e) a.register false c.requires.1 c.guarded-2.ensures) c.in_ok-second.ensures in
    (no_threes _ _ _ f, no_threes _ _ _ g)

pub branch-returns-in_err-first : goal.branch-returns-in_err-first
branch-returns-in_err-first m c =
    let a = c.args in
    ap view_walk (handed _ c.in_err-first.field-0.0 c.from_residual.ensures.1)
    ∙ if_first a.self.now a.depth a.at a.register (view_env a.e) c.is_public.ensures c.if-not-is_public.false c.if-depth-eq0.false c.guarded.ensures c.in_err-first.ensures

pub branch-returns-in_err-second : goal.branch-returns-in_err-second
branch-returns-in_err-second m c =
    let a = c.args in
    ap view_walk (handed _ c.in_err-second.field-0.0 c.from_residual-in_err-second.ensures.1)
    ∙ if_second a.self.now a.depth a.register (view_env a.e) c.in_ok-first.first.place (view_env c.in_ok-first.first.env) c.guarded-2.ensures c.in_err-second.ensures
    ∙ if_first a.self.now a.depth a.at a.register (view_env a.e) c.is_public.ensures c.if-not-is_public.false c.if-depth-eq0.false c.guarded.ensures c.in_ok-first.ensures

pub branch-returns : goal.branch-returns
branch-returns m c =
    let a = c.args in
    ap (Onward (c.in_ok-second.second.place + 1)) c.join.ensures
    ∙ if_second a.self.now a.depth a.register (view_env a.e) c.in_ok-first.first.place (view_env c.in_ok-first.first.env) c.guarded-2.ensures c.in_ok-second.ensures
    ∙ if_first a.self.now a.depth a.at a.register (view_env a.e) c.is_public.ensures c.if-not-is_public.false c.if-depth-eq0.false c.guarded.ensures c.in_ok-first.ensures

pub repeat-overflow_add-result : goal.repeat-overflow_add-result
repeat-overflow_add-result m c =
    let a = c.args in
    let t = a.self.now.table in
    let l = a.self.now.short in
    let s = shut_near t.sizes t.bytes.now (a.depth - 1) _ (a.at + 11) _ c.in_ok-body.ensures in
    let u : c.in_ok-body.body.place ≤ 200000 = omega (arith, s, l) in
    search rules

pub repeat-returns-in_err-body : goal.repeat-returns-in_err-body
repeat-returns-in_err-body m c =
    let a = c.args in
    ap view_walk (handed _ c.in_err-body.field-0.0 c.from_residual.ensures.1)
    ∙ while_body a.self.now a.depth a.at a.register a.packed (view_env a.e) c.requires.2 c.from-kept.ensures c.guarded.ensures c.requires.1 c.within.ensures c.if-not-within.false c.is_public.ensures c.if-not-is_public.false c.if-depth-eq0.false c.in_err-body.ensures

pub repeat-returns-then-not-within-2 : goal.repeat-returns-then-not-within-2
repeat-returns-then-not-within-2 m c =
    let a = c.args in
    let z = a.self.now.table.sizes in
    let w = while_body a.self.now a.depth a.at a.register a.packed (view_env a.e) c.requires.2 c.from-kept.ensures c.guarded.ensures c.requires.1 c.within.ensures c.if-not-within.false c.is_public.ensures c.if-not-is_public.false c.if-depth-eq0.false c.in_ok-body.ensures in
    let g = guarded_fit z (env_of a.packed) a.register true c.requires.2 (c.guarded.ensures ∙ ap (λ (E : Env). guarded E a.register true) c.from-kept.ensures) in
    let f = block_fit a.self.now (a.depth - 1) (a.at + 11) _ g c.in_ok-body.ensures in
    let v = within_packed z (view_env c.in_ok-body.body.env) a.packed f c.requires.2 c.from-kept.ensures c.within-2.ensures c.if-not-within-2.true in
    rw (sym w, v, c.at-then-not-within-2.ensures)

pub repeat-returns : goal.repeat-returns
repeat-returns m c =
    let a = c.args in
    let z = a.self.now.table.sizes in
    let w = while_body a.self.now a.depth a.at a.register a.packed (view_env a.e) c.requires.2 c.from-kept.ensures c.guarded.ensures c.requires.1 c.within.ensures c.if-not-within.false c.is_public.ensures c.if-not-is_public.false c.if-depth-eq0.false c.in_ok-body.ensures in
    let g = guarded_fit z (env_of a.packed) a.register true c.requires.2 (c.guarded.ensures ∙ ap (λ (E : Env). guarded E a.register true) c.from-kept.ensures) in
    let f = block_fit a.self.now (a.depth - 1) (a.at + 11) _ g c.in_ok-body.ensures in
    let v = within_packed z (view_env c.in_ok-body.body.env) a.packed f c.requires.2 c.from-kept.ensures c.within-2.ensures c.if-not-within-2.false in
    rw (sym w, v) (ap (Onward (c.in_ok-body.body.place + 3)) (c.guarded-2.ensures ∙ ap (λ (E : Env). guarded E a.register false) c.from-kept.ensures))

pub one-simple-requires : goal.one-simple-requires
one-simple-requires m c =
    let r = c.args.self.now in
    let i = kind_at r c.args.at c.decode.ensures c.unwrap_or-record.ensures c.in-Do.is in
    (subst (Fits r.table.sizes.registers r.table.sizes.arrays) i (record_fits r.table.sizes r.table.bytes.now c.args.at), no_threes _ _ _ c.requires)

pub one-call-requires : goal.one-call-requires
one-call-requires m c =
    let r = c.args.self.now in
    let z = r.table.sizes in
    let i = kind_at r c.args.at c.decode.ensures c.unwrap_or-record.ensures c.in-Call.is in
    (subst (Keeps z.registers z.arrays z.functions) i (record_keeps z r.table.bytes.now c.args.at), c.requires)

pub one-branch-self-requires : goal.one-branch-self-requires
one-branch-self-requires m c =
    let d = c.decreases in
    let n = next_at c.args.self.now c.args.at c.decode.ensures c.unwrap_or-record.ensures c.in-If.is (λ x. x) in
    (omega arith, (n.1, c.requires))

pub one-repeat-requires : goal.one-repeat-requires
one-repeat-requires m c =
    let r = c.args.self.now in
    let z = r.table.sizes in
    let d = c.decreases in
    let i = kind_at r c.args.at c.decode.ensures c.unwrap_or-record.ensures c.in-While.is in
    let n = next_at r c.args.at c.decode.ensures c.unwrap_or-record.ensures c.in-While.is (λ x. x) in
    (omega arith, (n.1, c.requires, packed_whole _ _ _ (subst (Keeps z.registers z.arrays z.functions) i (record_keeps z r.table.bytes.now c.args.at))))

pub one-returns-in-Do : goal.one-returns-in-Do
one-returns-in-Do m c =
    let a = c.args in
    let t = a.self.now.table in
    let i = kind_at a.self.now a.at c.decode.ensures c.unwrap_or-record.ensures c.in-Do.is in
    let n = next_at a.self.now a.at c.decode.ensures c.unwrap_or-record.ensures c.in-Do.is (λ x. x) in
    c.simple.ensures ∙ ap (λ (n : ℕ). simple_walk a.self.now.table.sizes c.in-Do.s a.at n (view_env a.e)) n.0 ∙ record_is t.sizes t.bytes.now a.depth a.at (view_env a.e) i

pub one-returns-in-Call : goal.one-returns-in-Call
one-returns-in-Call m c =
    let a = c.args in
    let t = a.self.now.table in
    let i = kind_at a.self.now a.at c.decode.ensures c.unwrap_or-record.ensures c.in-Call.is in
    let n = next_at a.self.now a.at c.decode.ensures c.unwrap_or-record.ensures c.in-Call.is (λ x. x) in
    c.call.ensures
    ∙ ap (λ (n : ℕ). call_walk a.self.now.table.sizes a.self.now.table.bytes.now c.in-Call.function c.in-Call.mark a.at n (view_env a.e)) n.0
    ∙ record_is t.sizes t.bytes.now a.depth a.at (view_env a.e) i

pub one-returns-in-If : goal.one-returns-in-If
one-returns-in-If m c =
    let a = c.args in
    let t = a.self.now.table in
    c.branch-self.ensures ∙ record_is t.sizes t.bytes.now a.depth a.at (view_env a.e) (kind_at a.self.now a.at c.decode.ensures c.unwrap_or-record.ensures c.in-If.is)

pub one-returns-in-While : goal.one-returns-in-While
one-returns-in-While m c =
    let a = c.args in
    let t = a.self.now.table in
    c.repeat.ensures ∙ record_is t.sizes t.bytes.now a.depth a.at (view_env a.e) (kind_at a.self.now a.at c.decode.ensures c.unwrap_or-record.ensures c.in-While.is)

pub one-returns-in-Else : goal.one-returns-in-Else
one-returns-in-Else m c =
    let a = c.args in
    let i = kind_at a.self.now a.at c.decode.ensures c.unwrap_or-record.ensures refl in
    closed_at a.self.now a.depth a.at (view_env a.e) (subst Closes (sym i) (closes c.unwrap_or-record.result.0 c.in-Else.is))
