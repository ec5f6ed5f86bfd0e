use Rattle.model.specs.InOrder.{code_from}
use Rattle.model.specs.Sites.{mark_in}
use Rattle.model.proofs.Sites.{mark_here, mark_on, mark_end}
use Rattle.model.specs.Records.{length_pos}
use Rattle.format.specs.Layout.{next_on}
use Rattle.machine.specs.States.{table_in}
use Rattle.std.proofs.Common.{ℕ, sym, ap, ◌∙◌, arith}
use Rattle.machine.proofs.returns.site_of.Goals as goal

pub returns-then-q-c : goal.returns-then-q-c
returns-then-q-c c =
    let a = c.args in
    let T = table_in a.table.now in
    let L = c.loop-c in
    let S = ap (λ (n : ℕ). mark_in (code_from T n) a.function a.q) (sym c.start_of-c.ensures.0) ∙ L.invariant in
    c.mark_of.ensures ∙ sym (S ∙ mark_here T L.c a.function c.loop-c-test.true c.if-q-c.true c.record_at-here.ensures.0)

pub loop-c-smaller : goal.loop-c-smaller
loop-c-smaller c =
    let k = c.args.table.now in
    let p = c.loop-c.c in
    let l = c.loop-c-test.true in
    omega (arith, c.record_at-here.ensures.1, next_on k.sizes k.bytes.now p l, length_pos ((table_in k).rec p), l)

pub loop-c-preserved : goal.loop-c-preserved
loop-c-preserved c =
    let k = c.args.table.now in
    let L = c.loop-c in
    let l = c.loop-c-test.true in
    L.invariant ∙ mark_on (table_in k) L.c c.args.function c.args.q l c.if-q-c.false (c.record_at-here.ensures.1 ∙ next_on k.sizes k.bytes.now L.c l)

pub returns : goal.returns
returns c =
    let a = c.args in
    let T = table_in a.table.now in
    let S = ap (λ (n : ℕ). mark_in (code_from T n) a.function a.q) (sym c.start_of-c.ensures.0) ∙ c.loop-c.invariant in
    sym (S ∙ mark_end T c.loop-c.c a.function a.q c.loop-c-test.false)
