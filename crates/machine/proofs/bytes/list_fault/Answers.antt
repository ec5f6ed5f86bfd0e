use Rattle.std.proofs.Common.{sym, ◌∙◌, arith, le-ltb, lt-ltb}
use Rattle.machine.specs.Directives.{list_at}
use Rattle.machine.proofs.Words.{directive_on, list_bad, list_next, list_end}
use Rattle.machine.proofs.bytes.list_fault.Goals as goal

pub returns-then-d-gt16384 : goal.returns-then-d-gt16384
unfolding list_at
returns-then-d-gt16384 c = let h = c.if-d-gt16384.true in rw (c.at.ensures) (simp lt-ltb)

pub returns-in_default : goal.returns-in_default
unfolding list_at
returns-in_default c =
    let d = c.args.d.now in
    let L = c.loop-at in
    let h = c.if-d-gt16384.false in
    let e = sym c.directive_at.ensures ∙ c.in_default.is in
    rw c.at-in_default.ensures (simp (le-ltb, L.invariant.3, list_bad d L.invariant.1 L.at c.loop-at-test.true L.invariant.2 e))

pub loop-at-smaller : goal.loop-at-smaller
loop-at-smaller c =
    let d = c.args.d.now in
    let L = c.loop-at in
    let o = directive_on d L.at c.loop-at-test.true (sym c.directive_at.ensures ∙ c.in-Some.is) in
    omega arith

pub loop-at-preserved : goal.loop-at-preserved
loop-at-preserved c =
    let d = c.args.d.now in
    let L = c.loop-at in
    let l = c.loop-at-test.true in
    let e = sym c.directive_at.ensures ∙ c.in-Some.is in
    let n = list_next d L.invariant.1 L.at l L.invariant.2 e in
    ((directive_on d L.at l e).1, n.0, n.1, L.invariant.3 ∙ n.2)

pub returns : goal.returns
unfolding list_at
returns c =
    let d = c.args.d.now in
    let L = c.loop-at in
    let h = c.if-d-gt16384.false in
    simp (le-ltb, L.invariant.3, list_end d L.invariant.1 L.at c.loop-at-test.false)
