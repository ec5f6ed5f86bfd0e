-- The run's loop: what is left of the model's run from here on, with what was done so far, is the whole run
-- (`Going`). Each turn takes one directive, so that the directives left fall.
use Rattle.std.proofs.Common.{false, refl, rules, arith}
use Rattle.model.specs.Machine.{start_ctl}
use Rattle.machine.specs.States.{words, table_in}
use Rattle.machine.specs.Turns.{lent_in}
use Rattle.machine.proofs.Going.{has_room, halts, moves}
use Rattle.machine.proofs.Stepping.{going_start}
use Rattle.machine.proofs.Words.{directive_on}
use Rattle.machine.proofs.Machine.all_steps.Goals as goal

pub turns-init : goal.turns-init
turns-init c =
    let m = c.args.self.now in
    let k = m.table.now in
    let s = c.start-s in (
      record { table = refl; regs = refl; mem = refl; obs = refl },
      m.reads,
      going_start k.bytes.now k.sizes m.reads c.args.dirs.now (lent_in m) s.result s.ensures.0 s.ensures.1 c.requires,
    )

pub one_turn-requires : goal.one_turn-requires
one_turn-requires c =
    let k = c.args.self.now.table.now in
    let L = c.turns in
    rw L.invariant.0.table (has_room k.bytes.now k.sizes L.invariant.1 L.s L.invariant.2.stands)

pub turns-smaller : goal.turns-smaller
turns-smaller c =
    let w = c.in-Ok.ensures.turns in
    let on = directive_on _ _ w.inside w.told in
    omega (arith, on.0, on.1)

pub turns-preserved : goal.turns-preserved
turns-preserved c =
    let m = c.args.self.now in
    let k = m.table.now in
    let L = c.turns in
    let w = rw L.invariant.0.table at c.in-Ok.ensures.turns in
    let on = directive_on _ _ w.inside w.told in (
      search rules,
      L.invariant.1,
      moves k.bytes.now k.sizes L.invariant.1 (start_ctl (table_in k) false) (words m.regs.now m.mem.now false)
          c.args.dirs.now m.obs.now L.s L.at L.steps (lent_in L.self) L.invariant.2 _ _ (lent_in c.one_turn.new.self) w on,
    )

pub returns-in-Err-clause-ran : goal.returns-in-Err-clause-ran
returns-in-Err-clause-ran c =
    let m = c.args.self.now in
    let k = m.table.now in
    let L = c.turns in
    let w = rw L.invariant.0.table at c.in-Err.ensures.turns in
    halts k.bytes.now k.sizes L.invariant.1 (start_ctl (table_in k) false) (words m.regs.now m.mem.now false)
    c.args.dirs.now m.obs.now L.s L.at L.steps (lent_in L.self) L.invariant.2 _ _ (lent_in c.one_turn.new.self) w
