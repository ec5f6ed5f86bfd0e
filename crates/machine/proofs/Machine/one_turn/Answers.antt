use Rattle.std.proofs.Common.{◌≡◌, sym, ◌∙◌, rules}
use Rattle.model.specs.Table.{entry}
use Rattle.machine.specs.Turns.{lent_in, table_of_machine}
use Rattle.machine.proofs.Stepping.{turn_over, turn_used, turn_bad, turn_halts}
use Rattle.machine.proofs.Machine.one_turn.Goals as goal

pub returns-then-s-last_place-clause-turns : goal.returns-then-s-last_place-clause-turns
returns-then-s-last_place-clause-turns c =
    let a = c.args in
    let m = a.self.now in
    turn_over (table_of_machine m) a.s.now a.dirs.now a.at (lent_in m) (c.if-s-last_place.true ∙ c.last_place.ensures)

pub returns-then-dirs-at-clause-turns : goal.returns-then-dirs-at-clause-turns
returns-then-dirs-at-clause-turns c =
    let a = c.args in
    let t = table_of_machine a.self.now in
    let on = λ (e : a.s.now.place ≡ t.ret (entry t)). c.if-s-last_place.false (e ∙ sym c.last_place.ensures) in
    turn_used t a.s.now a.dirs.now a.at (lent_in a.self.now) on c.if-dirs-at.true

pub returns-in_default-clause-turns : goal.returns-in_default-clause-turns
returns-in_default-clause-turns c =
    let a = c.args in
    let t = table_of_machine a.self.now in
    let on = λ (e : a.s.now.place ≡ t.ret (entry t)). c.if-s-last_place.false (e ∙ sym c.last_place.ensures) in
    let told = sym c.directive_at.ensures ∙ c.in_default.is in
    turn_bad t a.s.now a.dirs.now a.at (lent_in a.self.now) on c.if-dirs-at.false told

pub returns-in_err-step-clause-turns : goal.returns-in_err-step-clause-turns
returns-in_err-step-clause-turns c =
    let a = c.args in
    let t = table_of_machine a.self.now in
    let on = λ (e : a.s.now.place ≡ t.ret (entry t)). c.if-s-last_place.false (e ∙ sym c.last_place.ensures) in
    let told = sym c.directive_at.ensures ∙ c.in-Some.is in
    let h = turn_halts t a.s.now a.dirs.now a.at (lent_in a.self.now) on _ _ c.if-dirs-at.false told _ _ _
    c.in_err-step.ensures.acts in
    search rules
