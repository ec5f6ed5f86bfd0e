use native.Mathlib.Omega.{arith}
use mathlib.Core.Path.{sym, ◌∙◌}
use Rattle.typing.proofs.Packed.{within_words_of}
use Rattle.typing.proofs.environments.WordEnv.within.Goals.{then-covers_status, else-covers_status}
use Rattle.typing.proofs.environments.WordEnv.within.Goals as goal

pub returns-then-within : goal.returns-then-within
returns-then-within c = λ n m w v.
    let a = c.args in
    let e = within_words_of n m a.self a.other (omega arith) (omega arith) (omega arith) (omega arith) w v in
    elim c.if-covers_status.branch [
      | then-covers_status x ↦ simp (e, sym c.covers_status.ensures, x.if-covers_status.true, sym x.within.ensures, sym x.value-is ∙ c.if-within.true) c.within-then-within.ensures
      | else-covers_status x ↦ cc
    ]

pub returns-else-within : goal.returns-else-within
returns-else-within c = λ n m w v.
    let a = c.args in
    let e = within_words_of n m a.self a.other (omega arith) (omega arith) (omega arith) (omega arith) w v in
    elim c.if-covers_status.branch [
      | then-covers_status x ↦ simp (e, sym c.covers_status.ensures, x.if-covers_status.true, sym x.within.ensures, sym x.value-is ∙ c.if-within.false) c.if-within.false
      | else-covers_status x ↦ simp (e, sym c.covers_status.ensures, x.if-covers_status.false, x.value-is)
    ]
