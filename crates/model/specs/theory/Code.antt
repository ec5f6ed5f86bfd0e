-- The places of a table whose functions all read, or all type: what reading found out, and what is at a place.
use Rattle.std.specs.Prelude.{ℕ, suc, ◌+◌, ◌<◌, ◌≡◌, ◌⊎◌}
use Rattle.model.specs.declared.Status.TheVariants.{Unknown}
use Rattle.model.specs.Table.{Table, entry}
use Rattle.model.specs.Blocks.{Rules, Every}
use Rattle.model.specs.Rules.{reading}
use Rattle.model.specs.theory.Functions.{edge}
use Rattle.model.specs.theory.Places.{Log, Here}

-- what reading found out
pub record Known (t : Table) : Type 0 where
  pub some_function : (entry t) < t.functions
  pub fresh : (t.enter ((entry t))).status ≡ Unknown  -- fault 8
  pub blocks : Every t reading  -- faults 2 to 7
  pub touch : (f : ℕ) → f < t.functions → edge t (suc f) ≡ t.ret f + 1  -- functions touch, and the last ends the table

module _ (t : Table) (reads : Known t) (R : Rules) (typed : Every t R) where
  -- p, in f, is typed from E
  abbrev pub At : ℕ → ℕ → R.Env → Type 0
  At f p E = (l : f < t.functions) × (Log t R (typed f l).body p E ⊎ Here (t.ret f) (typed f l).last p E)
