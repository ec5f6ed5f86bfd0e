-- The functions of a table in order: where each begins, and the CALLs in them.
use Prim.Native.Nat.{ℕ, ◌+◌, ◌<◌, ◌≤◌}
use Rattle.std.specs.Prelude.{◌≡◌, Bool, eqb}
use Rattle.model.specs.Tests.{pick}
use Rattle.model.specs.Table.{Table}
use Rattle.model.specs.InOrder.{Chain}
use Rattle.model.specs.declared.Record.TheVariants.{Call}

-- q follows a CALL of f, marked m, in one of the functions
pub record Called (t : Table) (f q : ℕ) (m : Bool) : Type 0 where
  pub caller : ℕ
  pub call : ℕ
  pub function : caller < t.functions
  pub met : Chain t (t.start caller) call
  pub inside : call < t.ret caller
  pub is : t.rec call ≡ Call f m
  pub follows : q ≡ call + 3

module _ (t : Table) where
  -- where function g begins; past the last one, where the code ends
  abbrev pub edge : ℕ → ℕ
  edge g = pick (eqb g t.functions) t.size (t.start g)

  -- c is met in one of the functions, its RETURN included
  abbrev pub InFunction : ℕ → Type 0
  InFunction c = (g : ℕ) × (g < t.functions) × Chain t (t.start g) c × (c ≤ t.ret g)
