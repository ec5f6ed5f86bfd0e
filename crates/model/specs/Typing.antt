-- The typing of a whole table: the functions in table order, up to the first fault. That it is what the rules say
-- stands in proofs/WholeTable.
use Prim.Native.Nat.{ℕ, zero, suc, ◌-◌, ◌<◌, ◌≤◌}
use Rattle.std.specs.Prelude.{Result, Ok, Err}
use Rattle.model.specs.Table.{Table}
use Rattle.model.specs.Blocks.{TypesFunction}
use Rattle.model.specs.Rules.{typing, Typed, reading}
use Rattle.model.specs.theory.Places.{nesting}
use Rattle.model.specs.Faults.{FirstFault}
use Rattle.model.specs.Walk.{Ending, Reached, Failed, type_function}
use Rattle.model.specs.Numbers.{refusal}
use Rattle.model.specs.declared.Refusal.{Refusal}
use Rattle.model.specs.Decide.{record_fault, typing_tests}
use Rattle.model.specs.Levels.{Env}

-- every function types, or the first fault
abbrev pub Typing : Type 0
Typing = Result (Unit {0}) Refusal

abbrev pub on_pass : Ending Env → Typing → Typing
on_pass (Reached p E) w = w
on_pass (Failed n p) w = Err (refusal n p)

module _ (t : Table) (size : ℕ) where
  -- the last n functions
  unfoldable pub type_from : ℕ → Typing
  type_from zero = Ok tt
  type_from (suc n) = on_pass (type_function t (typing t) (typing_tests t) size (t.functions - suc n)) (type_from n)

  abbrev pub type_all : Typing
  type_all = type_from t.functions

  -- every function has been read, nested at most 16 deep, and lies in the table
  pub record Read (g : ℕ) : Type 0 where
    pub blocks : TypesFunction t reading g
    pub nested : nesting t reading blocks.body ≤ 16
    pub inside : t.ret g < size

  abbrev pub Says : Typing → Type 0
  Says (Ok x) = Typed t
  Says (Err e) = FirstFault t (typing t) record_fault e.fault e.place
