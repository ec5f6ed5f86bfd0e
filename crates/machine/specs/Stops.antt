-- "stops only for a listed reason": whatever the table, the directives and the state, a run ends with one of 20 to 26.
use Rattle.std.specs.Prelude.{ℕ, ◌≤◌, List}
use Rattle.std.proofs.Common.{arith}
use Rattle.model.specs.Numbers.{stop_number}
use Rattle.model.specs.Table.{Table}
use Rattle.model.specs.Machine.{Ctl, Data, Final, final, run}
use Rattle.model.specs.declared.Directive.{Directive}
use Rattle.model.specs.declared.Stop.{Stop}
use Rattle.model.specs.declared.Stop.TheVariants.{ListUsedUp, Returned, WrongDirective, InitMisspeculating, AccessOutOfRange, NoSuchTarget, NoRoom}

abbrev pub Listed : ℕ → Type 0
Listed k = (20 ≤ k) × (k ≤ 26)

-- whatever a stop is, its number is one of these
pub stop_listed : (k : Stop) → Listed (stop_number k)
stop_listed ListUsedUp = (omega arith, omega arith)
stop_listed Returned = (omega arith, omega arith)
stop_listed WrongDirective = (omega arith, omega arith)
stop_listed InitMisspeculating = (omega arith, omega arith)
stop_listed AccessOutOfRange = (omega arith, omega arith)
stop_listed NoSuchTarget = (omega arith, omega arith)
stop_listed NoRoom = (omega arith, omega arith)

abbrev pub EndListed : Final → Type 0
EndListed (final k n c x os) = Listed (stop_number k)

ends : (u : Final) → EndListed u
ends (final k n c x os) = stop_listed k

module _ (t : Table) where
  pub run_listed : (ds : List Directive) (room : ℕ) (c : Ctl) (x : Data) → EndListed (run t ds room c x)
  run_listed ds room c x = ends (run t ds room c x)
