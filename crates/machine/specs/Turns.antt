-- What one turn of the run does: a step of the model, or a stop that leaves everything as it was.
use Rattle.std.specs.Prelude.{◌≡◌, ℕ, ◌+◌, ◌-◌, ◌<◌, ◌≤◌, Bool, false, List, [], length, Some, Result, Ok, Err}
use Rattle.std.proofs.lemmas.List.Edits.{sets}
use Rattle.model.specs.Machine.{Ctl, Data, Went, step, size, Final, final, after_step, ended, run}
use Rattle.model.specs.Table.{Table}
use Rattle.model.specs.declared.Stop.{Stop}
use Rattle.model.specs.declared.Directive.{Directive}
use Rattle.model.specs.declared.Observation.{Observation}
use Rattle.model.specs.declared.Record.TheVariants.{Call}
use Rattle.machine.specs.declared.State.{State}
use Rattle.machine.specs.declared.Machine.{Machine}
use Rattle.machine.specs.Directives.{directive_at, directives_from, bytes_of}
use Rattle.machine.specs.States.{table_in, ctl_of, data_of, arrayed}

-- registers, memory, observations, and how many bytes of these are written
pub record Lent : Type 0 where
  pub regs : List ℕ
  pub mem : List ℕ
  pub obs : List ℕ
  pub seen : ℕ

abbrev pub lent_in : Machine → Lent
lent_in r = record { regs = r.regs.now; mem = r.mem.now; obs = r.obs.now; seen = r.seen }

abbrev pub table_of_machine : Machine → Table
table_of_machine r = table_in r.table.now

abbrev pub data_in : Machine → State → Data
data_in r s = data_of s r.regs.now r.mem.now

-- the same table, and the same lent parts
pub record Same (a b : Machine) : Type 0 where
  pub table : b.table ≡ a.table
  pub regs : b.regs.ghost_name ≡ a.regs.ghost_name
  pub mem : b.mem.ghost_name ≡ a.mem.ghost_name
  pub obs : b.obs.ghost_name ≡ a.obs.ghost_name

module _ (t : Table) (s : State) where
  -- at a CALL the stack has room
  abbrev pub HasRoom : Type 0
  HasRoom = (f : ℕ) (m : Bool) → t.rec s.place ≡ Call f m → s.depth < 31

  -- the step was made, under dir; s' is the state after it
  pub record ActMoves (dir : Directive) (a : Lent) (s' : State) (b : Lent) : Type 0 where
    pub saw : Observation
    pub stepped : step t (ctl_of s) dir (data_of s a.regs a.mem) ≡ Went (ctl_of s') (data_of s' b.regs b.mem) saw
    pub room : size saw ≤ length a.obs - a.seen
    pub wrote : b.obs ≡ sets a.obs a.seen (bytes_of saw)
    pub seen' : b.seen ≡ a.seen + size saw
    pub array : s'.stack ≡ arrayed s (ctl_of s').stack

  -- no step was made: a stop of the step's own, or 26
  pub record ActHalts (dir : Directive) (a : Lent) (k : Stop) (s' : State) (b : Lent) : Type 0 where
    pub stays : s' ≡ s
    pub kept : a ≡ b
    pub stopped : (f : ℕ → Ctl → Data → Final)
        → after_step (step t (ctl_of s) dir (data_of s a.regs a.mem)) (length a.obs - a.seen)
        (ctl_of s) (data_of s a.regs a.mem) f
        ≡ final k 0 (ctl_of s) (data_of s a.regs a.mem) []

  -- what a step answers, and its state afterwards
  abbrev pub Acts : Directive → Lent → Result (Unit {0}) Stop → State → Lent → Type 0
  Acts dir a (Ok u) s' b = ActMoves dir a s' b
  Acts dir a (Err k) s' b = ActHalts dir a k s' b

  -- the same of a step that answers the state after it, and leaves its own as it is
  abbrev pub Steps : Directive → Lent → Result State Stop → Lent → Type 0
  Steps dir a (Ok s') b = ActMoves dir a s' b
  Steps dir a (Err k) b = ActHalts dir a k s b

  -- next: the next directive's place
  pub record TurnMoves (dirs : List ℕ) (at : ℕ) (a : Lent) (next : ℕ) (s' : State) (b : Lent) : Type 0 where
    pub dir : Directive
    pub going : ended t (ctl_of s) ≡ false
    pub inside : at < length dirs
    pub told : directive_at dirs at ≡ Some (dir, next)
    pub acts : ActMoves dir a s' b

  -- the run ends here
  pub record TurnHalts (dirs : List ℕ) (at : ℕ) (a : Lent) (k : Stop) (s' : State) (b : Lent) : Type 0 where
    pub stays : s' ≡ s
    pub kept : a ≡ b
    pub stopped : (j : ℕ) → length dirs - at ≤ j
        → run t (directives_from j dirs at) (length a.obs - a.seen) (ctl_of s) (data_of s a.regs a.mem)
        ≡ final k 0 (ctl_of s) (data_of s a.regs a.mem) []

  abbrev pub Turns : List ℕ → ℕ → Lent → Result ℕ Stop → State → Lent → Type 0
  Turns dirs at a (Ok next) s' b = TurnMoves dirs at a next s' b
  Turns dirs at a (Err k) s' b = TurnHalts dirs at a k s' b
