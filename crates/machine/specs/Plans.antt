-- What the plan of a step says, over all that the step looks at.
use Rattle.std.specs.Prelude.{◌≡◌, ℕ, ◌+◌, ◌<◌, List, Result, Ok, Err}
use Rattle.model.specs.Table.{Table}
use Rattle.model.specs.Machine.{Ctl, Data, to, words_of, access, wrote, work, did, plain, onward, Stepped}
use Rattle.model.specs.declared.Sizes.{Sizes}
use Rattle.format.specs.Format.{Decoded, words_from}
use Rattle.model.specs.declared.Stop.{Stop}
use Rattle.model.specs.declared.Stop.TheVariants.{WrongDirective}
use Rattle.model.specs.declared.Directive.{Directive}
use Rattle.model.specs.declared.Directive.TheVariants.{Plain, Branch, Stray, Back}
use Rattle.model.specs.declared.Observation.TheVariants.{Nothing}
use Rattle.model.specs.declared.Simple.{Simple}
use Rattle.model.specs.declared.Record.{Record}
use Rattle.model.specs.declared.Record.TheVariants.{Do, Call, If, Else, Endif, While, Endwhile, Return}
use Rattle.model.specs.Records.{length_of, Reaches}
use Rattle.machine.specs.declared.Stacking.TheVariants.{Same}
use Rattle.machine.specs.declared.Next.{Next}
use Rattle.machine.specs.declared.Plan.{Plan}
use Rattle.machine.specs.declared.Step.{Step}
use Rattle.machine.specs.States.{table_in, ctl_of, data_of, view_plan, LandsIn}

abbrev pub table_at : Step → Table
table_at w = table_in w.table.now

abbrev pub ctl_at : Step → Ctl
ctl_at w = ctl_of w.state.now

abbrev pub data_at : Step → Data
data_at w = data_of w.state.now w.regs.now w.mem.now

-- the step of the model that a plan is
abbrev pub planned : Step → Result Plan Stop → Stepped
planned w r = view_plan (table_at w) w.state.now r (data_at w)

-- its effect lies in registers and memory
abbrev pub lands_in : Step → Result Plan Stop → Type 0
lands_in w r = LandsIn (table_at w) r

-- the word that word i of array a leads to
abbrev pub accessed : Step → ℕ → ℕ → Result (ℕ × ℕ) Stop
accessed w a i = access (table_at w) a i w.state.now.mis w.dir

-- a word lies in its array, and its index is a small number
abbrev pub within : Step → Result (ℕ × ℕ) Stop → Type 0
within w (Ok (a, i)) = (i < words_of (table_at w) a) × (i < 65536)
within w (Err k) = Unit {0}

-- on at p, and all else as it is
abbrev pub goes_on : Step → ℕ → Next
goes_on w p = record { place = p; stacking = Same; mis = w.state.now.mis; masked = w.state.now.masked }

-- what a simple record does, and a record that writes v to register d
abbrev pub works : Step → ℕ → Simple → Stepped
works w p r = onward (work (table_at w) r w.dir w.state.now.mis (data_at w)) (to (ctl_at w) p)

abbrev pub writes : Step → ℕ → ℕ → ℕ → Stepped
writes w p d v = onward (plain w.dir (did (wrote (data_at w) d v) Nothing)) (to (ctl_at w) p)

-- the place that a record names
abbrev pub place_in : Record → ℕ
place_in (Do s) = 0
place_in (Call f m) = 0
place_in (If r e) = e
place_in (Else n) = n
place_in Endif = 0
place_in (While r e L) = e
place_in (Endwhile w) = w
place_in Return = 0

-- what is known of a record at p: the next one is due behind it, its array and word are in range, and the place that it
-- names is a place
pub record Due (z : Sizes) (t : List ℕ) (p : ℕ) (r : Record) (n : ℕ) : Type 0 where
  pub next : n ≡ p + length_of r
  pub small : n < 65536
  pub reaches : Reaches (words_from z t z.arrays 0) r
  pub place : place_in r < 65536

abbrev pub IsDue : Sizes → List ℕ → ℕ → Decoded → Type 0
IsDue z t p (Ok (r, n)) = Due z t p r n
IsDue z t p (Err e) = Unit {0}

-- 60 is there; any other directive is 22
abbrev pub takes_plain : Directive → Result (Unit {0}) Stop
takes_plain Plain = Ok tt
takes_plain (Branch b) = Err WrongDirective
takes_plain (Stray a i) = Err WrongDirective
takes_plain (Back q) = Err WrongDirective
