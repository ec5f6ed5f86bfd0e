-- What the machine's state and its plan for one step stand for.
use Rattle.std.specs.Prelude.{◌≡◌, ℕ, zero, suc, ◌<◌, Bool, false, List, [], ◌∷◌, length, eqb, ltb, get_or, set, refl, Result, Ok, Err}
use Rattle.std.proofs.Common.{ap}
use Rattle.model.specs.Tests.{pick}
use Rattle.model.specs.Table.{Table}
use Rattle.model.specs.Machine.{Ctl, Data, wrote, stored, flagged, words_of, Stepped, Stopped, Went}
use Rattle.model.specs.declared.Stop.{Stop}
use Rattle.format.specs.Format.{words_from}
use Rattle.format.specs.Layout.{table_with}
use Rattle.layout.specs.declared.Table.{Table as Bytes}
use Rattle.machine.specs.declared.State.{State}
use Rattle.machine.specs.declared.Effect.{Effect}
use Rattle.machine.specs.declared.Effect.TheVariants.{None, Register, Word}
use Rattle.machine.specs.declared.Stacking.{Stacking}
use Rattle.machine.specs.declared.Stacking.TheVariants.{Same, Push, Pop, Clear}
use Rattle.machine.specs.declared.Next.{Next}
use Rattle.machine.specs.declared.Plan.{Plan}

-- the table that bytes with their sizes stand for
abbrev pub table_in : Bytes → Table
table_in k = table_with k.sizes k.bytes.now

abbrev pub words_in : Bytes → List ℕ
words_in k = words_from k.sizes k.bytes.now k.sizes.arrays 0

-- the first d places of the stack's array, the last of them on top
abbrev pub stack_of : ℕ → List ℕ → List ℕ
stack_of zero xs = []
stack_of (suc d) xs = get_or xs d 0 ∷ stack_of d xs

pub length_stack : (d : ℕ) (xs : List ℕ) → length (stack_of d xs) ≡ d
length_stack zero xs = refl
length_stack (suc d) xs = ap suc (length_stack d xs)

abbrev pub ctl_of : State → Ctl
ctl_of s = record { place = s.place; stack = stack_of s.depth s.stack; mis = s.mis }

abbrev pub words : List ℕ → List ℕ → Bool → Data
words regs mem m = record { regs = regs; mem = mem; masked = m }

abbrev pub data_of : State → List ℕ → List ℕ → Data
data_of s regs mem = words regs mem s.masked

-- one register, or one word of an array, or nothing
abbrev pub applied : Table → Effect → Data → Data
applied t None x = x
applied t (Register d v) x = wrote x d v
applied t (Word a i v) x = stored t x a i v

abbrev pub below : List ℕ → List ℕ
below [] = []
below (p ∷ ps) = ps

-- what becomes of the stack
abbrev pub stacked : Stacking → List ℕ → List ℕ
stacked Same ps = ps
stacked (Push q) ps = q ∷ ps
stacked Pop ps = below ps
stacked Clear ps = []

abbrev pub ctl_next : State → Next → Ctl
ctl_next s n = record { place = n.place; stack = stacked n.stacking (ctl_of s).stack; mis = n.mis }

-- a place is pushed only where there is room for it
abbrev pub RoomFor : State → Stacking → Type 0
RoomFor s k = (q : ℕ) → k ≡ Push q → s.depth < 31

-- the stack's array afterwards: a place that is pushed stands at the depth
abbrev pub array_next : State → Stacking → List ℕ
array_next s Same = s.stack
array_next s (Push q) = set s.stack s.depth q
array_next s Pop = s.stack
array_next s Clear = s.stack

-- the same, told by the stack after the step alone: where it has grown, its top is what was pushed
abbrev pub arrayed : State → List ℕ → List ℕ
arrayed s ps = pick (ltb s.depth (length ps)) (set s.stack s.depth (get_or ps 0 0)) s.stack

-- a plan goes on, or says why not
abbrev pub view_plan : Table → State → Result Plan Stop → Data → Stepped
view_plan t s (Ok p) x = Went (ctl_next s p.next) (flagged (applied t p.effect x) p.next.masked) p.seen
view_plan t s (Err k) x = Stopped k

-- an effect lies in registers and memory
abbrev pub Lands : Table → Effect → Type 0
Lands t None = Unit {0}
Lands t (Register d v) = Unit {0}
Lands t (Word a i v) = i < words_of t a

-- the effect of a plan that goes on
abbrev pub LandsIn : Table → Result Plan Stop → Type 0
LandsIn t (Ok p) = Lands t p.effect
LandsIn t (Err k) = Unit {0}

-- control after a CALL: q is pushed, and the machine goes to p
abbrev pub called : Ctl → ℕ → ℕ → Ctl
called c q p = record { place = p; stack = q ∷ c.stack; mis = c.mis }

-- q is on top of the stack
abbrev pub tops : List ℕ → ℕ → Bool
tops [] q = false
tops (p ∷ ps) q = eqb p q
