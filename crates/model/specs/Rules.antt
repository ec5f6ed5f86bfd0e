-- Document 01, "Typing, record by record". IF, WHILE and RETURN stand in Blocks.
use Rattle.std.specs.Prelude.{ℕ, ◌<◌, max, min, ◌≡◌, Bool, true, false, eqb, leb, ltb}
use Rattle.model.specs.Tests.{pick, put}
use Rattle.model.specs.Levels.{Env, Within, join}
use Rattle.model.specs.Packing.{env_of}
use Rattle.model.specs.Records.{by_single}
use Rattle.model.specs.Table.{Table}
use Rattle.model.specs.Blocks.{Rules, Every}
use Rattle.model.specs.declared.Status.{Status}
use Rattle.model.specs.declared.Status.TheVariants.{Unknown, Updated, Outdated}
use Rattle.model.specs.declared.Simple.{Simple}
use Rattle.model.specs.declared.Simple.TheVariants.{Const, Op, Select, Load, Store, Init, Update, Protect, LoadFixed, StoreFixed}
use Rattle.model.specs.declared.Record.{Record}

-- "any other write to r turns outdated(r, s) into unknown"
unfoldable pub kill : ℕ → Status → Status
kill d Unknown = Unknown
kill d Updated = Updated
kill d (Outdated r s) = pick (eqb r d) Unknown (Outdated r s)

-- "if the status is updated, the first block starts outdated(r, 1), the second outdated(r, 0); else both unknown"
unfoldable pub guard_status : ℕ → Bool → Status → Status
guard_status r s Unknown = Unknown
guard_status r s Updated = Outdated r s
guard_status r s (Outdated q b) = Unknown

-- "updated if the mark is 1 and the out status is updated, else unknown"
unfoldable pub call_status : Bool → Status → Status
call_status true Updated = Updated
call_status true Unknown = Unknown
call_status true (Outdated r s) = Unknown
call_status false s = Unknown

-- a transient level becomes public; a secret one stays
unfoldable pub settle : ℕ → ℕ
settle l = pick (leb l 1) 0 l

-- what a store of level l may leave where it strays to: transient, if l is not public
abbrev pub spilled : ℕ → ℕ
spilled l = min 1 l

-- beside an array into which level l is stored: array b of m, at level v
unfoldable pub beside : ℕ → ℕ → ℕ → ℕ → ℕ
beside m l b v = pick (ltb b m) (max v (spilled l)) v

-- register d is written, at level l
abbrev pub written : Env → ℕ → ℕ → Env
written E d l = record { status = kill d E.status; regs = put E.regs d l; arrays = E.arrays }

-- "the named array gets the larger of its level and the source's", l; the others get the levels given
abbrev pub raised : Env → (ℕ → ℕ) → ℕ → ℕ → Env
raised E others a l = record { status = E.status; regs = E.regs; arrays = put others a (max (E.arrays a) l) }

-- register s is stored into array a of m
abbrev pub stored : ℕ → Env → ℕ → ℕ → Env
stored m E a s = raised E (λ b. beside m (E.regs s) b (E.arrays b)) a (E.regs s)

-- order 1: register s is stored into array a at a fixed place
abbrev pub stored_fixed : Env → ℕ → ℕ → Env
stored_fixed E a s = raised E E.arrays a (E.regs s)

-- INIT. Order 3: "turns every transient register and array public"
abbrev pub fenced : Env → Env
fenced E = record { status = Updated; regs = λ i. settle (E.regs i); arrays = λ a. settle (E.arrays a) }

-- UPDATE
abbrev pub updated : Env → Env
updated E = record { status = Updated; regs = E.regs; arrays = E.arrays }

-- PROTECT of s into d
abbrev pub protected : Env → ℕ → ℕ → Env
protected E d s = record { status = Updated; regs = put E.regs d (settle (E.regs s)); arrays = E.arrays }

-- entering a block when register r is not zero (true) or zero (false)
abbrev pub guarded : Env → ℕ → Bool → Env
guarded E r s = record { status = guard_status r s E.status; regs = E.regs; arrays = E.arrays }

-- what a simple record asks of the environment
abbrev pub Needs : Simple → Env → Type 0
Needs (Const d v) E = Unit {0}
Needs (Op d o l r) E = Unit {0}
Needs (Select d c y n) E = Unit {0}
Needs (Load d a i) E = E.regs i ≡ 0
Needs (Store a i s) E = E.regs i ≡ 0
Needs Init E = Unit {0}
Needs (Update r s) E = E.status ≡ Outdated r s
Needs (Protect d s) E = E.status ≡ Updated
Needs (LoadFixed d a i) E = Unit {0}
Needs (StoreFixed a i s) E = Unit {0}

-- the environment after it, in a table of m arrays
abbrev pub after : ℕ → Simple → Env → Env
after m (Const d v) E = written E d 0
after m (Op d o l r) E = written E d (max (E.regs l) (E.regs r))
after m (Select d c y n) E = written E d (max (E.regs c) (max (E.regs y) (E.regs n)))
after m (Load d a i) E = written E d (max 1 (E.arrays a))
after m (Store a i s) E = stored m E a s
after m Init E = fenced E
after m (Update r s) E = updated E
after m (Protect d s) E = protected E d s
after m (LoadFixed d a i) E = written E d (E.arrays a)
after m (StoreFixed a i s) E = stored_fixed E a s

-- after a CALL: the callee's out levels. (The environment before it does not count; order 8 will use it.)
abbrev pub returned : Env → Bool → Env → Env
returned out mark E = record { status = call_status mark out.status; regs = out.regs; arrays = out.arrays }

module _ (t : Table) where
  -- what a record asks. One that opens or closes a block asks nothing here, and changes nothing: its rule is that of
  -- blocks
  abbrev pub NeedsOf : Record → Env → Type 0
  NeedsOf i E = by_single (λ s. Needs s E) (λ f m. Within t.registers t.arrays E (t.enter f)) (Unit {0}) i

  -- the environment after it; rule: what simple records make of it
  abbrev pub after_by : (rule : Simple → Env → Env) → Record → Env → Env
  after_by rule i E = by_single (λ s. rule s E) (λ f m. returned (t.leave f) m E) E i

  abbrev pub after_of : Record → Env → Env
  after_of = after_by (after t.arrays)

-- document 01's rules, but for what simple records make of the environment
abbrev pub typing_by : Table → (rule : Simple → Env → Env) → Rules
typing_by t rule = record {
  Env = Env;
  Within = Within t.registers t.arrays;
  join = join;
  Needs = λ g. NeedsOf t;
  after = after_by t rule;
  Public = λ E r. E.regs r ≡ 0;
  guarded = guarded;
  loop = env_of;
  enter = t.enter;
  leave = t.leave;
}

-- document 01's rules, as the orders amend them
abbrev pub typing : Table → Rules
typing t = typing_by t (after t.arrays)

-- the rules type every function of the table
abbrev pub Typed : Table → Type 0
Typed t = Every t (typing t)

-- reading's rules: a CALL is of a lower function (fault 7)
abbrev pub Lower : ℕ → Record → Type 0
Lower g = by_single (λ s. Unit {0}) (λ f m. f < g) (Unit {0})

abbrev pub reading : Rules
reading = record {
  Env = Unit {0};
  Within = λ _ _. Unit {0};
  join = λ _ _. tt;
  Needs = λ g i _. Lower g i;
  after = λ _ _. tt;
  Public = λ _ _. Unit {0};
  guarded = λ _ _ _. tt;
  loop = λ _. tt;
  enter = λ _. tt;
  leave = λ _. tt;
}
