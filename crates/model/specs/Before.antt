-- The rules as they were before order 3, for one statement: tables that passed before still pass (proofs/Before). Only
-- it and its example (secure's Gauge) speak of them.
use Rattle.std.specs.Prelude.{ℕ}
use Rattle.model.specs.Levels.{Env}
use Rattle.model.specs.Table.{Table}
use Rattle.model.specs.Blocks.{Rules, Every}
use Rattle.model.specs.Rules.{settle, after, typing_by}
use Rattle.model.specs.declared.Status.TheVariants.{Updated}
use Rattle.model.specs.declared.Simple.{Simple}
use Rattle.model.specs.declared.Simple.TheVariants.{Const, Op, Select, Load, Store, Init, Update, Protect, LoadFixed, StoreFixed}

-- document 01: "INIT: every transient register becomes public; arrays keep their levels; status updated."
abbrev pub fenced_before : Env → Env
fenced_before E = record { status = Updated; regs = λ i. settle (E.regs i); arrays = E.arrays }

-- of the simple records, INIT alone was otherwise
abbrev pub after_before : ℕ → Simple → Env → Env
after_before m (Const d v) E = after m (Const d v) E
after_before m (Op d o l r) E = after m (Op d o l r) E
after_before m (Select d c y n) E = after m (Select d c y n) E
after_before m (Load d a i) E = after m (Load d a i) E
after_before m (Store a i s) E = after m (Store a i s) E
after_before m Init E = fenced_before E
after_before m (Update r s) E = after m (Update r s) E
after_before m (Protect d s) E = after m (Protect d s) E
after_before m (LoadFixed d a i) E = after m (LoadFixed d a i) E
after_before m (StoreFixed a i s) E = after m (StoreFixed a i s) E

abbrev pub typing_before : Table → Rules
typing_before t = typing_by t (after_before t.arrays)

-- the rules before order 3 type every function of the table
abbrev pub TypedBefore : Table → Type 0
TypedBefore t = Every t (typing_before t)
