-- The typing walk: from a place and an environment, record by record in table order, to the end of the block or the
-- first fault. It computes; that what it passes is what Types types, and that its faults are first faults, stands in
-- Passes.
use Prim.Native.Nat.{ℕ, zero, suc, ◌+◌}
use Rattle.std.specs.Prelude.{◌≡◌, Bool, true, false}
use Rattle.std.proofs.Math.Path.{refl}
use Rattle.model.specs.Tests.{pick, Decides}
use Rattle.model.specs.Records.{length_of, Single, Closes, of_single, of_closing}
use Rattle.model.specs.Table.{Table}
use Rattle.model.specs.Blocks.{Rules}
use Rattle.model.specs.declared.Fault.{Fault}
use Rattle.model.specs.declared.Fault.TheVariants.{TableCut, TooDeep, NotPublic, LoopNotKept, ReturnDoesNotFit}
use Rattle.model.specs.declared.Record.{Record}
use Rattle.model.specs.declared.Record.TheVariants.{Do, Call, If, Else, Endif, While, Endwhile, Return}

-- how far the walk of one record comes, or of an IF or a WHILE with its blocks
pub data Walking (X : Type 0) : Type 0 where
  Onward : ℕ → X → Walking X  -- it is typed, and the walk goes on
  Closed : ℕ → X → Walking X  -- a record that closes a block is met
  Halt : Fault → (place : ℕ) → Walking X

-- how the walk of a block ends, or of a function
pub data Ending (X : Type 0) : Type 0 where
  Reached : ℕ → X → Ending X  -- the record that closes it
  Failed : Fault → (place : ℕ) → Ending X

-- a record, then the rest of its block
abbrev pub on_next : {X : Type 0} → Walking X → (ℕ → X → Ending X) → Ending X
on_next (Onward p E) f = f p E
on_next (Closed p E) f = Reached p E
on_next (Halt n p) f = Failed n p

-- a block, then what comes after it
abbrev pub on_shut : {X A : Type 0} → (Fault → ℕ → A) → Ending X → (ℕ → X → A) → A
on_shut bad (Reached p E) f = f p E
on_shut bad (Failed n p) f = bad n p

-- what the rules ask, as tests, and the fault of a single record
pub record Tests (R : Rules) : Type 0 where
  pub within : R.Env → R.Env → Bool
  pub public : R.Env → ℕ → Bool
  pub meets : Record → R.Env → Bool
  pub fault : Record → Fault

-- the tests decide the rules, in function g
pub record Right (R : Rules) (D : Tests R) (g : ℕ) : Type 0 where
  pub within : (E F : R.Env) → Decides (R.Within E F) (D.within E F)
  pub public : (E : R.Env) (r : ℕ) → Decides (R.Public E r) (D.public E r)
  pub meets : (i : Record) (E : R.Env) → Decides (R.Needs g i E) (D.meets i E)

module _ (t : Table) (R : Rules) (D : Tests R) where
  abbrev pub single : Record → ℕ → R.Env → Walking R.Env
  single i p E = pick (D.meets i E) (Onward (p + length_of i) (R.after i E)) (Halt (D.fault i) p)

  abbrev pub if_with : (ℕ → R.Env → Ending R.Env) → ℕ → ℕ → R.Env → Walking R.Env
  if_with B p r E = pick (D.public E r)
      (on_shut Halt (B (p + 4) (R.guarded E r true)) λ e E₁. on_shut Halt (B (e + 3) (R.guarded E r false)) λ n E₂. Onward (n + 1) (R.join E₁ E₂))
      (Halt NotPublic p)

  -- 12 before 10
  abbrev pub while_with : (ℕ → R.Env → Ending R.Env) → ℕ → ℕ → R.Env → R.Env → Walking R.Env
  while_with B p r L E = pick (D.within E L)
      (pick (D.public L r) (on_shut Halt (B (p + 11) (R.guarded L r true)) λ e E₁. pick (D.within E₁ L) (Onward (e + 3) (R.guarded L r false)) (Halt LoopNotKept e)) (Halt NotPublic p))
      (Halt LoopNotKept p)

  -- one record, given the walk of the blocks in it
  abbrev pub instr_with : (ℕ → R.Env → Ending R.Env) → Record → ℕ → R.Env → Walking R.Env
  instr_with B (Do s) p E = single (Do s) p E
  instr_with B (Call f m) p E = single (Call f m) p E
  instr_with B (If r e) p E = if_with B p r E
  instr_with B (Else n) p E = Closed p E
  instr_with B Endif p E = Closed p E
  instr_with B (While r e L) p E = while_with B p r (R.loop L) E
  instr_with B (Endwhile w) p E = Closed p E
  instr_with B Return p E = Closed p E

  -- records by f until one shuts the block; k bounds their number
  unfoldable pub type_block : (ℕ → R.Env → Walking R.Env) → ℕ → ℕ → R.Env → Ending R.Env
  type_block f zero p E = Failed TableCut p
  type_block f (suc k) p E = on_next (f p E) (type_block f k)

  -- d: remaining nesting; size: bound of the records of a block
  unfoldable pub type_instr : ℕ → ℕ → ℕ → R.Env → Walking R.Env
  type_instr zero size p E = instr_with (λ q F. Failed TooDeep p) (t.rec p) p E
  type_instr (suc d) size p E = instr_with (type_block (type_instr d size) size) (t.rec p) p E

  -- the walk of the blocks in the record at p
  abbrev pub inside : ℕ → ℕ → ℕ → ℕ → R.Env → Ending R.Env
  inside size zero p q F = Failed TooDeep p
  inside size (suc d) p q F = type_block (type_instr d size) size q F

  pub instr_at_lem : (size d p : ℕ) (E : R.Env) → type_instr d size p E ≡ instr_with (inside size d p) (t.rec p) p E
  unfolding type_instr
  instr_at_lem size zero p E = refl
  instr_at_lem size (suc d) p E = refl

  -- function g, from its in-environment to its RETURN
  unfoldable pub type_function : ℕ → ℕ → Ending R.Env
  type_function size g = on_shut Failed (type_block (type_instr 16 size) size (t.start g) (R.enter g)) λ p E. pick (D.within E (R.leave g)) (Reached p E) (Failed ReturnDoesNotFit p)

  pub shut_at : (i : Record) (B : ℕ → R.Env → Ending R.Env) (p : ℕ) (E : R.Env) → Closes i → instr_with B i p E ≡ Closed p E
  shut_at i B p E = of_closing (λ i. instr_with B i p E ≡ Closed p E) (λ _. refl) refl (λ _. refl) refl i

  pub single_at : (i : Record) (B : ℕ → R.Env → Ending R.Env) (p : ℕ) (E : R.Env) → Single i → instr_with B i p E ≡ single i p E
  single_at i B p E = of_single (λ i. instr_with B i p E ≡ single i p E) (λ s. refl) (λ f m. refl) i
