-- "A block holds instructions and an instruction may hold blocks": what it is that a block, a function, a table types,
-- for any rules about single records. Reading is the case of rules that look at no level, typing that of document 01's.
use Rattle.std.specs.Prelude.{ℕ, ◌+◌, ◌<◌, ◌≡◌, Bool, true, false}
use Rattle.model.specs.Records.{length_of, Single}
use Rattle.model.specs.Table.{Table}
use Rattle.model.specs.declared.Packed.{Packed}
use Rattle.model.specs.declared.Record.{Record}
use Rattle.model.specs.declared.Record.TheVariants.{If, Else, Endif, While, Endwhile, Return}

pub record Rules : Type 1 where
  pub Env : Type 0
  pub Within : Env → Env → Type 0
  pub join : Env → Env → Env
  pub Needs : ℕ → Record → Env → Type 0  -- what a single record, in a function, asks of the environment
  pub after : Record → Env → Env  -- the environment after it
  pub Public : Env → ℕ → Type 0  -- what a guard asks
  pub guarded : Env → ℕ → Bool → Env  -- the environment of a first block or body (true), of a second block or past the loop (false)
  pub loop : Packed → Env  -- the environment that a WHILE carries
  pub enter : ℕ → Env
  pub leave : ℕ → Env

-- what has to hold of rules for what is said over all of them: within is an order, the join is above both
pub record Laws (R : Rules) : Type 0 where
  pub within_refl : (E : R.Env) → R.Within E E
  pub within_trans : (E F G : R.Env) → R.Within E F → R.Within F G → R.Within E G
  pub join_left : (E F : R.Env) → R.Within E (R.join E F)
  pub join_right : (E F : R.Env) → R.Within F (R.join E F)

module _ (t : Table) (R : Rules) where
  -- in function g, the records from p up to q take E to F
  pub data Types (g : ℕ) : ℕ → R.Env → ℕ → R.Env → Type 0 where
    done : {p : ℕ} {E : R.Env} → Types g p E p E
    one : {p q : ℕ} {E F : R.Env} → Single (t.rec p) → R.Needs g (t.rec p) E
        → Types g (p + length_of (t.rec p)) (R.after (t.rec p) E) q F → Types g p E q F
    branch : {p q e n r : ℕ} {E E₁ E₂ F : R.Env} → t.rec p ≡ If r e → R.Public E r
        → Types g (p + 4) (R.guarded E r true) e E₁ → t.rec e ≡ Else n
        → Types g (e + 3) (R.guarded E r false) n E₂ → t.rec n ≡ Endif
        → Types g (n + 1) (R.join E₁ E₂) q F → Types g p E q F
    loop : {p q e r : ℕ} {E E₁ F : R.Env} {L : Packed} → t.rec p ≡ While r e L → R.Within E (R.loop L) → R.Public (R.loop L) r
        → Types g (p + 11) (R.guarded (R.loop L) r true) e E₁ → t.rec e ≡ Endwhile p → R.Within E₁ (R.loop L)
        → Types g (e + 3) (R.guarded (R.loop L) r false) q F → Types g p E q F

  -- function f starts in its in-environment, and is within its out-environment at its RETURN
  pub record TypesFunction (f : ℕ) : Type 0 where
    pub last : R.Env
    pub body : Types f (t.start f) (R.enter f) (t.ret f) last
    pub returns : t.rec (t.ret f) ≡ Return
    pub fits : R.Within last (R.leave f)

  -- every function
  abbrev pub Every : Type 0
  Every = (f : ℕ) → f < t.functions → TypesFunction f
