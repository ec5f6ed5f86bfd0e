-- The first fault of a function (10 to 14): records are typed in table order, and the first that asks too much is at
-- fault. One constructor for each way on to it; it stands beside Types, and mentions no checker.
use Rattle.std.specs.Prelude.{ℕ, ◌+◌, ◌<◌, ◌≡◌, true, false}
use Rattle.model.specs.Records.{length_of, Single}
use Rattle.model.specs.Table.{Table}
use Rattle.model.specs.Blocks.{Rules, Types, TypesFunction}
use Rattle.model.specs.declared.Fault.{Fault}
use Rattle.model.specs.declared.Fault.TheVariants.{NotPublic, LoopNotKept, ReturnDoesNotFit}
use Rattle.model.specs.declared.Packed.{Packed}
use Rattle.model.specs.declared.Record.{Record}
use Rattle.model.specs.declared.Record.TheVariants.{If, Else, Endif, While, Endwhile, Return}

-- fault: that of a single record whose needs are not met
module _ (t : Table) (R : Rules) (fault : Record → Fault) where
  -- in function g, typing from p with E meets its first fault, n, at k
  pub data Faults (g : ℕ) : ℕ → R.Env → Fault → ℕ → Type 0 where
    fails : {p : ℕ} {n : Fault} {E : R.Env} → Single (t.rec p) → (R.Needs g (t.rec p) E → ⊥) → n ≡ fault (t.rec p) → Faults g p E n p
    past : {p k : ℕ} {n : Fault} {E : R.Env} → Single (t.rec p) → R.Needs g (t.rec p) E
        → Faults g (p + length_of (t.rec p)) (R.after (t.rec p) E) n k → Faults g p E n k
    if_guard : {p e r : ℕ} {n : Fault} {E : R.Env} → t.rec p ≡ If r e → (R.Public E r → ⊥) → n ≡ NotPublic → Faults g p E n p
    if_first : {p e r k : ℕ} {n : Fault} {E : R.Env} → t.rec p ≡ If r e → R.Public E r → Faults g (p + 4) (R.guarded E r true) n k → Faults g p E n k
    if_second : {p e r m k : ℕ} {n : Fault} {E E₁ : R.Env} → t.rec p ≡ If r e → R.Public E r → Types t R g (p + 4) (R.guarded E r true) e E₁ → t.rec e ≡ Else m
        → Faults g (e + 3) (R.guarded E r false) n k → Faults g p E n k
    if_past : {p e r m k : ℕ} {n : Fault} {E E₁ E₂ : R.Env} → t.rec p ≡ If r e → R.Public E r → Types t R g (p + 4) (R.guarded E r true) e E₁ → t.rec e ≡ Else m
        → Types t R g (e + 3) (R.guarded E r false) m E₂ → t.rec m ≡ Endif → Faults g (m + 1) (R.join E₁ E₂) n k → Faults g p E n k
    while_arriving : {p e r : ℕ} {n : Fault} {E : R.Env} {L : Packed} → t.rec p ≡ While r e L → (R.Within E (R.loop L) → ⊥) → n ≡ LoopNotKept → Faults g p E n p
    while_guard : {p e r : ℕ} {n : Fault} {E : R.Env} {L : Packed} → t.rec p ≡ While r e L → R.Within E (R.loop L) → (R.Public (R.loop L) r → ⊥) → n ≡ NotPublic → Faults g p E n p
    while_body : {p e r k : ℕ} {n : Fault} {E : R.Env} {L : Packed} → t.rec p ≡ While r e L → R.Within E (R.loop L) → R.Public (R.loop L) r
        → Faults g (p + 11) (R.guarded (R.loop L) r true) n k → Faults g p E n k
    while_end : {p e r : ℕ} {n : Fault} {E E₁ : R.Env} {L : Packed} → t.rec p ≡ While r e L → R.Within E (R.loop L) → R.Public (R.loop L) r
        → Types t R g (p + 11) (R.guarded (R.loop L) r true) e E₁ → t.rec e ≡ Endwhile p → (R.Within E₁ (R.loop L) → ⊥) → n ≡ LoopNotKept → Faults g p E n e
    while_past : {p e r k : ℕ} {n : Fault} {E E₁ : R.Env} {L : Packed} → t.rec p ≡ While r e L → R.Within E (R.loop L) → R.Public (R.loop L) r
        → Types t R g (p + 11) (R.guarded (R.loop L) r true) e E₁ → t.rec e ≡ Endwhile p → R.Within E₁ (R.loop L)
        → Faults g (e + 3) (R.guarded (R.loop L) r false) n k → Faults g p E n k

  -- function f meets its first fault on the way, or at its RETURN
  pub data FaultsFunction (f : ℕ) : Fault → ℕ → Type 0 where
    on_the_way : {k : ℕ} {n : Fault} → Faults f (t.start f) (R.enter f) n k → FaultsFunction f n k
    at_return : {n : Fault} (F : R.Env) → Types t R f (t.start f) (R.enter f) (t.ret f) F → t.rec (t.ret f) ≡ Return → (R.Within F (R.leave f) → ⊥) → n ≡ ReturnDoesNotFit → FaultsFunction f n (t.ret f)

  -- the functions before f type, and f meets the fault
  pub record FirstFault (n : Fault) (k : ℕ) : Type 0 where
    pub function : ℕ
    pub lies : function < t.functions
    pub before : (g : ℕ) → g < function → TypesFunction t R g
    pub meets : FaultsFunction function n k
