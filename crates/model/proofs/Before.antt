-- A table that the rules before order 3 type (specs/Before), the rules type now.
use Rattle.std.specs.Prelude.{ℕ, refl}
use Rattle.std.proofs.Common.{arith, le_refl}
use Rattle.model.specs.Levels.{Env, Within}
use Rattle.model.proofs.Levels.{within_refl}
use Rattle.model.specs.Table.{Table}
use Rattle.model.specs.Rules.{after, Typed}
use Rattle.model.proofs.theory.Settled.{settle_down}
use Rattle.model.proofs.theory.Monotone.{function_below}
use Rattle.model.specs.declared.Simple.{Simple}
use Rattle.model.specs.declared.Simple.TheVariants.{Const, Op, Select, Load, Store, Init, Update, Protect, LoadFixed, StoreFixed}
use Rattle.model.specs.Before.{after_before, TypedBefore}

-- they left nothing lower than the rules do now
higher : (n m : ℕ) (s : Simple) (E : Env) → Within n m (after m s E) (after_before m s E)
higher n m (Const d v) E = within_refl n m _
higher n m (Op d o l r) E = within_refl n m _
higher n m (Select d c y k) E = within_refl n m _
higher n m (Load d a i) E = within_refl n m _
higher n m (Store a i s) E = within_refl n m _
higher n m Init E = record { status = refl; regs = λ i _. le_refl _; arrays = λ a _. omega (arith, settle_down (E.arrays a)) }
higher n m (Update r s) E = within_refl n m _
higher n m (Protect d s) E = within_refl n m _
higher n m (LoadFixed d a i) E = within_refl n m _
higher n m (StoreFixed a i s) E = within_refl n m _

-- EVERY TABLE THAT THEY TYPE, THE RULES TYPE NOW
pub still_typed : (t : Table) → TypedBefore t → Typed t
still_typed t d f l = function_below t (after_before t.arrays) (higher t.registers t.arrays) f (d f l)
