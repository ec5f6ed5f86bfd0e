-- The tests (specs/Decide) decide document 01's rules.
use Rattle.std.specs.Prelude.{ℕ, ◌≡◌, refl, ◌↔◌, Bool, true, false, eqb, Option, Some, None, is_some, T}
use Rattle.std.proofs.Common.{subst, eqb-true, eq-eqb}
use Rattle.model.specs.Tests.{pick, Decides, pick_ind}
use Rattle.model.specs.Levels.{Env}
use Rattle.model.proofs.Levels.{within_is, same_status_is}
use Rattle.model.specs.Records.{by_singles}
use Rattle.model.specs.Table.{Table}
use Rattle.model.specs.Rules.{Needs, NeedsOf, typing}
use Rattle.model.specs.Walk.{Right}
use Rattle.model.specs.declared.Fault.{Fault}
use Rattle.model.specs.declared.Status.TheVariants.{Updated, Outdated}
use Rattle.model.specs.declared.Simple.{Simple}
use Rattle.model.specs.declared.Simple.TheVariants.{Const, Op, Select, Load, Store, Init, Update, Protect, LoadFixed, StoreFixed}
use Rattle.model.specs.declared.Record.{Record}
use Rattle.model.specs.declared.Record.TheVariants.{Do}
use Rattle.model.specs.Decide.{meets, simple_fault, fault_of, record_fault, meets_of, typing_tests}

level_is : (l : ℕ) → Decides (l ≡ 0) (eqb l 0)
level_is l = (eqb-true l 0, eq-eqb l 0)

asks_nothing : Decides (Unit {0}) true
asks_nothing = (λ _. tt, λ _. refl)

meets_is : (s : Simple) (E : Env) → Decides (Needs s E) (meets s E)
meets_is (Const d v) E = asks_nothing
meets_is (Op d o l r) E = asks_nothing
meets_is (Select d c y n) E = asks_nothing
meets_is (Load d a i) E = level_is (E.regs i)
meets_is (Store a i s) E = level_is (E.regs i)
meets_is Init E = asks_nothing
meets_is (Update r s) E = same_status_is E.status (Outdated r s)
meets_is (Protect d s) E = same_status_is E.status Updated
meets_is (LoadFixed d a i) E = asks_nothing
meets_is (StoreFixed a i s) E = asks_nothing

-- what is picked as none passed its test
sure : (b : Bool) (n : Fault) → pick b None (Some n) ≡ None → b ≡ true
sure true n e = refl
sure false n e = absurd (subst (λ (o : Option Fault). T (is_some o)) e tt)

pub fault_met : (s : Simple) (E : Env) → fault_of s E ≡ None → meets s E ≡ true
fault_met s E = sure (meets s E) (simple_fault s)

-- fault_of is none exactly where the record has what it asks, and else its own
pub fault_none : (s : Simple) (E : Env) → (fault_of s E ≡ None) ↔ Needs s E
fault_none s E = (λ e. (meets_is s E).0 (fault_met s E e), λ n. rw ((meets_is s E).1 n) refl)

pub fault_some : (s : Simple) (E : Env) → (Needs s E → ⊥) → fault_of s E ≡ Some (record_fault (Do s))
fault_some s E f = pick_ind (λ n. n ≡ Some (simple_fault s)) (meets s E) (λ e. absurd (f ((meets_is s E).0 e))) (λ _. refl)

module _ (t : Table) where
  meets_of_is : (i : Record) (E : Env) → Decides (NeedsOf t i E) (meets_of t i E)
  meets_of_is i E = by_singles (λ _. Decides) (λ s. meets_is s E) (λ f m. within_is t.registers t.arrays E (t.enter f)) (λ _. asks_nothing) i

  pub typing_right : (g : ℕ) → Right (typing t) (typing_tests t) g
  typing_right g = record { within = within_is t.registers t.arrays; public = λ E r. level_is (E.regs r); meets = meets_of_is }
