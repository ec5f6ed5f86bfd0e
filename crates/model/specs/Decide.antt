-- Document 01's rules as tests, with the numbers of their faults. That the tests decide the rules stands in
-- proofs/Decide.
use Rattle.std.specs.Prelude.{Bool, true, eqb, Option, Some, None}
use Rattle.model.specs.Tests.{pick}
use Rattle.model.specs.Levels.{Env, within, same_status}
use Rattle.model.specs.Records.{by_single}
use Rattle.model.specs.Table.{Table}
use Rattle.model.specs.Rules.{typing}
use Rattle.model.specs.Walk.{Tests}
use Rattle.model.specs.declared.Fault.{Fault}
use Rattle.model.specs.declared.Fault.TheVariants.{NotPublic, WrongStatus, CallDoesNotFit}
use Rattle.model.specs.declared.Status.TheVariants.{Updated, Outdated}
use Rattle.model.specs.declared.Simple.{Simple}
use Rattle.model.specs.declared.Simple.TheVariants.{Const, Op, Select, Load, Store, Init, Update, Protect, LoadFixed, StoreFixed}
use Rattle.model.specs.declared.Record.{Record}

-- the environment gives a simple record what it asks
abbrev pub meets : Simple → Env → Bool
meets (Const d v) E = true
meets (Op d o l r) E = true
meets (Select d c y n) E = true
meets (Load d a i) E = eqb (E.regs i) 0
meets (Store a i s) E = eqb (E.regs i) 0
meets Init E = true
meets (Update r s) E = same_status E.status (Outdated r s)
meets (Protect d s) E = same_status E.status Updated
meets (LoadFixed d a i) E = true
meets (StoreFixed a i s) E = true

-- 10: index not public. 11: status not as UPDATE or PROTECT needs. The others ask nothing, so that what stands for
-- them here is never given
abbrev pub simple_fault : Simple → Fault
simple_fault (Const d v) = NotPublic
simple_fault (Op d o l r) = NotPublic
simple_fault (Select d c y n) = NotPublic
simple_fault (Load d a i) = NotPublic
simple_fault (Store a i s) = NotPublic
simple_fault Init = NotPublic
simple_fault (Update r s) = WrongStatus
simple_fault (Protect d s) = WrongStatus
simple_fault (LoadFixed d a i) = NotPublic
simple_fault (StoreFixed a i s) = NotPublic

-- the fault that a simple record has in an environment, if any: the one answer that says both
abbrev pub fault_of : Simple → Env → Option Fault
fault_of s E = pick (meets s E) None (Some (simple_fault s))

-- 13: not within the callee's in. The records of blocks have 10, 12 and 14 by the walk
abbrev pub record_fault : Record → Fault
record_fault = by_single simple_fault (λ f m. CallDoesNotFit) NotPublic

module _ (t : Table) where
  abbrev pub meets_of : Record → Env → Bool
  meets_of i E = by_single (λ s. meets s E) (λ f m. within t.registers t.arrays E (t.enter f)) true i

  abbrev pub typing_tests : Tests (typing t)
  typing_tests = record { within = within t.registers t.arrays; public = λ E r. eqb (E.regs r) 0; meets = meets_of; fault = record_fault }
