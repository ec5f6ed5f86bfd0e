-- Document 01, "Numbers given back" and "The machine": the number of each fault and of each stop; and of each operation.
use Rattle.std.specs.Prelude.{ℕ, ◌≡◌, ◌<◌, ◌⊎◌, eqb, Result, Ok, Err, MatchResult}
use Rattle.model.specs.Tests.{pick}
use Rattle.model.specs.declared.Fault.{Fault}
use Rattle.model.specs.declared.Fault.TheVariants.{TableTooLong, TableCut, WrongKind, OutOfRange, WrongPlace, TooDeep, CallNotLower, EntryUpdated, BytesAfterEnd, NotPublic, WrongStatus, LoopNotKept, CallDoesNotFit, ReturnDoesNotFit, WrongLength, BadList}
use Rattle.model.specs.declared.NoFault.{NoFault}
use Rattle.model.specs.declared.Refusal.{Refusal}
use Rattle.model.specs.declared.Stop.{Stop}
use Rattle.model.specs.declared.Stop.TheVariants.{ListUsedUp, Returned, WrongDirective, InitMisspeculating, AccessOutOfRange, NoSuchTarget, NoRoom}
use Rattle.model.specs.declared.Operation.{Operation}
use Rattle.model.specs.declared.Operation.TheVariants.{Add, Sub, Mul, Xor, And, Or, Less, Equal}

abbrev pub fault_number : Fault → ℕ
fault_number TableTooLong = 1
fault_number TableCut = 2
fault_number WrongKind = 3
fault_number OutOfRange = 4
fault_number WrongPlace = 5
fault_number TooDeep = 6
fault_number CallNotLower = 7
fault_number EntryUpdated = 8
fault_number BytesAfterEnd = 9
fault_number NotPublic = 10
fault_number WrongStatus = 11
fault_number LoopNotKept = 12
fault_number CallDoesNotFit = 13
fault_number ReturnDoesNotFit = 14
fault_number WrongLength = 15
fault_number BadList = 16

-- the fault of a number, or none: 0, and all above 16
abbrev pub Numbered : ℕ → Result Fault NoFault → Type 0
Numbered n r = MatchResult r (λ f. fault_number f ≡ n) (λ e. (e.0 ≡ n) × ((n < 1) ⊎ (16 < n)))

-- a fault, and its place
abbrev pub refusal : Fault → ℕ → Refusal
refusal f p = record { fault = f; place = p }

-- what follows an answer that is no refusal; a refusal is handed on
abbrev pub then : {A B : Type 0} → Result A Refusal → (A → Result B Refusal) → Result B Refusal
then (Ok x) f = f x
then (Err e) f = Err e

abbrev pub stop_number : Stop → ℕ
stop_number ListUsedUp = 20
stop_number Returned = 21
stop_number WrongDirective = 22
stop_number InitMisspeculating = 23
stop_number AccessOutOfRange = 24
stop_number NoSuchTarget = 25
stop_number NoRoom = 26

-- the operation of a number below 8
abbrev pub operation_of : ℕ → Operation
operation_of n =
    pick (eqb n 0) Add
    (pick (eqb n 1) Sub
    (pick (eqb n 2) Mul
    (pick (eqb n 3) Xor
    (pick (eqb n 4) And
    (pick (eqb n 5) Or
    (pick (eqb n 6) Less
    Equal))))))
