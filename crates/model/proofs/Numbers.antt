-- A number has at most one fault, and no number has a fault and none: two permitted answers of `Fault::try_from` are
-- equal.
use Rattle.std.specs.Prelude.{ℕ, ◌≤◌, ◌<◌, ◌≡◌, ◌⊎◌, refl, eqb, Result, Ok, Err}
use Rattle.std.proofs.Common.{arith, sym, ap, ◌∙◌, inl, inr}
use Rattle.model.specs.Tests.{pick}
use Rattle.model.specs.Numbers.{fault_number, Numbered}
use Rattle.model.specs.declared.Fault.{Fault}
use Rattle.model.specs.declared.Fault.TheVariants.{TableTooLong, TableCut, WrongKind, OutOfRange, WrongPlace, TooDeep, CallNotLower, EntryUpdated, BytesAfterEnd, NotPublic, WrongStatus, LoopNotKept, CallDoesNotFit, ReturnDoesNotFit, WrongLength, BadList}
use Rattle.model.specs.declared.NoFault.{NoFault}

-- the fault of a number, some fault for every other
abbrev named : ℕ → Fault
named n =
    pick (eqb n 1) TableTooLong
    (pick (eqb n 2) TableCut
    (pick (eqb n 3) WrongKind
    (pick (eqb n 4) OutOfRange
    (pick (eqb n 5) WrongPlace
    (pick (eqb n 6) TooDeep
    (pick (eqb n 7) CallNotLower
    (pick (eqb n 8) EntryUpdated
    (pick (eqb n 9) BytesAfterEnd
    (pick (eqb n 10) NotPublic
    (pick (eqb n 11) WrongStatus
    (pick (eqb n 12) LoopNotKept
    (pick (eqb n 13) CallDoesNotFit
    (pick (eqb n 14) ReturnDoesNotFit
    (pick (eqb n 15) WrongLength
    BadList))))))))))))))

named_is : (f : Fault) → named (fault_number f) ≡ f
named_is TableTooLong = refl
named_is TableCut = refl
named_is WrongKind = refl
named_is OutOfRange = refl
named_is WrongPlace = refl
named_is TooDeep = refl
named_is CallNotLower = refl
named_is EntryUpdated = refl
named_is BytesAfterEnd = refl
named_is NotPublic = refl
named_is WrongStatus = refl
named_is LoopNotKept = refl
named_is CallDoesNotFit = refl
named_is ReturnDoesNotFit = refl
named_is WrongLength = refl
named_is BadList = refl

-- the numbers are 1 to 16
bounds : (f : Fault) → (1 ≤ fault_number f) × (fault_number f ≤ 16)
bounds TableTooLong = (omega arith, omega arith)
bounds TableCut = (omega arith, omega arith)
bounds WrongKind = (omega arith, omega arith)
bounds OutOfRange = (omega arith, omega arith)
bounds WrongPlace = (omega arith, omega arith)
bounds TooDeep = (omega arith, omega arith)
bounds CallNotLower = (omega arith, omega arith)
bounds EntryUpdated = (omega arith, omega arith)
bounds BytesAfterEnd = (omega arith, omega arith)
bounds NotPublic = (omega arith, omega arith)
bounds WrongStatus = (omega arith, omega arith)
bounds LoopNotKept = (omega arith, omega arith)
bounds CallDoesNotFit = (omega arith, omega arith)
bounds ReturnDoesNotFit = (omega arith, omega arith)
bounds WrongLength = (omega arith, omega arith)
bounds BadList = (omega arith, omega arith)

same : (f g : Fault) (n : ℕ) → fault_number f ≡ n → fault_number g ≡ n → f ≡ g
same f g n e h = sym (named_is f) ∙ ap named (e ∙ sym h) ∙ named_is g

apart : (f : Fault) (n : ℕ) → fault_number f ≡ n → (n < 1) ⊎ (16 < n) → ⊥
apart f n e (inl l) = let b = bounds f in omega (arith, b.0)
apart f n e (inr l) = let b = bounds f in omega (arith, b.1)

pub one_numbered : (n : ℕ) (r s : Result Fault NoFault) → Numbered n r → Numbered n s → r ≡ s
one_numbered n (Ok f) (Ok g) e h = ap Ok (same f g n e h)
one_numbered n (Ok f) (Err d) e h = absurd (apart f n e h.1)
one_numbered n (Err c) (Ok g) e h = absurd (apart g n h e.1)
one_numbered n (Err c) (Err d) e h = ap Err (λ i. record { 0 = (e.0 ∙ sym h.0) i })
