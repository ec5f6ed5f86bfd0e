-- The answers as numbers, for programs in other languages: document 01's number and values for each case.
use Rattle.std.specs.Prelude.{ℕ, ◌≡◌, List, [], ◌∷◌, Ok, Err}
use Rattle.std.proofs.Common.{sym, ap, ◌∙◌}
use Rattle.model.specs.Tests.{pick}
use Rattle.model.specs.Numbers.{fault_number, stop_number}
use Rattle.typing.specs.Check.{Verdict}
use Rattle.message.specs.declared.Part.{Part}
use Rattle.message.specs.declared.Part.TheVariants.{Table}
use Rattle.machine.specs.Runs.{Outcome, Ran, ran}

-- number (0: the table passes), place, functions
abbrev pub verdict_numbers : Verdict → List ℕ
verdict_numbers (Ok a) = 0 ∷ 0 ∷ a.functions ∷ []
verdict_numbers (Err e) = fault_number e.fault ∷ e.place ∷ 0 ∷ []

-- which slice (0: the table, 1: the list), start, count
abbrev pub part_numbers : Part → List ℕ
part_numbers (Table a k) = 0 ∷ a ∷ k ∷ []
part_numbers (Part.List a k) = 1 ∷ a ∷ k ∷ []

-- number, place, steps, misspeculating, masked
abbrev pub outcome_numbers : Outcome → List ℕ
outcome_numbers (Err e) = fault_number e.fault ∷ e.place ∷ 0 ∷ 0 ∷ 0 ∷ []
outcome_numbers (Ok s) = stop_number s.stop ∷ s.place ∷ s.steps ∷ pick s.mis 1 0 ∷ pick s.masked 1 0 ∷ []

-- the answer, and registers, memory and observations afterwards
pub data Left : Type 0 where
  left : (answer regs mem obs : List ℕ) → Left

abbrev pub left_of : Ran → Left
left_of (ran o regs mem obs) = left (outcome_numbers o) regs mem obs

-- two permitted answers are equal. (Of likunjavo_check and likunjavo_shown the contract is an equation of the one
-- lent array.)
abbrev answer_in : Left → List ℕ
answer_in (left a regs mem obs) = a

abbrev regs_in : Left → List ℕ
regs_in (left a regs mem obs) = regs

abbrev mem_in : Left → List ℕ
mem_in (left a regs mem obs) = mem

abbrev obs_in : Left → List ℕ
obs_in (left a regs mem obs) = obs

pub one_left : (value : Left) (a regs mem obs b regs' mem' obs' : List ℕ) → left a regs mem obs ≡ value → left b regs' mem' obs' ≡ value
    → (a ≡ b) × (regs ≡ regs') × (mem ≡ mem') × (obs ≡ obs')
one_left value a regs mem obs b regs' mem' obs' x y =
    let e = x ∙ sym y in
    (ap answer_in e, ap regs_in e, ap mem_in e, ap obs_in e)
