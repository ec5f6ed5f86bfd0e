-- Two permitted answers are equal: whatever two programs meet a contract, they answer alike, and leave every lent
-- word alike. Each premise is that function's contract as it stands in the source, over the values of its arguments.
-- Here are the library's three main functions. message::shown, whose answer is a lent part, has its own
-- (Rattle.message.specs.OneAnswer), and so have the exported run (Rattle.likunjavo.specs.Numbers), Fault::try_from
-- (one_numbered, Rattle.model.proofs.Numbers) and WordEnv::from (one_env, Rattle.typing.specs.Slots). The contracts of
-- the other public functions (of Fault and Stop, levels, format, head, layout, records, message::part_of, report, the
-- exported check and message) are equations between each part of the answer, or a lent slice afterwards, and a value
-- that the arguments fix: one_of is for each such part.
use Rattle.std.specs.Prelude.{ℕ, ◌≡◌, List, Result}
use Rattle.std.proofs.Common.{sym, ap, ◌∙◌}
use Rattle.reading.specs.Reading.{read_at}
use Rattle.model.specs.declared.Refusal.{Refusal}
use Rattle.model.specs.declared.Sizes.{Sizes}
use Rattle.typing.specs.Check.{Verdict, check_at}
use Rattle.machine.specs.Runs.{Outcome, Ran, ran, run_at}

-- an answer, or a lent slice afterwards, that a contract equates with a value
pub one_of : {A : Type 0} (value a b : A) → a ≡ value → b ≡ value → a ≡ b
one_of value a b x y = x ∙ sym y

-- reading::read
pub one_reading : (t : List ℕ) (a b : Result Sizes Refusal) → a ≡ read_at t → b ≡ read_at t → a ≡ b
one_reading t a b = one_of (read_at t) a b

-- typing::check
pub one_verdict : (t : List ℕ) (a b : Verdict) → a ≡ check_at t → b ≡ check_at t → a ≡ b
one_verdict t a b = one_of (check_at t) a b

-- the parts of what a run answers and leaves behind
abbrev outcome_of : Ran → Outcome
outcome_of (ran a regs mem obs) = a

abbrev regs_of : Ran → List ℕ
regs_of (ran a regs mem obs) = regs

abbrev mem_of : Ran → List ℕ
mem_of (ran a regs mem obs) = mem

abbrev obs_of : Ran → List ℕ
obs_of (ran a regs mem obs) = obs

-- machine::run: the answer, and registers, memory and observations afterwards
pub one_run : (t regs mem dirs obs : List ℕ) (a b : Outcome) (regs₁ mem₁ obs₁ regs₂ mem₂ obs₂ : List ℕ)
    → ran a regs₁ mem₁ obs₁ ≡ run_at t regs mem dirs obs → ran b regs₂ mem₂ obs₂ ≡ run_at t regs mem dirs obs
    → (a ≡ b) × (regs₁ ≡ regs₂) × (mem₁ ≡ mem₂) × (obs₁ ≡ obs₂)
one_run t regs mem dirs obs a b regs₁ mem₁ obs₁ regs₂ mem₂ obs₂ x y =
    (ap outcome_of (x ∙ sym y), ap regs_of (x ∙ sym y), ap mem_of (x ∙ sym y), ap obs_of (x ∙ sym y))
