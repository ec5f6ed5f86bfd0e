-- Document 01, a run over bytes: refusals 1 to 9, 15, 16 leave everything as lent; else the model's run of the table
-- that the bytes stand for, its observations as bytes at the start of the buffer.
use Rattle.std.specs.Prelude.{ℕ, ◌+◌, Bool, false, List, [], ◌∷◌, length, ◌==◌, Result, Ok, Err}
use Rattle.std.proofs.lemmas.List.Edits.{sets}
use Rattle.model.specs.Tests.{pick}
use Rattle.model.specs.Numbers.{refusal}
use Rattle.model.specs.Machine.{Data, Final, final, run, start_ctl}
use Rattle.model.specs.declared.Fault.TheVariants.{WrongLength}
use Rattle.model.specs.declared.Refusal.{Refusal}
use Rattle.model.specs.declared.Sizes.{Sizes}
use Rattle.format.specs.Format.{words_from}
use Rattle.format.specs.Layout.{table_with}
use Rattle.reading.specs.Reading.{read_at}
use Rattle.machine.specs.declared.End.{End}
use Rattle.machine.specs.Directives.{list_at, directives_of, all_bytes}

abbrev pub Outcome : Type 0
Outcome = Result End Refusal

-- the answer, and registers, memory and observations afterwards
pub data Ran : Type 0 where
  ran : Outcome → (regs mem obs : List ℕ) → Ran

-- all the arrays' words together
unfoldable pub total : List ℕ → ℕ
total [] = 0
total (w ∷ ws) = w + total ws

-- n steps were made before, and `seen` bytes of the buffer written
abbrev pub ran_from : List ℕ → ℕ → ℕ → Final → Ran
ran_from obs seen n (final k m c x os) =
    ran (Ok (record { stop = k; place = c.place; steps = n + m; mis = c.mis; masked = x.masked }))
    x.regs x.mem (sets obs seen (all_bytes os))

-- from 01's start
abbrev pub started : Sizes → List ℕ → List ℕ → List ℕ → List ℕ → List ℕ → Ran
started z t regs mem dirs obs =
    let table = table_with z t in
    let x : Data = record { regs = regs; mem = mem; masked = false } in
    ran_from obs 0 0 (run table (directives_of dirs) (length obs) (start_ctl table false) x)

-- registers and memory are of the table's sizes
abbrev pub fitting : Sizes → List ℕ → ℕ → ℕ → Bool
fitting z t regs mem = pick (regs == z.registers) (mem == total (words_from z t z.arrays 0)) false

-- a refusal, or what follows an answer that is none
abbrev pub unless_refused : {A : Type 0} → Result A Refusal → (Refusal → Ran) → (A → Ran) → Ran
unless_refused (Ok x) refuse go = go x
unless_refused (Err e) refuse go = refuse e

unfoldable pub run_at : List ℕ → List ℕ → List ℕ → List ℕ → List ℕ → Ran
run_at t regs mem dirs obs =
    let refuse : Refusal → Ran = λ e. ran (Err e) regs mem obs in
    unless_refused (read_at t) refuse (λ z.
    pick (fitting z t (length regs) (length mem))
    (unless_refused (list_at dirs) refuse (λ _. started z t regs mem dirs obs))
    (refuse (refusal WrongLength 0)))
