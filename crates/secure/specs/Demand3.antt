-- DEMAND 3. Take a table that passes, and two starts at its entry function, neither misspeculating, both of the sizes
-- the table gives, with equal values in every register and array that the entry signature calls public or transient
-- on the way in. Secrets may differ. Under one same list of directives, wrong branches, wrong returns and stray
-- accesses included, with observation buffers of equal length, both runs record the same observations and stop after
-- the same number of steps for the same reason.
--
-- check_at is what typing::check answers, run_at what machine::run answers and leaves behind: the definitions that
-- their contracts cite.
use Rattle.std.specs.Prelude.{ℕ, ◌+◌, ◌≤◌, ◌<◌, ◌≡◌, refl, false, List, length, get_or, Ok, Err}
use Rattle.std.proofs.Common.{sym, ap, subst, ◌∙◌}
use Rattle.std.proofs.lemmas.List.Edits.{sets}
use borrow.Author.Tests.{eq-eqb}
use Rattle.model.specs.Table.{entry}
use Rattle.model.specs.Rules.{Typed}
use Rattle.model.specs.Machine.{Ctl, words_of, address, Final, final, run, start_ctl}
use Rattle.model.specs.TwoRuns.{Agree, SameShown}
use Rattle.model.proofs.TwoRuns.{secure}
use Rattle.model.specs.declared.Observation.{Observation}
use Rattle.format.specs.Format.{words_from}
use Rattle.format.specs.Layout.{sizes_of, table_of}
use Rattle.reading.specs.theory.Known.{known}
use Rattle.typing.specs.Check.{check_at}
use Rattle.typing.specs.Checked.{Readable, Pass, passes_exactly}
use Rattle.machine.specs.Directives.{Listed, list_at, directives_of, all_bytes}
use Rattle.machine.specs.Runs.{Ran, ran, total, ran_from, started, unless_refused, run_at}

-- ---- THE PREMISE on the two starts: registers and memory
pub record Starts (t : List ℕ) (regs₁ mem₁ regs₂ mem₂ : List ℕ) : Type 0 where
  -- both of the table's sizes
  pub wide₁ : length regs₁ ≡ (table_of t).registers
  pub wide₂ : length regs₂ ≡ (table_of t).registers
  pub long₁ : length mem₁ ≡ total (table_of t).words
  pub long₂ : length mem₂ ≡ total (table_of t).words
  -- equal in every register and array at level public or transient on the way in
  pub regs : (i : ℕ) → i < (table_of t).registers → ((table_of t).enter (entry (table_of t))).regs i ≤ 1 → get_or regs₁ i 0 ≡ get_or regs₂ i 0
  pub mem : (a i : ℕ) → i < words_of (table_of t) a → ((table_of t).enter (entry (table_of t))).arrays a ≤ 1
      → get_or mem₁ (address (table_of t) a i) 0 ≡ get_or mem₂ (address (table_of t) a i) 0

-- ---- THE CONCLUSION
-- Two answers, with what is left of the lent buffers obs₁ and obs₂: both refuse alike and leave all as lent; or both
-- stop for the same reason, at the same place, after the same number of steps, having written the same bytes
abbrev pub SameRan : (obs₁ obs₂ : List ℕ) → Ran → Ran → Type 0
SameRan obs₁ obs₂ (ran (Err e) r₁ m₁ o₁) (ran (Err f) r₂ m₂ o₂) = (e.fault ≡ f.fault) × (e.place ≡ f.place) × (o₁ ≡ obs₁) × (o₂ ≡ obs₂)
SameRan obs₁ obs₂ (ran (Err e) r₁ m₁ o₁) (ran (Ok s) r₂ m₂ o₂) = ⊥
SameRan obs₁ obs₂ (ran (Ok s) r₁ m₁ o₁) (ran (Err f) r₂ m₂ o₂) = ⊥
SameRan obs₁ obs₂ (ran (Ok s) r₁ m₁ o₁) (ran (Ok u) r₂ m₂ o₂) =
    (s.stop ≡ u.stop) × (s.place ≡ u.place) × (s.steps ≡ u.steps) × (s.mis ≡ u.mis) × ((bytes : List ℕ) × (o₁ ≡ sets obs₁ 0 bytes) × (o₂ ≡ sets obs₂ 0 bytes))

-- ---- DEMAND 3, of a notion of passing
abbrev pub Demand3 : (List ℕ → Type 0) → Type 0
Demand3 Passes =
    (t regs₁ mem₁ regs₂ mem₂ dirs obs₁ obs₂ : List ℕ) → Passes t → Starts t regs₁ mem₁ regs₂ mem₂ → length obs₁ ≡ length obs₂
    → SameRan obs₁ obs₂ (run_at t regs₁ mem₁ dirs obs₁) (run_at t regs₂ mem₂ dirs obs₂)

module _ (t regs₁ mem₁ regs₂ mem₂ dirs obs₁ obs₂ : List ℕ) where
  shown_same : (u v : Final) → SameShown u v → SameRan obs₁ obs₂ (ran_from obs₁ 0 0 u) (ran_from obs₂ 0 0 v)
  shown_same (final j n c x os) (final k m d y ps) (e₁, e₂, e₃, e₄) =
      (e₁, ap (λ (w : Ctl). w.place) e₃, ap (λ (w : ℕ). 0 + w) e₂, ap (λ (w : Ctl). w.mis) e₃, (all_bytes os, refl, ap (λ (w : List Observation). sets obs₂ 0 (all_bytes w)) (sym e₄)))

  listed_same : (l : Listed) (u v : Ran) → SameRan obs₁ obs₂ u v
      → SameRan obs₁ obs₂ (unless_refused l (λ e. ran (Err e) regs₁ mem₁ obs₁) (λ _. u)) (unless_refused l (λ e. ran (Err e) regs₂ mem₂ obs₂) (λ _. v))
  listed_same (Ok x) u v h = h
  listed_same (Err e) u v h = (refl, refl, refl, refl)

  module _ (pass : Pass t (check_at t)) (starts : Starts t regs₁ mem₁ regs₂ mem₂) (equal : length obs₁ ≡ length obs₂) where
    agree : Agree (table_of t) false (record { regs = regs₁; mem = mem₁; masked = false }) (record { regs = regs₂; mem = mem₂; masked = false })
    agree = record {
      wide₁ = starts.wide₁;
      wide₂ = starts.wide₂;
      long = starts.long₁ ∙ sym starts.long₂;
      regs = starts.regs;
      mem = starts.mem;
    }

    reads : Readable t
    reads = ((passes_exactly t).0 pass).0

    typed : Typed (table_of t)
    typed = ((passes_exactly t).0 pass).1

    -- the model's run with so much room for observations
    abbrev from : List ℕ → List ℕ → ℕ → Final
    from regs mem room = run (table_of t) (directives_of dirs) room (start_ctl (table_of t) false) (record { regs = regs; mem = mem; masked = false })

    started_same : SameRan obs₁ obs₂ (started (sizes_of t) t regs₁ mem₁ dirs obs₁) (started (sizes_of t) t regs₂ mem₂ dirs obs₂)
    started_same = subst (λ (room : ℕ). SameRan obs₁ obs₂ (ran_from obs₁ 0 0 (from regs₁ mem₁ (length obs₁))) (ran_from obs₂ 0 0 (from regs₂ mem₂ room))) equal
        (shown_same (from regs₁ mem₁ (length obs₁)) (from regs₂ mem₂ (length obs₁))
        (secure (table_of t) (known t (sizes_of t) reads) typed false (record { regs = regs₁; mem = mem₁; masked = false }) (record { regs = regs₂; mem = mem₂; masked = false }) agree (directives_of dirs) (length obs₁)))

    both_same : SameRan obs₁ obs₂ (run_at t regs₁ mem₁ dirs obs₁) (run_at t regs₂ mem₂ dirs obs₂)
    unfolding run_at
    both_same = rw (
      reads,
      eq-eqb (length regs₁) (sizes_of t).registers starts.wide₁,
      eq-eqb (length regs₂) (sizes_of t).registers starts.wide₂,
      eq-eqb (length mem₁) (total (words_from (sizes_of t) t (sizes_of t).arrays 0)) starts.long₁,
      eq-eqb (length mem₂) (total (words_from (sizes_of t) t (sizes_of t).arrays 0)) starts.long₂,
    )
        (listed_same (list_at dirs) (started (sizes_of t) t regs₁ mem₁ dirs obs₁) (started (sizes_of t) t regs₂ mem₂ dirs obs₂) started_same)

-- THE THEOREM: it holds of the check
pub demand_3 : Demand3 (λ t. Pass t (check_at t))
demand_3 t regs₁ mem₁ regs₂ mem₂ dirs obs₁ obs₂ pass starts equal = both_same t regs₁ mem₁ regs₂ mem₂ dirs obs₁ obs₂ pass starts equal
