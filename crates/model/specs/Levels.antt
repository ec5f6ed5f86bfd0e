-- Document 01, "Levels, flag, environment": environments, within, join, for any number of slots. Their laws stand in
-- proofs/Levels.
use Rattle.std.specs.Prelude.{ℕ, ◌≤◌, ◌<◌, max, ◌≡◌, Bool, true, false, ◌&&◌, eqb, leb, [], ◌∷◌}
use Rattle.std.specs.Bool.{beq}
use Rattle.model.specs.Tests.{pick, all, below}
use Rattle.model.specs.declared.Status.{Status}
use Rattle.model.specs.declared.Status.TheVariants.{Unknown, Updated, Outdated}

-- a status, and a level for each register and array: 0 public, 1 transient, 2 secret
pub record Env : Type 0 where
  pub status : Status
  pub regs : ℕ → ℕ
  pub arrays : ℕ → ℕ

-- the second status is unknown or equal to the first
abbrev pub Covers : Status → Status → Type 0
Covers s Unknown = Unit {0}
Covers s Updated = s ≡ Updated
Covers s (Outdated r b) = s ≡ Outdated r b

-- E is within F, over n registers and m arrays
pub record Within (n m : ℕ) (E F : Env) : Type 0 where
  pub status : Covers E.status F.status
  pub regs : (i : ℕ) → i < n → E.regs i ≤ F.regs i
  pub arrays : (a : ℕ) → a < m → E.arrays a ≤ F.arrays a

-- equal statuses stay, others become unknown
unfoldable pub join_status : Status → Status → Status
join_status Unknown t = Unknown
join_status Updated Unknown = Unknown
join_status Updated Updated = Updated
join_status Updated (Outdated r b) = Unknown
join_status (Outdated r b) Unknown = Unknown
join_status (Outdated r b) Updated = Unknown
join_status (Outdated r b) (Outdated q c) = pick (eqb r q && beq b c) (Outdated r b) Unknown

abbrev pub join : Env → Env → Env
join E F = record { status = join_status E.status F.status; regs = λ i. max (E.regs i) (F.regs i); arrays = λ a. max (E.arrays a) (F.arrays a) }

-- ---- within, as a test
unfoldable pub same_status : Status → Status → Bool
same_status Unknown Unknown = true
same_status Unknown Updated = false
same_status Unknown (Outdated r b) = false
same_status Updated Unknown = false
same_status Updated Updated = true
same_status Updated (Outdated r b) = false
same_status (Outdated r b) Unknown = false
same_status (Outdated r b) Updated = false
same_status (Outdated r b) (Outdated q c) = eqb r q && beq b c

abbrev pub covers : Status → Status → Bool
covers s Unknown = true
covers s Updated = same_status s Updated
covers s (Outdated r b) = same_status s (Outdated r b)

abbrev pub levels_within : ℕ → (ℕ → ℕ) → (ℕ → ℕ) → Bool
levels_within n f g = below n (λ i. leb (f i) (g i))

unfoldable pub within : ℕ → ℕ → Env → Env → Bool
within n m E F = all (covers E.status F.status ∷ levels_within n E.regs F.regs ∷ levels_within m E.arrays F.arrays ∷ [])
