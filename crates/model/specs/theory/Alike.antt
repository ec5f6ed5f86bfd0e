-- Two data states that an environment allows side by side.
use Rattle.std.specs.Prelude.{ℕ, ◌≤◌, ◌<◌, ◌≡◌, Bool, true, false, length}
use Rattle.model.specs.Levels.{Env}
use Rattle.model.specs.Table.{Table}
use Rattle.model.specs.declared.Status.{Status}
use Rattle.model.specs.declared.Status.TheVariants.{Unknown, Updated, Outdated}
use Rattle.model.specs.Machine.{Data, words_of, reg, word_at, holds}

-- the highest level on which two runs agree
abbrev pub top : Bool → ℕ
top true = 0
top false = 1

-- what the status says of registers, misspeculation and flag, of one run
abbrev pub Flag : Status → (ℕ → ℕ) → Bool → Bool → Type 0
Flag Unknown x mis m = Unit {0}
Flag Updated x mis m = m ≡ mis
Flag (Outdated r s) x mis m = (holds (x r) s ≡ true → m ≡ mis) × (holds (x r) s ≡ false → mis ≡ true)

pub record Alike (t : Table) (E : Env) (mis : Bool) (x y : Data) : Type 0 where
  pub flag₁ : Flag E.status (reg x) mis x.masked
  pub flag₂ : Flag E.status (reg y) mis y.masked
  pub wide₁ : length x.regs ≡ t.registers
  pub wide₂ : length y.regs ≡ t.registers
  pub long : length x.mem ≡ length y.mem
  pub regs : (i : ℕ) → E.regs i ≤ top mis → reg x i ≡ reg y i
  pub mem : (a i : ℕ) → i < words_of t a → E.arrays a ≤ top mis → word_at t x a i ≡ word_at t y a i
