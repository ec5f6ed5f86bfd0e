-- A table as its reader sees it: the record at each place, the sizes, the signatures.
use Rattle.std.specs.Prelude.{ℕ, ◌-◌, ◌≡◌, List, length}
use Rattle.model.specs.Levels.{Env}
use Rattle.model.specs.Records.{Fits, Reaches, Keeps}
use Rattle.model.specs.declared.Record.{Record}

pub record Table : Type 0 where
  pub rec : ℕ → Record  -- the record at a place
  pub registers : ℕ
  pub arrays : ℕ
  pub words : List ℕ  -- the words of each array
  pub counted : length words ≡ arrays
  pub fits : (p : ℕ) → Fits registers arrays (rec p)
  pub reaches : (p : ℕ) → Reaches words (rec p)
  pub functions : ℕ
  pub keeps : (p : ℕ) → Keeps registers arrays functions (rec p)
  pub start : ℕ → ℕ  -- of a function: its first place
  pub ret : ℕ → ℕ  -- of a function: its RETURN
  pub enter : ℕ → Env  -- of a function: its in-environment
  pub leave : ℕ → Env  -- of a function: its out-environment
  pub size : ℕ  -- the table's bytes: the code ends there

-- the last function
abbrev pub entry : Table → ℕ
entry t = t.functions - 1
