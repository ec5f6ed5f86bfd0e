-- Environments in which no slot is 3 and the slots that a table does not use are public; and what holds of the
-- environments where a walk came.
use Prim.Native.Nat.{ℕ}
use Rattle.model.specs.Levels.{Env}
use Rattle.model.specs.theory.Words.{NoThree, Levelled}
use Rattle.model.specs.Walk.{Walking, Onward, Closed, Halt, Ending, Reached, Failed}

-- over n registers and m arrays
pub record Whole (n m : ℕ) (E : Env) : Type 0 where
  pub regs : Levelled n E.regs
  pub arrays : Levelled m E.arrays

-- no slot is 3, used or not
abbrev pub NoThrees : Env → Type 0
NoThrees E = NoThree E.regs × NoThree E.arrays

-- P of the environment where the walk of a record came, and where that of a block ended
abbrev pub Where : (Env → Type 0) → Walking Env → Type 0
Where P (Onward p E) = P E
Where P (Closed p E) = P E
Where P (Halt n p) = Unit {0}

abbrev pub WhereEnds : (Env → Type 0) → Ending Env → Type 0
WhereEnds P (Reached p E) = P E
WhereEnds P (Failed n p) = Unit {0}
