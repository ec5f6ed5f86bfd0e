-- What the checker's environment stands for: the level in each slot. Only this file and its functions know how it is
-- kept.
use Rattle.std.specs.Prelude.{ℕ, ◌<◌, ◌≤◌, List}
use Rattle.model.specs.Levels.{Env}
use Rattle.model.specs.Packing.{slot, env_of}
use Rattle.model.specs.theory.Whole.{Whole}
use Rattle.model.specs.declared.Sizes.{Sizes}
use Rattle.model.specs.declared.Status.{Status}
use Rattle.format.specs.Layout.{in_of, out_of}
use Rattle.typing.specs.declared.environments.WordEnv.{WordEnv}

-- .. of a status, and of two packed words
abbrev pub env_from : Status → ℕ → ℕ → Env
env_from s r a = record { status = s; regs = slot r; arrays = slot a }

abbrev pub view_env : WordEnv → Env
view_env e = env_from e.status e.registers.0 e.arrays.0

-- no slot is 3, and the slots that the table does not use are 0
abbrev pub Fit : Sizes → Env → Type 0
Fit z = Whole z.registers z.arrays

-- .. of both environments in the signature of f
abbrev pub Signed : Sizes → List ℕ → ℕ → Type 0
Signed z t f = Fit z (env_of (in_of z t f)) × Fit z (env_of (out_of z t f))

-- .. in every signature
abbrev pub AllSigned : Sizes → List ℕ → Type 0
AllSigned z t = (f : ℕ) → f < z.functions → Signed z t f

-- the sizes fit the slots
pub record Small (z : Sizes) : Type 0 where
  pub registers : z.registers ≤ 16
  pub arrays : z.arrays ≤ 16
