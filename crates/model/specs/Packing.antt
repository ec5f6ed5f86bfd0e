-- Document 01, "Packed environment, 7 bytes": a status byte, two bits a register, two bits an array.
use Rattle.std.specs.Prelude.{ℕ, zero, suc, ◌/◌, ◌%◌, Bool, false, [], ◌∷◌, eqb, ltb}
use Rattle.model.specs.Tests.{pick, all}
use Rattle.model.specs.Levels.{Env}
use Rattle.model.specs.declared.Status.{Status}
use Rattle.model.specs.declared.Status.TheVariants.{Unknown, Updated}
use Rattle.model.specs.declared.Packed.{Packed}

-- the level of slot i in the word w, slot 0 lowest
unfoldable pub slot : ℕ → ℕ → ℕ
slot w zero = w % 4
slot w (suc i) = slot (w / 4) i

-- status: 0 unknown, 1 updated
abbrev pub status_of : ℕ → Status
status_of b = pick (eqb b 1) Updated Unknown

-- what seven bytes mean
abbrev pub env_of : Packed → Env
env_of e = record { status = status_of e.status; regs = slot e.registers; arrays = slot e.arrays }

-- n slots: none is 3, and what is above them is 0
unfoldable pub levels_in : ℕ → ℕ → Bool
levels_in zero w = eqb w 0
levels_in (suc n) w = pick (eqb (w % 4) 3) false (levels_in n (w / 4))

-- the environment that a table of n registers and m arrays may hold (fault 4)
unfoldable pub packed_in : ℕ → ℕ → Packed → Bool
packed_in n m e = all (ltb e.status 2 ∷ levels_in n e.registers ∷ levels_in m e.arrays ∷ [])
