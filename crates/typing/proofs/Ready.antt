-- What a table that reads is: the ghost fields of `ReadTable`.
use Prim.Native.Nat.{ℕ, ◌≤◌}
use native.Mathlib.Omega.{arith}
use Rattle.std.specs.Prelude.{◌≡◌, Ok, List, length}
use mathlib.Core.Path.{ap, ◌∙◌}
use Rattle.model.specs.declared.Sizes.{Sizes}
use Rattle.reading.specs.theory.Limits.{read_limits}
use Rattle.reading.specs.Reading.{read_at}
use Rattle.typing.specs.Envs.{Small, AllSigned}
use Rattle.typing.specs.Slots.{enters, leaves}

module _ (t : List ℕ) (z : Sizes) (e : read_at t ≡ Ok z) where
  pub ready_small : Small z
  ready_small = let w = read_limits t z e in rw w.0 record { registers = w.1.registers; arrays = omega (arith, w.1.arrays) }

  pub ready_signed : AllSigned z t
  ready_signed =
      let w = read_limits t z e in
      let r = e ∙ ap (λ (y : Sizes). Ok y) w.0 in
      rw w.0 (λ f l. (enters t r f l, leaves t r f l))

  pub ready_short : length t ≤ 32768
  ready_short = (read_limits t z e).2
