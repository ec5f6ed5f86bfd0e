-- Where a run can stand, typed or not: at a record of the code, with a stack of places that follow calls.
use Rattle.std.specs.Prelude.{ℕ}
use Rattle.model.specs.Table.{Table}
use Rattle.model.specs.Rules.{reading}
use Rattle.model.specs.Machine.{Ctl, Final, final}
use Rattle.model.specs.theory.Flow.{To, Frames}
use Rattle.model.specs.theory.Code.{Known, At}

module _ (t : Table) (reads : Known t) where
  abbrev pub Place : ℕ → ℕ → Unit {0} → Type 0
  Place = At t reads reading reads.blocks

  abbrev pub On : ℕ → ℕ → Type 0
  On f p = To t reading Place f p tt

  pub record Stands (c : Ctl) : Type 0 where
    pub function : ℕ
    pub here : On function c.place
    pub frames : Frames t reading Place function c.stack

  abbrev pub EndStands : Final → Type 0
  EndStands (final k n c x os) = Stands c
