-- The places of a derivation: how deep its blocks are nested, and the environment of each of its records.
use Rattle.std.specs.Prelude.{ℕ, suc, max, ◌≡◌, ◌⊎◌}
use Rattle.model.specs.Table.{Table}
use Rattle.model.specs.Blocks.{Rules, Types, done, one, branch, loop}

abbrev pub Here : {X : Type 0} → ℕ → X → ℕ → X → Type 0
Here p E c G = (c ≡ p) × (G ≡ E)

module _ (t : Table) (R : Rules) where
  -- how deep the blocks of a derivation are nested
  abbrev pub nesting : {g p q : ℕ} {E F : R.Env} → Types t R g p E q F → ℕ
  nesting done = 0
  nesting (one s n d) = nesting d
  nesting (branch i g a j b k z) = max (suc (max (nesting a) (nesting b))) (nesting z)
  nesting (loop i v g a j u z) = max (suc (nesting a)) (nesting z)

  -- place and environment of each record of a derivation
  abbrev pub Log : {g p q : ℕ} {E F : R.Env} → Types t R g p E q F → ℕ → R.Env → Type 0
  Log done c G = ⊥
  Log (one {p = p} {E = E} s n d) c G = Here p E c G ⊎ Log d c G
  Log (branch {p = p} {e = e} {n = n} {E = E} {E₁ = E₁} {E₂ = E₂} i g a j b k z) c G =
      Here p E c G ⊎ Log a c G ⊎ Here e E₁ c G ⊎ Log b c G ⊎ Here n E₂ c G ⊎ Log z c G
  Log (loop {p = p} {e = e} {E₁ = E₁} {L = L} i v g a j u z) c G = Here p (R.loop L) c G ⊎ Log a c G ⊎ Here e E₁ c G ⊎ Log z c G
