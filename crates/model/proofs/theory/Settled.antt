-- Settled levels, and order 3 in 02's words: "INIT turns every transient register and array public."
use Rattle.std.specs.Prelude.{ℕ, ◌≤◌, ◌≡◌, refl, false, T, leb}
use Rattle.std.proofs.Common.{arith, le_refl, subst, leb→le, le→leb}
use Rattle.model.specs.Tests.{pick, test}
use Rattle.model.specs.Levels.{Env}
use Rattle.model.specs.Rules.{settle, after}
use Rattle.model.specs.declared.Simple.TheVariants.{Init}

-- a settled level is 0, or the level itself, which is then secret
settle_ind : (l : ℕ) (P : ℕ → Type 0) → (l ≤ 1 → P 0) → (2 ≤ l → P l) → P (settle l)
unfolding settle
settle_ind l P f g = test (leb l 1) (λ b. P (pick b 0 l)) (λ e. f (leb→le l 1 (rw e tt))) (λ e. g (omega (arith, over e)))
  where
    over : leb l 1 ≡ false → (l ≤ 1 → ⊥)
    over e h = subst T e (le→leb l 1 h)

-- what settles to public or transient was public or transient
pub unsettled : (l : ℕ) → settle l ≤ 1 → l ≤ 1
unsettled l h = settle_ind l (λ k. k ≤ 1 → l ≤ 1) (λ p _. p) (λ _ p. p) h

-- settling raises nothing
pub settle_down : (l : ℕ) → settle l ≤ l
settle_down l = settle_ind l (λ k. k ≤ l) (λ _. omega arith) (λ _. le_refl l)

pub settle_mono : (l m : ℕ) → l ≤ m → settle l ≤ settle m
settle_mono l m h = settle_ind l (λ x. x ≤ settle m) (λ p. omega arith) (λ p. settle_ind m (λ y. l ≤ y) (λ q. omega arith) (λ q. h))

transient_settles : (l : ℕ) → l ≤ 1 → settle l ≡ 0
transient_settles l h = settle_ind l (λ k. k ≡ 0) (λ _. refl) (λ p. absurd (omega arith))

module _ (m : ℕ) (E : Env) where
  pub init_registers : (i : ℕ) → E.regs i ≤ 1 → (after m Init E).regs i ≡ 0
  init_registers i h = omega (arith, transient_settles (E.regs i) h)

  pub init_arrays : (a : ℕ) → E.arrays a ≤ 1 → (after m Init E).arrays a ≡ 0
  init_arrays a h = omega (arith, transient_settles (E.arrays a) h)
