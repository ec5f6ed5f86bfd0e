-- Tests with two answers, and a function changed at one place.
use Rattle.std.specs.Prelude.{ℕ, zero, suc, ◌<◌, ◌≡◌, refl, Bool, true, false, List, [], ◌∷◌, T, eqb}
use Rattle.std.proofs.Common.{arith, sym, subst, ◌∙◌, true≢false, eqb→eq}
use Rattle.std.proofs.Math.Decide.{ℕ_discrete}
use Rattle.std.proofs.Math.Dec.{eqb_refl}

-- the first where the test holds, else the second
abbrev pub pick {ℓ} : {A : Type ℓ} → Bool → A → A → A
pick true a b = a
pick false a b = b

-- every test holds
abbrev pub all : List Bool → Bool
all [] = true
all (b ∷ bs) = pick b (all bs) false

-- p holds of every number below n
unfoldable pub below : ℕ → (ℕ → Bool) → Bool
below zero p = true
below (suc n) p = pick (p n) (below n p) false

-- f with v at d
abbrev pub put : (ℕ → ℕ) → ℕ → ℕ → ℕ → ℕ
put f d v i = pick (eqb i d) v (f i)

-- the test b decides A
abbrev pub Decides : Type 0 → Bool → Type 0
Decides A b = (b ≡ true → A) × (A → b ≡ true)

-- whatever is said of a test is said of its two answers
pub test : (b : Bool) (P : Bool → Type 0) → (b ≡ true → P true) → (b ≡ false → P false) → P b
test true P f g = f refl
test false P f g = g refl

pub same : (i d : ℕ) (P : Bool → Type 0) → (i ≡ d → P true) → ((i ≡ d → ⊥) → P false) → P (eqb i d)
same i d P f g = go (eqb i d) refl
  where
    go : (b : Bool) → eqb i d ≡ b → P b
    go true e = f (eqb→eq i d (rw e tt))
    go false e = g (λ h. subst T e (subst (λ (j : ℕ). T (eqb i j)) h (eqb_refl i)))

pub put_same : (f : ℕ → ℕ) (d v : ℕ) → put f d v d ≡ v
put_same f d v = same d d (λ b. pick b v (f d) ≡ v) (λ _. refl) (λ n. absurd (n refl))

-- whatever is said of what a test picks
pub pick_ind : {A : Type 0} (P : A → Type 0) (b : Bool) {x y : A} → (b ≡ true → P x) → (b ≡ false → P y) → P (pick b x y)
pick_ind P true h k = h refl
pick_ind P false h k = k refl

-- two equal answers need no test
pub pick_same : {A : Type 0} (b : Bool) (x : A) → pick b x x ≡ x
pick_same true x = refl
pick_same false x = refl

pub below_all : (n : ℕ) (p : ℕ → Bool) → below n p ≡ true → (i : ℕ) → i < n → p i ≡ true
unfolding below
below_all zero p h i l = absurd (omega arith)
below_all (suc n) p h i l = go (p n) refl (below_all n p)
  where
    go : (b : Bool) → p n ≡ b → (below n p ≡ true → (i : ℕ) → i < n → p i ≡ true) → p i ≡ true
    go true e ih = last (ℕ_discrete i n)
      where
        last : Dec (i ≡ n) → p i ≡ true
        last (yes q) = rw q e
        last (no q) = ih (sym (rw e) ∙ h) i (omega arith)
    go false e ih = absurd (true≢false (sym h ∙ rw e))

pub all_below : (n : ℕ) (p : ℕ → Bool) → ((i : ℕ) → i < n → p i ≡ true) → below n p ≡ true
unfolding below
all_below zero p h = refl
all_below (suc n) p h = rw (h n (omega arith)) (all_below n p (λ i l. h i (omega arith)))

-- one that fails is enough
pub below_fails : (n : ℕ) (p : ℕ → Bool) (i : ℕ) → i < n → p i ≡ false → below n p ≡ false
below_fails n p i l e = test (below n p) (λ b. b ≡ false) (λ h. absurd (true≢false (sym (below_all n p h i l) ∙ e))) (λ _. refl)

-- two tests, each deciding its own
pub both : {A B : Type 0} (a b : Bool) → Decides A a → Decides B b → Decides (A × B) (pick a b false)
both true b (f, g) (h, k) = (λ e. (f refl, h e), λ w. k w.1)
both false b (f, g) (h, k) = (λ e. absurd (true≢false (sym e)), λ w. g w.0)

-- every test of a list holds
abbrev pub Trues : List Bool → Type 0
Trues [] = Unit {0}
Trues (b ∷ bs) = (b ≡ true) × Trues bs

pub trues : (bs : List Bool) → all bs ≡ true → Trues bs
trues [] h = tt
trues (true ∷ bs) h = (refl, trues bs h)
trues (false ∷ bs) h = absurd (true≢false (sym h))
