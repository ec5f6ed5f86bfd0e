-- The laws of environments (specs/Levels), for any number of slots: within is a partial order, the join its least upper
-- bound, and the test decides within.
use Rattle.std.specs.Prelude.{ℕ, ◌≤◌, ◌<◌, ◌≡◌, refl, Bool, true, false, ◌&&◌, eqb, leb, [], ◌∷◌}
use Rattle.std.proofs.Common.{arith, le_refl, le_trans, sym, subst, true≢false, leb-true, le-leb}
use Rattle.std.specs.Bool.{beq}
use Rattle.model.specs.Tests.{pick, all, Decides, same, both, below_all, all_below}
use Rattle.model.specs.declared.Status.{Status}
use Rattle.model.specs.declared.Status.TheVariants.{Unknown, Updated, Outdated}
use Rattle.model.specs.Levels.{Env, Covers, Within, join_status, join, same_status, covers, levels_within, within}

-- ---- within is a partial order
covers_refl : (s : Status) → Covers s s
covers_refl Unknown = tt
covers_refl Updated = refl
covers_refl (Outdated r b) = refl

covers_trans : (s t u : Status) → Covers s t → Covers t u → Covers s u
covers_trans s t Unknown p q = tt
covers_trans s t Updated p q = subst (λ (x : Status). Covers s x) q p
covers_trans s t (Outdated r b) p q = subst (λ (x : Status). Covers s x) q p

covers_antisym : (s t : Status) → Covers s t → Covers t s → s ≡ t
covers_antisym Unknown Unknown p q = refl
covers_antisym Unknown Updated p q = p
covers_antisym Unknown (Outdated r b) p q = p
covers_antisym Updated t p q = sym q
covers_antisym (Outdated r b) t p q = sym q

module _ (n m : ℕ) where
  pub within_refl : (E : Env) → Within n m E E
  within_refl E = record { status = covers_refl E.status; regs = λ i l. le_refl _; arrays = λ a l. le_refl _ }

  pub within_trans : (E F G : Env) → Within n m E F → Within n m F G → Within n m E G
  within_trans E F G p q = record {
    status = covers_trans E.status F.status G.status p.status q.status;
    regs = λ i l. le_trans (p.regs i l) (q.regs i l);
    arrays = λ a l. le_trans (p.arrays a l) (q.arrays a l);
  }

  -- environments within each other agree: status, registers, arrays
  pub within_antisym : (E F : Env) → Within n m E F → Within n m F E
      → (E.status ≡ F.status) × ((i : ℕ) → i < n → E.regs i ≡ F.regs i) × ((a : ℕ) → a < m → E.arrays a ≡ F.arrays a)
  within_antisym E F p q = (
    covers_antisym E.status F.status p.status q.status,
    λ i l. omega (arith, p.regs i l, q.regs i l),
    λ a l. omega (arith, p.arrays a l, q.arrays a l),
  )

-- ---- the join is the least upper bound
outdated_same : (r q : ℕ) (b c : Bool) (P : Status → Type 0) → P Unknown → ((r ≡ q) → (b ≡ c) → P (Outdated r b)) → P (pick (eqb r q && beq b c) (Outdated r b) Unknown)
outdated_same r q true true P u h = same r q (λ x. P (pick (x && true) (Outdated r true) Unknown)) (λ e. h e refl) (λ _. u)
outdated_same r q true false P u h = same r q (λ x. P (pick (x && false) (Outdated r true) Unknown)) (λ e. u) (λ _. u)
outdated_same r q false true P u h = same r q (λ x. P (pick (x && false) (Outdated r false) Unknown)) (λ e. u) (λ _. u)
outdated_same r q false false P u h = same r q (λ x. P (pick (x && true) (Outdated r false) Unknown)) (λ e. h e refl) (λ _. u)

covers_left : (s t : Status) → Covers s (join_status s t)
unfolding join_status
covers_left Unknown t = tt
covers_left Updated Unknown = tt
covers_left Updated Updated = refl
covers_left Updated (Outdated r b) = tt
covers_left (Outdated r b) Unknown = tt
covers_left (Outdated r b) Updated = tt
covers_left (Outdated r b) (Outdated q c) = outdated_same r q b c (Covers (Outdated r b)) tt (λ _ _. refl)

covers_right : (s t : Status) → Covers t (join_status s t)
unfolding join_status
covers_right Unknown t = tt
covers_right Updated Unknown = tt
covers_right Updated Updated = refl
covers_right Updated (Outdated r b) = tt
covers_right (Outdated r b) Unknown = tt
covers_right (Outdated r b) Updated = tt
covers_right (Outdated r b) (Outdated q c) = outdated_same r q b c (Covers (Outdated q c)) tt (λ e f. rw (e, f))

join_self : (s : Status) → join_status s s ≡ s
unfolding join_status
join_self Unknown = refl
join_self Updated = refl
join_self (Outdated r true) = same r r (λ x. pick (x && true) (Outdated r true) Unknown ≡ Outdated r true) (λ _. refl) (λ h. absurd (h refl))
join_self (Outdated r false) = same r r (λ x. pick (x && true) (Outdated r false) Unknown ≡ Outdated r false) (λ _. refl) (λ h. absurd (h refl))

covers_least : (s t u : Status) → Covers s u → Covers t u → Covers (join_status s t) u
covers_least s t Unknown p q = tt
covers_least s t Updated p q = rw (p, q) (join_self Updated)
covers_least s t (Outdated r b) p q = rw (p, q) (join_self (Outdated r b))

module _ (n m : ℕ) where
  pub join_left : (E F : Env) → Within n m E (join E F)
  join_left E F = record { status = covers_left E.status F.status; regs = λ i l. omega arith; arrays = λ a l. omega arith }

  pub join_right : (E F : Env) → Within n m F (join E F)
  join_right E F = record { status = covers_right E.status F.status; regs = λ i l. omega arith; arrays = λ a l. omega arith }

  pub join_least : (E F G : Env) → Within n m E G → Within n m F G → Within n m (join E F) G
  join_least E F G p q = record {
    status = covers_least E.status F.status G.status p.status q.status;
    regs = λ i l. omega (arith, p.regs i l, q.regs i l);
    arrays = λ a l. omega (arith, p.arrays a l, q.arrays a l);
  }

-- ---- the test decides within
beq_is : (b c : Bool) → Decides (b ≡ c) (beq b c)
beq_is true true = (λ _. refl, λ _. refl)
beq_is true false = (λ e. absurd (true≢false (sym e)), λ e. absurd (true≢false e))
beq_is false true = (λ e. absurd (true≢false (sym e)), λ e. absurd (true≢false (sym e)))
beq_is false false = (λ _. refl, λ _. refl)

outdated_is : (r q : ℕ) (b c : Bool) → Decides (Outdated r b ≡ Outdated q c) (eqb r q && beq b c)
outdated_is r q b c = same r q (λ x. Decides (Outdated r b ≡ Outdated q c) (x && beq b c))
    (λ e. (λ h. rw (e, (beq_is b c).0 h), λ h. (beq_is b c).1 (cc)))
    (λ n. (λ h. absurd (true≢false (sym h)), λ h. absurd (n (cc))))

-- two constructors are never equal
differ : (s t : Status) → (s ≡ t → ◌≡◌ {A = ℕ} 0 1) → Decides (s ≡ t) false
differ s t h = (λ e. absurd (true≢false (sym e)), λ e. let z = h e in absurd (omega arith))

pub same_status_is : (s t : Status) → Decides (s ≡ t) (same_status s t)
unfolding same_status
same_status_is Unknown Unknown = (λ _. refl, λ _. refl)
same_status_is Unknown Updated = differ Unknown Updated (λ e. cc)
same_status_is Unknown (Outdated r b) = differ Unknown (Outdated r b) (λ e. cc)
same_status_is Updated Unknown = differ Updated Unknown (λ e. cc)
same_status_is Updated Updated = (λ _. refl, λ _. refl)
same_status_is Updated (Outdated r b) = differ Updated (Outdated r b) (λ e. cc)
same_status_is (Outdated r b) Unknown = differ (Outdated r b) Unknown (λ e. cc)
same_status_is (Outdated r b) Updated = differ (Outdated r b) Updated (λ e. cc)
same_status_is (Outdated r b) (Outdated q c) = outdated_is r q b c

covers_is : (s t : Status) → Decides (Covers s t) (covers s t)
covers_is s Unknown = (λ _. tt, λ _. refl)
covers_is s Updated = same_status_is s Updated
covers_is s (Outdated r b) = same_status_is s (Outdated r b)

levels_within_is : (n : ℕ) (f g : ℕ → ℕ) → Decides ((i : ℕ) → i < n → f i ≤ g i) (levels_within n f g)
levels_within_is n f g = (λ h i l. leb-true (f i) (g i) (below_all n (λ j. leb (f j) (g j)) h i l), λ h. all_below n (λ j. leb (f j) (g j)) (λ i l. le-leb (f i) (g i) (h i l)))

pub within_is : (n m : ℕ) (E F : Env) → Decides (Within n m E F) (within n m E F)
unfolding within
within_is n m E F =
    let d = both (covers E.status F.status) (all (levels_within n E.regs F.regs ∷ levels_within m E.arrays F.arrays ∷ [])) (covers_is E.status F.status)
    (both (levels_within n E.regs F.regs) (all (levels_within m E.arrays F.arrays ∷ [])) (levels_within_is n E.regs F.regs) (alone (levels_within m E.arrays F.arrays) (levels_within_is m E.arrays F.arrays))) in
    (λ h. let w = d.0 h in record { status = w.0; regs = w.1.0; arrays = w.1.1 }, λ w. d.1 (w.status, (w.regs, w.arrays)))
  where
    alone : {A : Type 0} (b : Bool) → Decides A b → Decides A (all (b ∷ []))
    alone true h = h
    alone false h = h
