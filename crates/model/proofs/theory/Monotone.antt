-- Every rule is monotone: a lower environment types wherever a higher one does, and ends lower. So do lower rules.
use Rattle.std.specs.Prelude.{ℕ, ◌≤◌, ◌<◌, max, ◌≡◌, refl, Bool, true, false, ltb}
use Rattle.std.proofs.Common.{arith, le_refl, subst}
use Rattle.model.specs.Tests.{pick, same, test}
use Rattle.model.specs.Levels.{Env, Covers, Within, join}
use Rattle.model.proofs.Levels.{within_refl, within_trans, join_left, join_right, join_least}
use Rattle.model.specs.Records.{SimpleFits, Fits, by_singles}
use Rattle.model.specs.Packing.{env_of}
use Rattle.model.specs.Table.{Table}
use Rattle.model.specs.Rules.{kill, guard_status, settle, written, raised, guarded, spilled, beside, Needs, after, NeedsOf, returned, after_by, after_of, typing_by, typing}
use Rattle.model.proofs.theory.Settled.{settle_mono}
use Rattle.model.specs.Blocks.{Types, done, one, branch, loop, TypesFunction}
use Rattle.model.specs.declared.Status.{Status}
use Rattle.model.specs.declared.Status.TheVariants.{Unknown, Updated, Outdated}
use Rattle.model.specs.declared.Simple.{Simple}
use Rattle.model.specs.declared.Simple.TheVariants.{Const, Op, Select, Load, Store, Init, Update, Protect, LoadFixed, StoreFixed}
use Rattle.model.specs.declared.Record.{Record}
use Rattle.model.specs.declared.Record.TheVariants.{If}

kill_mono : (d : ℕ) (s u : Status) → Covers s u → Covers (kill d s) (kill d u)
unfolding kill
kill_mono d s Unknown h = tt
kill_mono d s Updated h = rw h
kill_mono d s (Outdated r b) h = rw h (same r d (λ x. Covers (pick x Unknown (Outdated r b)) (pick x Unknown (Outdated r b))) (λ _. tt) (λ _. refl))

guard_mono : (r : ℕ) (b : Bool) (s u : Status) → Covers s u → Covers (guard_status r b s) (guard_status r b u)
unfolding guard_status
guard_mono r b s Unknown h = tt
guard_mono r b s Updated h = rw h
guard_mono r b s (Outdated q c) h = tt

beside_mono : (n l m b v w : ℕ) → l ≤ m → v ≤ w → beside n l b v ≤ beside n m b w
unfolding beside
beside_mono n l m b v w p q = test (ltb b n) (λ x. pick x (max v (spilled l)) v ≤ pick x (max w (spilled m)) w) (λ _. omega arith) (λ _. q)

module _ (n m : ℕ) (E F : Env) (w : Within n m E F) where
  written_mono : (d l k : ℕ) → l ≤ k → Within n m (written E d l) (written F d k)
  written_mono d l k h = record {
    status = kill_mono d E.status F.status w.status;
    regs = λ i p. same i d (λ b. pick b l (E.regs i) ≤ pick b k (F.regs i)) (λ _. h) (λ _. w.regs i p);
    arrays = w.arrays;
  }

  raised_mono : (others others' : ℕ → ℕ) (a l k : ℕ) → a < m → ((b : ℕ) → b < m → others b ≤ others' b) → l ≤ k → Within n m (raised E others a l) (raised F others' a k)
  raised_mono others others' a l k q up h = record {
    status = w.status;
    regs = w.regs;
    arrays = λ b p. same b a (λ x. pick x (max (E.arrays a) l) (others b) ≤ pick x (max (F.arrays a) k) (others' b)) (λ _. omega (arith, w.arrays a q)) (λ _. up b p);
  }

  guarded_mono : (r : ℕ) (s : Bool) → Within n m (guarded E r s) (guarded F r s)
  guarded_mono r s = record { status = guard_mono r s E.status F.status w.status; regs = w.regs; arrays = w.arrays }

  -- (today a CALL leaves nothing of what the caller had: order 8 will)
  returned_mono : (out : Env) (mark : Bool) → Within n m (returned out mark E) (returned out mark F)
  returned_mono out mark = record { status = (within_refl n m (returned out mark E)).status; regs = λ i l. omega (arith, w.regs i l); arrays = λ a l. le_refl _ }

  pub public_down : (i : ℕ) → i < n → F.regs i ≡ 0 → E.regs i ≡ 0
  public_down i l h = omega (arith, w.regs i l)

  pub needs_down : (i : Simple) → SimpleFits n m i → Needs i F → Needs i E
  needs_down (Const d v) f h = tt
  needs_down (Op d o l r) f h = tt
  needs_down (Select d c y k) f h = tt
  needs_down (Load d a i) f h = public_down i f.2 h
  needs_down (Store a i s) f h = public_down i f.1 h
  needs_down Init f h = tt
  needs_down (Update r s) f h = subst (Covers E.status) h w.status
  needs_down (Protect d s) f h = subst (Covers E.status) h w.status
  needs_down (LoadFixed d a i) f h = tt
  needs_down (StoreFixed a i s) f h = tt

  pub after_mono : (i : Simple) → SimpleFits n m i → Within n m (after m i E) (after m i F)
  after_mono (Const d v) f = written_mono d 0 0 (le_refl 0)
  after_mono (Op d o l r) f = written_mono d _ _ (omega (arith, w.regs l f.1, w.regs r f.2))
  after_mono (Select d c y k) f = written_mono d _ _ (omega (arith, w.regs c f.1, w.regs y f.2, w.regs k f.3))
  after_mono (Load d a i) f = written_mono d _ _ (omega (arith, w.arrays a f.1))
  after_mono (Store a i s) f = raised_mono _ _ a _ _ f.0 (λ b l. beside_mono m (E.regs s) (F.regs s) b (E.arrays b) (F.arrays b) (w.regs s f.2) (w.arrays b l)) (omega (arith, w.regs s f.2))
  after_mono Init f = record { status = refl; regs = λ i l. settle_mono (E.regs i) (F.regs i) (w.regs i l); arrays = λ a l. omega (arith, settle_mono (E.arrays a) (F.arrays a) (w.arrays a l)) }
  after_mono (Update r s) f = record { status = refl; regs = w.regs; arrays = w.arrays }
  after_mono (Protect d s) f = record {
    status = refl;
    regs = λ i l. same i d (λ b. pick b (settle (E.regs s)) (E.regs i) ≤ pick b (settle (F.regs s)) (F.regs i)) (λ _. settle_mono (E.regs s) (F.regs s) (w.regs s f.1)) (λ _. w.regs i l);
    arrays = w.arrays;
  }
  after_mono (LoadFixed d a i) f = written_mono d _ _ (omega (arith, w.arrays a f.1))
  after_mono (StoreFixed a i s) f = raised_mono _ _ a _ _ f.0 w.arrays (omega (arith, w.regs s f.1))

join_mono : (n m : ℕ) (E E' F F' : Env) → Within n m E F → Within n m E' F' → Within n m (join E E') (join F F')
join_mono n m E E' F F' w v =
    join_least n m E E' (join F F') (within_trans n m E F (join F F') w (join_left n m F F')) (within_trans n m E' F' (join F F') v (join_right n m F F'))

module _ (t : Table) where
  abbrev In : Env → Env → Type 0
  In = Within t.registers t.arrays

  pub needs_of_down : (i : Record) (E F : Env) → Fits t.registers t.arrays i → In E F → NeedsOf t i F → NeedsOf t i E
  needs_of_down i E F = by_singles (λ i (N M : Type 0). Fits t.registers t.arrays i → In E F → N → M)
      (λ s f w h. needs_down t.registers t.arrays E F w s f h) (λ g m f w h. within_trans t.registers t.arrays E F (t.enter g) w h) (λ _ f w h. h) i

  fits_at : (p : ℕ) (i : Record) → t.rec p ≡ i → Fits t.registers t.arrays i
  fits_at p i e = subst (Fits t.registers t.arrays) e (t.fits p)

  -- beside a rule that leaves no slot lower than `after` does
  module _ (rule : Simple → Env → Env) (higher : (s : Simple) (F : Env) → In (after t.arrays s F) (rule s F)) where
    after_of_below : (i : Record) (E F : Env) → Fits t.registers t.arrays i → In E F → In (after_of t i E) (after_by t rule i F)
    after_of_below i E F = by_singles (λ i E' F'. Fits t.registers t.arrays i → In E F → In E' F')
        (λ s f w. within_trans t.registers t.arrays _ _ _ (after_mono t.registers t.arrays E F w s f) (higher s F)) (λ g m f w. returned_mono t.registers t.arrays E F w (t.leave g) m) (λ _ f w. w) i

    -- what that rule types from F, `typing` types from any E within it, and ends within where that rule ends
    pub types_below : {g p q : ℕ} {F F' : Env} (E : Env) → In E F → Types t (typing_by t rule) g p F q F' → (E' : Env) × Types t (typing t) g p E q E' × In E' F'
    types_below E w done = (E, done, w)
    types_below E w (one {p = p} {E = F} i n d) =
        let x = types_below (after_of t (t.rec p) E) (after_of_below (t.rec p) E F (t.fits p) w) d in
        (x.0, one i (needs_of_down (t.rec p) E F (t.fits p) w n) x.1, x.2)
    types_below E w (branch {p = p} {e = e} {r = r} {E = F} {E₁ = F₁} {E₂ = F₂} i g a j b k c) =
        let x = types_below (guarded E r true) (guarded_mono t.registers t.arrays E F w r true) a in
        let y = types_below (guarded E r false) (guarded_mono t.registers t.arrays E F w r false) b in
        let z = types_below (join x.0 y.0) (join_mono t.registers t.arrays x.0 y.0 F₁ F₂ x.2 y.2) c in
        (z.0, branch i (public_down t.registers t.arrays E F w r (fits_at p (If r e) i) g) x.1 j y.1 k z.1, z.2)
    types_below E w (loop {E = F} {L = L} i v g a j u c) =
        let x = types_below _ (within_refl t.registers t.arrays _) a in
        let z = types_below _ (within_refl t.registers t.arrays _) c in
        (z.0, loop i (within_trans t.registers t.arrays E F (env_of L) w v) g x.1 j (within_trans t.registers t.arrays _ _ (env_of L) x.2 u) z.1, z.2)

    -- whatever function that rule types, `typing` types
    pub function_below : (f : ℕ) → TypesFunction t (typing_by t rule) f → TypesFunction t (typing t) f
    function_below f d =
        let x = types_below (t.enter f) (within_refl t.registers t.arrays _) d.body in
        record { last = x.0; body = x.1; returns = d.returns; fits = within_trans t.registers t.arrays _ _ _ x.2 d.fits }

  itself : (s : Simple) (F : Env) → In (after t.arrays s F) (after t.arrays s F)
  itself s F = within_refl t.registers t.arrays _

  pub after_of_mono : (i : Record) (E F : Env) → Fits t.registers t.arrays i → In E F → In (after_of t i E) (after_of t i F)
  after_of_mono = after_of_below (after t.arrays) itself

  -- what types from F types from any E within it, and ends within where F ends
  pub types_mono : {g p q : ℕ} {F F' : Env} (E : Env) → In E F → Types t (typing t) g p F q F' → (E' : Env) × Types t (typing t) g p E q E' × In E' F'
  types_mono = types_below (after t.arrays) itself
