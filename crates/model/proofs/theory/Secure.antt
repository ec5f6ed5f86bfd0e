-- Two runs from related states make the same steps, observe the same and stop alike.
use Rattle.std.specs.Prelude.{ℕ, suc, ◌+◌, ◌-◌, ◌≤◌, ◌≡◌, Bool, true, false, not, ◌||◌, leb, Option, None, Some}
use Rattle.std.proofs.Common.{zero-le, arith, le_refl, le_trans, ap, subst, true≢false}
use Rattle.std.proofs.Math.Path.{refl}
use Rattle.std.proofs.lemmas.Bool.{false≢true}
use mathlib.Core.List.{List, [], ◌∷◌}
use Rattle.model.specs.Tests.{pick, test, same}
use Rattle.model.specs.Levels.{Env, Covers, Within}
use Rattle.model.specs.Records.{simple_length, SimpleReaches, Reaches}
use Rattle.model.specs.Sites.{site}
use Rattle.model.specs.Table.{Table}
use Rattle.model.specs.declared.Stop.TheVariants.{ListUsedUp, Returned, NoRoom}
use Rattle.model.specs.declared.Status.{Status}
use Rattle.model.specs.declared.Status.TheVariants.{Unknown, Updated, Outdated}
use Rattle.model.specs.declared.Directive.{Directive}
use Rattle.model.specs.declared.Directive.TheVariants.{Plain, Branch, Stray, Back}
use Rattle.model.specs.declared.Observation.{Observation}
use Rattle.model.specs.declared.Observation.TheVariants.{Nothing}
use Rattle.model.specs.declared.Simple.{Simple}
use Rattle.model.specs.declared.Record.{Record}
use Rattle.model.specs.declared.Record.TheVariants.{Do, Call, If, Else, Endif, While, Endwhile, Return}
use Rattle.model.specs.Rules.{Needs, guard_status, call_status, guarded, after, after_of, typing}
use Rattle.model.specs.Machine.{Ctl, Data, Work, halt, did, Stepped, Stopped, Went, reg, holds, flagged, plain, onward, to, pop, work, fork, wrong, right, back, step_of, step, size, Final, final, observed, after_step, ended, run}
use Rattle.model.specs.theory.Alike.{top, Flag, Alike}
use Rattle.model.proofs.theory.Alike.{Works, weaken, public, simple_works}
use Rattle.model.specs.theory.Flow.{To, Site, Flow, Flows, Frames}

-- ---- branches: the levels on which the runs agree can only fall
top_fork : (mis b : Bool) → top (mis || b) ≤ top mis
top_fork true b = omega arith
top_fork false true = omega arith
top_fork false false = omega arith

flag_fork : (s : Status) (u : ℕ → ℕ) (r : ℕ) (b mis m : Bool) → Flag s u mis m → Flag (guard_status r b s) u (mis || not (holds (u r) b)) m
unfolding guard_status
flag_fork Unknown u r b mis m h = tt
flag_fork (Outdated q c) u r b mis m h = tt
flag_fork Updated u r b mis m h = go (holds (u r) b) mis h
  where
    go : (z k : Bool) → m ≡ k → (z ≡ true → m ≡ (k || not z)) × (z ≡ false → (k || not z) ≡ true)
    go true true e = (λ _. e, λ _. refl)
    go true false e = (λ _. e, λ q. absurd (true≢false q))
    go false true e = (λ _. e, λ _. refl)
    go false false e = (λ q. absurd (false≢true q), λ _. refl)

fork_alike : (t : Table) (E : Env) (mis : Bool) (x y : Data) → Alike t E mis x y → (r : ℕ) (b : Bool) → E.regs r ≡ 0
    → Alike t (guarded E r b) (mis || not (holds (reg y r) b)) x y
fork_alike t E mis x y h r b e = record {
  flag₁ = rw (← (public t E mis x y h r e)) (flag_fork E.status (reg x) r b mis x.masked h.flag₁);
  flag₂ = flag_fork E.status (reg y) r b mis y.masked h.flag₂;
  regs = λ i l. h.regs i (le_trans l (top_fork mis _));
  wide₁ = h.wide₁;
  wide₂ = h.wide₂;
  long = h.long;
  mem = λ a i k l. h.mem a i k (le_trans l (top_fork mis _));
}

-- ---- returns: what a CALL leaves is what the callee leaves
call_covers : (m : Bool) (s : Status) → Covers s (call_status m s)
unfolding call_status
call_covers true Unknown = tt
call_covers true Updated = refl
call_covers true (Outdated r b) = tt
call_covers false s = tt

flag_wrong : (m : Bool) (s : Status) (u : ℕ → ℕ) (k : Bool) → Flag (call_status m s) u true (m || k)
unfolding call_status
flag_wrong true Unknown u k = tt
flag_wrong true Updated u k = refl
flag_wrong true (Outdated r b) u k = tt
flag_wrong false s u k = tt

module _ (t : Table) where
  leave_within : (f : ℕ) (m : Bool) (E : Env) → Within t.registers t.arrays (t.leave f) (after_of t (Call f m) E)
  leave_within f m E = record { status = call_covers m (t.leave f).status; regs = λ i _. le_refl _; arrays = λ a _. le_refl _ }

  wrong_alike : (f : ℕ) (m mis : Bool) (E : Env) (x y : Data) → Alike t (t.leave f) mis x y → Alike t (after_of t (Call f m) E) true (flagged x (m || x.masked)) (flagged y (m || y.masked))
  wrong_alike f m mis E x y h = record {
    flag₁ = flag_wrong m (t.leave f).status (reg x) x.masked;
    flag₂ = flag_wrong m (t.leave f).status (reg y) y.masked;
    regs = λ i l. h.regs i (le_trans l zero-le);
    wide₁ = h.wide₁;
    wide₂ = h.wide₂;
    long = h.long;
    mem = λ a i k l. h.mem a i k (le_trans l zero-le);
  }

module _ (t : Table) (at : ℕ → ℕ → Env → Type 0) where
  -- the two runs stand at one place, and its environment allows both
  pub record Related (c : Ctl) (x y : Data) : Type 0 where
    pub function : ℕ
    pub env : Env
    pub here : at function c.place env
    pub frames : Frames t (typing t) at function c.stack
    pub alike : Alike t env c.mis x y

  abbrev pub SameStep : Stepped → Stepped → Type 0
  SameStep (Stopped j) (Stopped k) = j ≡ k
  SameStep (Stopped j) (Went d y p) = ⊥
  SameStep (Went c x o) (Stopped k) = ⊥
  SameStep (Went c x o) (Went d y p) = (c ≡ d) × (o ≡ p) × Related c x y

  abbrev pub SameEnd : Final → Final → Type 0
  SameEnd (final j n c x os) (final k m d y ps) = (j ≡ k) × (n ≡ m) × (c ≡ d) × (os ≡ ps) × Related c x y

  -- whatever may go to a place with E, arrives there
  pub arrive : (f : ℕ) (E : Env) (c : Ctl) (x y : Data) → To t (typing t) at f c.place E → Frames t (typing t) at f c.stack → Alike t E c.mis x y → Related c x y
  arrive f E c x y w fs h = record { function = f; env = w.env; here = w.here; frames = fs; alike = weaken t E w.env c.mis x y w.within h }

  onward_same : (E : Env) (mis : Bool) (w v : Work) (c : Ctl) → Works t E mis w v → ((x y : Data) → Alike t E mis x y → Related c x y) → SameStep (onward w c) (onward v c)
  onward_same E mis (halt j) (halt k) c h f = h
  onward_same E mis (halt j) (did y p) c h f = h
  onward_same E mis (did x o) (halt k) c h f = h
  onward_same E mis (did x o) (did y p) c (e, h) f = (refl, e, f x y h)

  module _ (flows : Flows t (typing t) at) where
    site_to : (f q : ℕ) (m : Bool) (s : Site t (typing t) at f q m) → To t (typing t) at s.caller q (after_of t (Call f m) s.env)
    site_to f q m s = rw s.follows (subst (Flow t (typing t) at s.caller s.call s.env) s.is (flows s.caller s.call s.env s.here)).0.1

    module _ (f : ℕ) (E : Env) (c : Ctl) (x y : Data) (fs : Frames t (typing t) at f c.stack) (h : Alike t E c.mis x y) where
      simple_same : (i : Simple) (dir : Directive) → SimpleReaches t.words i → Needs i E → To t (typing t) at f (c.place + simple_length i) (after t.arrays i E)
          → SameStep (onward (work t i dir c.mis x) (to c (c.place + simple_length i))) (onward (work t i dir c.mis y) (to c (c.place + simple_length i)))
      simple_same i dir k n w = onward_same (after t.arrays i E) c.mis (work t i dir c.mis x) (work t i dir c.mis y) (to c (c.place + simple_length i)) (simple_works t E c.mis x y h dir i k n)
          (λ x' y' h'. arrive f (after t.arrays i E) (to c (c.place + simple_length i)) x' y' w fs h')

      -- the data stay as they are
      plain_same : (dir : Directive) (d : Ctl) → Related d x y → SameStep (onward (plain dir (did x Nothing)) d) (onward (plain dir (did y Nothing)) d)
      plain_same Plain d r = (refl, refl, r)
      plain_same (Branch b) d r = refl
      plain_same (Stray a i) d r = refl
      plain_same (Back q) d r = refl

      fork_same : (r p q : ℕ) (dir : Directive) → E.regs r ≡ 0 → To t (typing t) at f p (guarded E r true) → To t (typing t) at f q (guarded E r false)
          → SameStep (fork t (reg x r) p q c dir x) (fork t (reg y r) p q c dir y)
      fork_same r p q Plain e u v = refl
      fork_same r p q (Stray a i) e u v = refl
      fork_same r p q (Back k) e u v = refl
      fork_same r p q (Branch true) e u v = rw (public t E c.mis x y h r e) (refl, refl, arrive f (guarded E r true) _ x y u fs (fork_alike t E c.mis x y h r true e))
      fork_same r p q (Branch false) e u v = rw (public t E c.mis x y h r e) (refl, refl, arrive f (guarded E r false) _ x y v fs (fork_alike t E c.mis x y h r false e))

      back_same : (dir : Directive) → Within t.registers t.arrays E (t.leave f) → ((q : ℕ) (m : Bool) → site t c.place q ≡ Some m → Site t (typing t) at f q m) → SameStep (back t c dir x) (back t c dir y)
      back_same Plain w sites = refl
      back_same (Branch b) w sites = refl
      back_same (Stray a i) w sites = refl
      back_same (Back q) w sites = by c.stack fs
        where
          left : Alike t (t.leave f) c.mis x y
          left = weaken t E (t.leave f) c.mis x y w h

          lost : (o : Option Bool) → site t c.place q ≡ o → SameStep (wrong t o q x) (wrong t o q y)
          lost None e = refl
          lost (Some m) e =
              let s : Site t (typing t) at f q m = sites q m e in
              (refl, refl, arrive s.caller (after_of t (Call f m) s.env) _ _ _ (site_to f q m s) tt (wrong_alike t f m c.mis s.env x y left))

          by : (st : List ℕ) → Frames t (typing t) at f st → SameStep (right t (pop st q) q c x) (right t (pop st q) q c y)
          by [] g = lost (site t c.place q) refl
          by (p ∷ ps) (m, s, g) = same p q (λ b. SameStep (right t (pick b (Some ps) None) q c x) (right t (pick b (Some ps) None) q c y))
              (λ e. (refl, refl, arrive s.caller (after_of t (Call f m) s.env) _ x y (rw (← e) (site_to f p m s)) g (weaken t (t.leave f) _ c.mis x y (leave_within t f m s.env) left)))
              (λ _. lost (site t c.place q) refl)

      step_by : (i : Record) (dir : Directive) → t.rec c.place ≡ i → at f c.place E → Flow t (typing t) at f c.place E i → SameStep (step_of t i c dir x) (step_of t i c dir y)
      step_by (Do s) dir r a w = simple_same s dir (subst (Reaches t.words) r (t.reaches c.place)) w.0 w.1
      step_by (Call g m) dir r a w = plain_same dir _ (arrive g (t.enter g) _ x y w.1
          (m, record { caller = f; call = c.place; env = E; here = a; is = r; follows = refl }, fs)
          (weaken t E (t.enter g) c.mis x y w.0.0 h))
      step_by (If k e) dir r a w = fork_same k (c.place + 4) (e + 3) dir w.0 w.1 w.2
      step_by (Else n) dir r a w = plain_same dir _ (arrive f E _ x y w fs h)
      step_by Endif dir r a w = plain_same dir _ (arrive f E _ x y w fs h)
      step_by (While k e L) dir r a w = fork_same k (c.place + 11) (e + 3) dir w.0 w.1 w.2
      step_by (Endwhile k) dir r a w = plain_same dir _ (arrive f E _ x y w fs h)
      step_by Return dir r a w = back_same dir w.0 w.1

    pub step_same : (c : Ctl) (x y : Data) → Related c x y → (dir : Directive) → SameStep (step t c dir x) (step t c dir y)
    unfolding step
    step_same c x y s dir = step_by s.function s.env c x y s.frames s.alike (t.rec c.place) dir refl s.here (flows s.function c.place s.env s.here)

    observed_same : (o : Observation) (u v : Final) → SameEnd u v → SameEnd (observed o u) (observed o v)
    observed_same o (final j n c x os) (final k m d y ps) (e₁, e₂, e₃, e₄, r) = (e₁, ap suc e₂, e₃, ap (λ (l : List Observation). o ∷ l) e₄, r)

    after_same : (room : ℕ) (c : Ctl) (x y : Data) → Related c x y → (f : ℕ → Ctl → Data → Final)
        → ((k : ℕ) (d : Ctl) (u v : Data) → Related d u v → SameEnd (f k d u) (f k d v))
        → (w v : Stepped) → SameStep w v → SameEnd (after_step w room c x f) (after_step v room c y f)
    after_same room c x y r f ih (Stopped j) (Stopped k) e = (e, refl, refl, refl, r)
    after_same room c x y r f ih (Stopped j) (Went d v p) e = absurd e
    after_same room c x y r f ih (Went d u o) (Stopped k) e = absurd e
    after_same room c x y r f ih (Went d u o) (Went d' v o') (e, g, s) =
        subst (λ (z : Ctl). SameEnd (after_step (Went d u o) room c x f) (after_step (Went z v o') room c y f)) e
        (subst (λ (z : Observation). SameEnd (after_step (Went d u o) room c x f) (after_step (Went d v z) room c y f)) g
        (test (leb (size o) room) (λ b. SameEnd (pick b (observed o (f (room - size o) d u)) (final NoRoom 0 c x [])) (pick b (observed o (f (room - size o) d v)) (final NoRoom 0 c y [])))
        (λ _. observed_same o (f (room - size o) d u) (f (room - size o) d v) (ih (room - size o) d u v s))
        (λ _. (refl, refl, refl, refl, r))))

    -- demand 3, from any two related states
    pub run_same : (ds : List Directive) (room : ℕ) (c : Ctl) (x y : Data) → Related c x y → SameEnd (run t ds room c x) (run t ds room c y)
    unfolding run
    run_same [] room c x y r = test (ended t c) (λ b. SameEnd (pick b (final Returned 0 c x []) (final ListUsedUp 0 c x [])) (pick b (final Returned 0 c y []) (final ListUsedUp 0 c y []))) (λ _. (refl, refl, refl, refl, r)) (λ _. (refl, refl, refl, refl, r))
    run_same (d ∷ ds) room c x y r =
        test (ended t c) (λ b. SameEnd (pick b (final Returned 0 c x []) (after_step (step t c d x) room c x (run t ds))) (pick b (final Returned 0 c y []) (after_step (step t c d y) room c y (run t ds))))
        (λ _. (refl, refl, refl, refl, r))
        (λ _. after_same room c x y r (run t ds) (run_same ds) (step t c d x) (step t c d y) (step_same c x y r d))
