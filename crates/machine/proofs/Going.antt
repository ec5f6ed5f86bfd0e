-- The run's steps, one after another: what is left of the run after some turns is the run from where they ended. And
-- where the run stands there is room on the stack.
use Rattle.std.proofs.Common.{◌≡◌, ℕ, zero, suc, ◌+◌, ◌-◌, ◌<◌, ◌≤◌, Bool, true, false, List, [], ◌∷◌, length, set, sym, refl, ap, ◌∙◌, subst, arith, length-set, le-leb, Some, None, Ok}
use lib.Seq.{sets}
use borrow.Author.Tests.{lt-leb}
use Rattle.model.specs.Memory.{sets_append}
use Rattle.model.specs.Table.{Table, entry}
use Rattle.model.specs.theory.Stands.{Stands}
use Rattle.model.proofs.theory.Stands.{step_stands, stack_bound}
use Rattle.model.specs.Machine.{Ctl, Data, Stepped, Stopped, Went, step, size, Final, final, observed, after_step, ended, run}
use Rattle.model.specs.declared.Sizes.{Sizes}
use Rattle.model.specs.declared.Stop.{Stop}
use Rattle.model.specs.declared.Stop.TheVariants.{ListUsedUp, Returned}
use Rattle.model.specs.declared.Directive.{Directive}
use Rattle.model.specs.declared.Directive.TheVariants.{Plain}
use Rattle.model.specs.declared.Observation.{Observation}
use Rattle.model.specs.declared.Observation.TheVariants.{Nothing, Way, Address}
use Rattle.model.specs.declared.Record.TheVariants.{Call}
use Rattle.format.specs.Layout.{sizes_of, record_of, return_of, table_with, table_of}
use Rattle.reading.specs.Reading.{read_at}
use Rattle.reading.specs.theory.Known.{known}
use Rattle.reading.specs.theory.Limits.{read_limits}
use Rattle.machine.specs.declared.State.{State}
use Rattle.machine.specs.Directives.{directive_at, directives_from, bytes_of, all_bytes}
use Rattle.machine.specs.States.{words, length_stack, ctl_of, data_of}
use Rattle.machine.specs.Runs.{ran, ran_from}
use Rattle.machine.specs.Turns.{Lent, HasRoom, TurnMoves, TurnHalts}

three : {A : Type 0} (f : List ℕ → ℕ → ℕ → A) {o o' : List ℕ} {p p' q q' : ℕ} → o ≡ o' → p ≡ p' → q ≡ q' → f o p q ≡ f o' p' q'
three f a b c = λ i. f (a i) (b i) (c i)

-- ---- bytes written one after another
pub length_sets : (vs l : List ℕ) (i : ℕ) → length (sets l i vs) ≡ length l
length_sets [] l i = refl
length_sets (v ∷ vs) l i = length_sets vs (set l i v) (suc i) ∙ length-set l i v

bytes_size : (o : Observation) → length (bytes_of o) ≡ size o
bytes_size Nothing = refl
bytes_size (Way b) = refl
bytes_size (Address a i) = refl

-- one step more is behind
ran_observed : (obs : List ℕ) (seen n : ℕ) (o : Observation) (u : Final) → ran_from obs seen n (observed o u) ≡ ran_from (sets obs seen (bytes_of o)) (seen + size o) (n + 1) u
unfolding all_bytes
ran_observed obs seen n o (final k m c x os) =
    let e : n + suc m ≡ n + 1 + m = omega arith in
    rw (e, sets_append (bytes_of o) (all_bytes os) obs seen, bytes_size o)

-- a stop at once: nothing more is written
ran_stopped : (obs : List ℕ) (seen n : ℕ) (k : Stop) (c : Ctl) (x : Data)
    → ran_from obs seen n (final k 0 c x []) ≡ ran (Ok (record { stop = k; place = c.place; steps = n; mis = c.mis; masked = x.masked })) x.regs x.mem obs
unfolding all_bytes
ran_stopped obs seen n k c x = let e : n + 0 ≡ n = omega arith in rw e

-- ---- the directives that are left
directives_next : (k : ℕ) (d : List ℕ) (at next : ℕ) (x : Directive) → at < length d → directive_at d at ≡ Some (x, next) → directives_from (suc k) d at ≡ x ∷ directives_from k d next
unfolding directives_from
directives_next k d at next x l e = rw (lt-leb (length d) at l, e)

pub directives_end : (k : ℕ) (d : List ℕ) (at : ℕ) → length d ≤ at → directives_from k d at ≡ []
unfolding directives_from
directives_end zero d at l = refl
directives_end (suc k) d at l = rw (le-leb (length d) at l)

pub directives_bad : (k : ℕ) (d : List ℕ) (at : ℕ) → at < length d → directive_at d at ≡ None → directives_from k d at ≡ []
unfolding directives_from
directives_bad zero d at l e = refl
directives_bad (suc k) d at l e = rw (lt-leb (length d) at l, e)

pub directives_on : (k : ℕ) (d : List ℕ) (at next : ℕ) (x : Directive) → length d - at ≤ k → at < length d → directive_at d at ≡ Some (x, next) → (j : ℕ) × (k ≡ suc j) × (directives_from k d at ≡ x ∷ directives_from j d next)
directives_on zero d at next x h l e = absurd (omega arith)
directives_on (suc j) d at next x h l e = (j, refl, directives_next j d at next x l e)

-- ---- one turn of the model's run
pub run_ended : (t : Table) (ds : List Directive) (room : ℕ) (c : Ctl) (x : Data) → ended t c ≡ true → run t ds room c x ≡ final Returned 0 c x []
unfolding run
run_ended t [] room c x e = rw e
run_ended t (d ∷ ds) room c x e = rw e

pub run_used : (t : Table) (room : ℕ) (c : Ctl) (x : Data) → ended t c ≡ false → run t [] room c x ≡ final ListUsedUp 0 c x []
unfolding run
run_used t room c x e = rw e

pub run_step : (t : Table) (d : Directive) (ds : List Directive) (room : ℕ) (c : Ctl) (x : Data) → ended t c ≡ false → run t (d ∷ ds) room c x ≡ after_step (step t c d x) room c x (run t ds)
unfolding run
run_step t d ds room c x e = rw e

run_went : (t : Table) (d : Directive) (ds : List Directive) (room : ℕ) (c c' : Ctl) (x x' : Data) (o : Observation) → ended t c ≡ false → step t c d x ≡ Went c' x' o → size o ≤ room
    → run t (d ∷ ds) room c x ≡ observed o (run t ds (room - size o) c' x')
run_went t d ds room c c' x x' o e s l = run_step t d ds room c x e ∙ rw (s, le-leb (size o) room l)

-- ---- where a run stands
module _ (t : List ℕ) (z : Sizes) (e : read_at t ≡ Ok z) where
  abbrev T : Table
  T = table_of t

  abbrev pub StandsAt : Ctl → Type 0
  StandsAt c = Stands T (known t z e) c

  pub own_sizes : z ≡ sizes_of t
  own_sizes = (read_limits t z e).0

  call_step : (c : Ctl) (x : Data) (f : ℕ) (m : Bool) → T.rec c.place ≡ Call f m → step T c Plain x ≡ Went (record { place = T.start f; stack = (c.place + 3) ∷ c.stack; mis = c.mis }) x Nothing
  unfolding step
  call_step c x f m h = rw h

  abbrev Next : Stepped → Type 0
  Next (Stopped k) = Unit {0}
  Next (Went c x o) = StandsAt c

  -- wherever the run stands at a CALL there is room for one place more
  room_at : (s : State) → StandsAt (ctl_of s) → (f : ℕ) (m : Bool) → record_of (sizes_of t) t s.place ≡ Call f m → s.depth < 31
  room_at s h f m r =
      let x : Data = words [] [] false in
      let w : StandsAt (record { place = T.start f; stack = (s.place + 3) ∷ (ctl_of s).stack; mis = s.mis }) = subst Next (call_step (ctl_of s) x f m r) (step_stands T (known t z e) (ctl_of s) h Plain x) in
      let b = stack_bound T (known t z e) (record { place = T.start f; stack = (s.place + 3) ∷ (ctl_of s).stack; mis = s.mis }) w in
      omega (arith, b, length_stack s.depth s.stack, (read_limits t z e).1.functions)

  -- the entry's RETURN is the table's last byte
  pub last_byte : (table_with z t).ret (entry (table_with z t)) ≡ length t - 1
  unfolding return_of
  last_byte =
      let l = read_limits t z e in
      let q : z.functions - 1 + 1 ≡ z.functions = subst (λ (y : Sizes). y.functions - 1 + 1 ≡ y.functions) (sym own_sizes) (omega (arith, l.1.some_function)) in
      rw (borrow.Author.Tests.eq-eqb (z.functions - 1 + 1) z.functions q)

  pub has_room : (s : State) → StandsAt (ctl_of s) → HasRoom (table_with z t) s
  has_room s h f m r = room_at s h f m (subst (λ (y : Sizes). record_of y t s.place ≡ Call f m) own_sizes r)

  -- a step leads to where a run can stand
  pub stands_on : (s s' : State) (dir : Directive) (x x' : Data) (o : Observation) → StandsAt (ctl_of s) → step (table_with z t) (ctl_of s) dir x ≡ Went (ctl_of s') x' o → StandsAt (ctl_of s')
  stands_on s s' dir x x' o h q =
      subst Next (subst (λ (y : Sizes). step (table_with y t) (ctl_of s) dir x ≡ Went (ctl_of s') x' o) own_sizes q) (step_stands T (known t z e) (ctl_of s) h dir x)

  -- ---- THE INVARIANT of the run's loop, from a start c₀ with data x₀ and the buffer obs₀
  pub record Going (c₀ : Ctl) (x₀ : Data) (dirs obs₀ : List ℕ) (s : State) (at n : ℕ) (a : Lent) : Type 0 where
    pub stands : StandsAt (ctl_of s)
    pub fuel : ℕ
    pub enough : length dirs - at ≤ fuel
    pub few : n ≤ at
    pub at_in : at ≤ length dirs
    pub same : ran_from obs₀ 0 0 (run (table_with z t) (directives_from (length dirs) dirs 0) (length obs₀) c₀ x₀)
        ≡ ran_from a.obs a.seen n (run (table_with z t) (directives_from fuel dirs at) (length a.obs - a.seen) (ctl_of s) (data_of s a.regs a.mem))

  module _ (c₀ : Ctl) (x₀ : Data) (dirs obs₀ : List ℕ) (s : State) (at n : ℕ) (a : Lent) (g : Going c₀ x₀ dirs obs₀ s at n a) where
    -- the run ends where a turn halts
    pub halts : (k : Stop) (s' : State) (b : Lent) → TurnHalts (table_with z t) s dirs at a k s' b
        → ran (Ok (record { stop = k; place = s'.place; steps = n; mis = s'.mis; masked = s'.masked })) b.regs b.mem b.obs
        ≡ ran_from obs₀ 0 0 (run (table_with z t) (directives_from (length dirs) dirs 0) (length obs₀) c₀ x₀)
    halts k s' b h = rw (h.stays, ← h.kept) (sym (g.same ∙ ap (ran_from a.obs a.seen n) (h.stopped g.fuel g.enough) ∙ ran_stopped a.obs a.seen n k (ctl_of s) (data_of s a.regs a.mem)))

    -- a turn that moves keeps the invariant
    pub moves : (next : ℕ) (s' : State) (b : Lent) → TurnMoves (table_with z t) s dirs at a next s' b → (at < next) × (next ≤ length dirs) → Going c₀ x₀ dirs obs₀ s' next (n + 1) b
    moves next s' b m (lt, le) =
        let w = m.acts in
        let d = directives_on g.fuel dirs at next m.dir g.enough m.inside m.told in
        let lo : length b.obs ≡ length a.obs = ap length w.wrote ∙ length_sets (bytes_of w.saw) a.obs a.seen in
        let rooms : length a.obs - a.seen - size w.saw ≡ length b.obs - b.seen = omega (arith, lo, w.seen', w.room) in
        record {
          stands = stands_on s s' m.dir (data_of s a.regs a.mem) (data_of s' b.regs b.mem) w.saw g.stands w.stepped;
          fuel = d.0;
          enough = omega (arith, d.1, g.enough, lt);
          few = omega (arith, g.few, lt);
          at_in = le;
          same = g.same
              ∙ ap (λ (ds : List Directive). ran_from a.obs a.seen n (run (table_with z t) ds (length a.obs - a.seen) (ctl_of s) (data_of s a.regs a.mem))) d.2
              ∙ ap (ran_from a.obs a.seen n) (run_went (table_with z t) m.dir (directives_from d.0 dirs next) (length a.obs - a.seen) (ctl_of s) (ctl_of s') (data_of s a.regs a.mem) (data_of s' b.regs b.mem) w.saw m.going w.stepped w.room)
              ∙ ran_observed a.obs a.seen n w.saw (run (table_with z t) (directives_from d.0 dirs next) (length a.obs - a.seen - size w.saw) (ctl_of s') (data_of s' b.regs b.mem))
              ∙ three (λ o p q. ran_from o p (n + 1) (run (table_with z t) (directives_from d.0 dirs next) q (ctl_of s') (data_of s' b.regs b.mem)))
              (sym w.wrote) (sym w.seen') rooms;
        }
