-- Where a run can stand, typed or not: at a record of the code, with a stack of places that follow calls, no deeper
-- than the functions.
use Rattle.std.specs.Prelude.{ℕ, ◌+◌, ◌-◌, ◌<◌, ◌≡◌, Bool, true, false, length, leb, Option, None, Some}
use Rattle.std.proofs.Common.{arith, subst}
use Rattle.std.proofs.Math.Path.{refl}
use mathlib.Core.List.{List, [], ◌∷◌}
use Rattle.model.specs.Tests.{pick, test, same}
use Rattle.model.specs.Sites.{site}
use Rattle.model.specs.Table.{Table}
use Rattle.model.specs.declared.Stop.TheVariants.{ListUsedUp, Returned, NoRoom}
use Rattle.model.specs.declared.Record.{Record}
use Rattle.model.specs.declared.Record.TheVariants.{Do, Call, If, Else, Endif, While, Endwhile, Return}
use Rattle.model.specs.declared.Directive.{Directive}
use Rattle.model.specs.declared.Directive.TheVariants.{Plain, Branch, Stray, Back}
use Rattle.model.specs.declared.Observation.{Observation}
use Rattle.model.specs.declared.Observation.TheVariants.{Nothing}
use Rattle.model.specs.Rules.{reading}
use Rattle.model.specs.Machine.{Ctl, Data, Work, halt, did, Stepped, Stopped, Went, reg, onward, to, pop, work, plain, fork, wrong, right, back, step_of, step, size, Final, final, observed, after_step, ended, run}
use Rattle.model.specs.theory.Flow.{Site, Flow, Frames}
use Rattle.model.proofs.Rules.{reading_laws}
use Rattle.model.specs.theory.Code.{Known}
use Rattle.model.proofs.theory.Code.{flows_at, depth}
use Rattle.model.specs.theory.Stands.{Place, On, Stands, EndStands}

module _ (t : Table) (reads : Known t) where
  abbrev StepStands : Stepped → Type 0
  StepStands (Stopped k) = Unit {0}
  StepStands (Went c x o) = Stands t reads c

  onward_stands : (w : Work) (c : Ctl) → Stands t reads c → StepStands (onward w c)
  onward_stands (halt k) c s = tt
  onward_stands (did x o) c s = s

  site_on : (f q : ℕ) (m : Bool) (s : Site t reading (Place t reads) f q m) → On t reads s.caller q
  site_on f q m s = rw s.follows (subst (Flow t reading (Place t reads) s.caller s.call s.env) s.is (flows_at t reads reading reads.blocks reading_laws s.caller s.call s.env s.here)).0.1

  module _ (c : Ctl) (f : ℕ) (fs : Frames t reading (Place t reads) f c.stack) where
    stay : (p : ℕ) → On t reads f p → Stands t reads (to c p)
    stay p w = record { function = f; here = w; frames = fs }

    fork_stands : (v p q : ℕ) (dir : Directive) (x : Data) → On t reads f p → On t reads f q → StepStands (fork t v p q c dir x)
    fork_stands v p q Plain x a b = tt
    fork_stands v p q (Branch true) x a b = record { function = f; here = a; frames = fs }
    fork_stands v p q (Branch false) x a b = record { function = f; here = b; frames = fs }
    fork_stands v p q (Stray i j) x a b = tt
    fork_stands v p q (Back k) x a b = tt

    back_stands : (dir : Directive) (x : Data) → ((q : ℕ) (m : Bool) → site t c.place q ≡ Some m → Site t reading (Place t reads) f q m) → StepStands (back t c dir x)
    back_stands Plain x sites = tt
    back_stands (Branch b) x sites = tt
    back_stands (Stray a i) x sites = tt
    back_stands (Back q) x sites = by c.stack fs
      where
        lost : (o : Option Bool) → site t c.place q ≡ o → StepStands (wrong t o q x)
        lost None e = tt
        lost (Some m) e = record { function = (sites q m e).caller; here = site_on f q m (sites q m e); frames = tt }

        by : (st : List ℕ) → Frames t reading (Place t reads) f st → StepStands (right t (pop st q) q c x)
        by [] g = lost (site t c.place q) refl
        by (p ∷ ps) (m, s, g) = same p q (λ b. StepStands (right t (pick b (Some ps) None) q c x))
            (λ e. record { function = s.caller; here = rw (← e) (site_on f p m s); frames = g }) (λ _. lost (site t c.place q) refl)

    step_by : (i : Record) (dir : Directive) (x : Data) → t.rec c.place ≡ i → Place t reads f c.place tt → Flow t reading (Place t reads) f c.place tt i → StepStands (step_of t i c dir x)
    step_by (Do s) dir x r a w = onward_stands (work t s dir c.mis x) _ (stay _ w.1)
    step_by (Call g m) dir x r a w = onward_stands (plain dir (did x Nothing)) _
        record { function = g; here = w.1; frames = (m, record { caller = f; call = c.place; env = tt; here = a; is = r; follows = refl }, fs) }
    step_by (If k e) dir x r a w = fork_stands (reg x k) (c.place + 4) (e + 3) dir x w.1 w.2
    step_by (Else n) dir x r a w = onward_stands (plain dir (did x Nothing)) _ (stay _ w)
    step_by Endif dir x r a w = onward_stands (plain dir (did x Nothing)) _ (stay _ w)
    step_by (While k e L) dir x r a w = fork_stands (reg x k) (c.place + 11) (e + 3) dir x w.1 w.2
    step_by (Endwhile k) dir x r a w = onward_stands (plain dir (did x Nothing)) _ (stay _ w)
    step_by Return dir x r a w = back_stands dir x w.1

  pub step_stands : (c : Ctl) → Stands t reads c → (dir : Directive) (x : Data) → StepStands (step t c dir x)
  unfolding step
  step_stands c s dir x = step_by c s.function s.frames (t.rec c.place) dir x refl s.here.here (flows_at t reads reading reads.blocks reading_laws s.function c.place tt s.here.here)

  -- "the stack never needs more than 31 places"
  pub stack_bound : (c : Ctl) → Stands t reads c → length c.stack < t.functions
  stack_bound c s = omega (arith, depth t reads reading reads.blocks s.function c.stack s.here.here.0 s.frames)

  observed_stands : (o : Observation) (u : Final) → EndStands t reads u → EndStands t reads (observed o u)
  observed_stands o (final k n c x os) s = s

  after_stands : (w : Stepped) (room : ℕ) (c : Ctl) (x : Data) → Stands t reads c → StepStands w → (f : ℕ → Ctl → Data → Final)
      → ((k : ℕ) (d : Ctl) (u : Data) → Stands t reads d → EndStands t reads (f k d u)) → EndStands t reads (after_step w room c x f)
  after_stands (Stopped k) room c x s h f ih = s
  after_stands (Went d u o) room c x s h f ih = test (leb (size o) room) (λ b. EndStands t reads (pick b (observed o (f (room - size o) d u)) (final NoRoom 0 c x [])))
      (λ _. observed_stands o (f (room - size o) d u) (ih (room - size o) d u h)) (λ _. s)

  pub run_stands : (ds : List Directive) (room : ℕ) (c : Ctl) (x : Data) → Stands t reads c → EndStands t reads (run t ds room c x)
  unfolding run
  run_stands [] room c x s = test (ended t c) (λ b. EndStands t reads (pick b (final Returned 0 c x []) (final ListUsedUp 0 c x []))) (λ _. s) (λ _. s)
  run_stands (d ∷ ds) room c x s = test (ended t c) (λ b. EndStands t reads (pick b (final Returned 0 c x []) (after_step (step t c d x) room c x (run t ds)))) (λ _. s)
      (λ _. after_stands (step t c d x) room c x s (step_stands c s d x) (run t ds) (run_stands ds))
