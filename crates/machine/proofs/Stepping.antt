-- What act and one_turn show of their answers, over plain values: one law for each way that they return.
use Rattle.std.proofs.Common.{◌≡◌, ℕ, suc, ◌+◌, ◌-◌, ◌<◌, ◌≤◌, Bool, false, List, [], ◌∷◌, length, sym, refl, ap, ◌∙◌, subst, arith, le-ltb, lt-ltb, eq-eqb, ne_eqb, Some, None, Ok, Err}
use lib.Seq.{sets}
use borrow.Author.Tests.{lt-leb}
use Rattle.model.specs.Table.{Table, entry}
use Rattle.model.specs.Machine.{Ctl, Data, step, size, ended, run, start_ctl}
use Rattle.model.specs.declared.Sizes.{Sizes}
use Rattle.model.specs.declared.Stop.{Stop}
use Rattle.model.specs.declared.Stop.TheVariants.{ListUsedUp, Returned, NoRoom}
use Rattle.model.specs.declared.Directive.{Directive}
use Rattle.format.specs.Layout.{table_with, table_of}
use Rattle.reading.specs.Reading.{read_at}
use Rattle.reading.specs.theory.Known.{known}
use Rattle.machine.specs.declared.State.{State}
use Rattle.machine.specs.declared.Stacking.{Stacking}
use Rattle.machine.specs.declared.Stacking.TheVariants.{Same, Push, Pop, Clear}
use Rattle.machine.specs.declared.Plan.{Plan}
use Rattle.machine.specs.Directives.{directive_at, directives_from, bytes_of}
use Rattle.machine.specs.States.{words, length_stack, ctl_of, array_next, arrayed, RoomFor, data_of, applied, view_plan, stacked, below}
use Rattle.machine.specs.Turns.{Lent, HasRoom, ActMoves, ActHalts, TurnHalts}
use Rattle.machine.proofs.Moving.{Moved, Grows, only_calls}
use Rattle.machine.proofs.Going.{directives_end, directives_bad, directives_on, run_ended, run_used, run_step, Going, StandsAt, own_sizes}
use Rattle.machine.specs.Everywhere.{start_stands}

length_below : (ps : List ℕ) → length (below ps) ≤ length ps
length_below [] = omega arith
length_below (p ∷ ps) = omega arith

array_next_lem : (s : State) (k : Stacking) → array_next s k ≡ arrayed s (stacked k (ctl_of s).stack)
array_next_lem s Same = rw (length_stack s.depth s.stack, le-ltb s.depth s.depth (omega arith))
array_next_lem s (Push q) = rw (length_stack s.depth s.stack, lt-ltb s.depth (suc s.depth) (omega arith))
array_next_lem s Pop = rw (le-ltb s.depth (length (below (ctl_of s).stack)) (omega (arith, length_below (ctl_of s).stack, length_stack s.depth s.stack)))
array_next_lem s Clear = rw (le-ltb s.depth 0 (omega arith))

module _ (t : Table) (s : State) where
  abbrev here : Lent → Data
  here a = data_of s a.regs a.mem

  module _ (dir : Directive) (a : Lent) where
    -- a stop of the step's own
    pub act_stops : (k : Stop) → view_plan t s (Err k) (here a) ≡ step t (ctl_of s) dir (here a) → ActHalts t s dir a k s a
    act_stops k planned = record { stays = refl; kept = refl; stopped = λ f. rw (← planned) }

    module _ (p : Plan) (planned : view_plan t s (Ok p) (here a) ≡ step t (ctl_of s) dir (here a)) where
      -- a place is pushed by a CALL alone, where there is room for it
      pub room_for : HasRoom t s → RoomFor s p.next.stacking
      room_for room q k =
          let (f, m, r) = subst (Grows (t.rec s.place) (ctl_of s)) (sym planned) (only_calls t (ctl_of s) dir (here a)) q (ap (λ (j : Stacking). stacked j (ctl_of s).stack) k) in
          room f m r

      -- no room
      pub act_full : length a.obs - a.seen < size p.seen → ActHalts t s dir a NoRoom s a
      act_full l = record { stays = refl; kept = refl; stopped = λ f. rw (← planned, lt-leb (size p.seen) (length a.obs - a.seen) l) }

      -- the step is made
      pub act_goes : (s' : State) (b : Lent) → size p.seen ≤ length a.obs - a.seen
          → ((m : Bool) → words b.regs b.mem m ≡ applied t p.effect (words a.regs a.mem m)) → b.obs ≡ sets a.obs a.seen (bytes_of p.seen)
          → Moved s p.next s' → b.seen ≡ a.seen + size p.seen → ActMoves t s dir a s' b
      act_goes s' b l w o (ctl, flag, row) sn = record {
        saw = p.seen;
        stepped = sym planned ∙ rw (← (w s.masked), ctl, flag);
        room = l;
        wrote = o;
        seen' = sn;
        array = row ∙ array_next_lem s p.next.stacking ∙ ap (arrayed s) (sym (ap (λ (c : Ctl). c.stack) ctl));
      }

  module _ (dirs : List ℕ) (at : ℕ) (a : Lent) where
    -- 21
    pub turn_over : s.place ≡ t.ret (entry t) → TurnHalts t s dirs at a Returned s a
    turn_over e = record {
      stays = refl;
      kept = refl;
      stopped = λ j _. run_ended t (directives_from j dirs at) (length a.obs - a.seen) (ctl_of s) (here a) (eq-eqb s.place (t.ret (entry t)) e);
    }

    module _ (n : s.place ≡ t.ret (entry t) → ⊥) where
      not_over : ended t (ctl_of s) ≡ false
      not_over = ne_eqb s.place (t.ret (entry t)) n

      used : ((j : ℕ) → directives_from j dirs at ≡ []) → TurnHalts t s dirs at a ListUsedUp s a
      used d = record {
        stays = refl;
        kept = refl;
        stopped = λ j _. rw (d j) (run_used t (length a.obs - a.seen) (ctl_of s) (here a) not_over);
      }

      -- 20: the list is used up; or from here on it does not read, which it does where it was tested before the first
      -- step
      pub turn_used : length dirs ≤ at → TurnHalts t s dirs at a ListUsedUp s a
      turn_used l = used (λ j. directives_end j dirs at l)

      pub turn_bad : at < length dirs → directive_at dirs at ≡ None → TurnHalts t s dirs at a ListUsedUp s a
      turn_bad l b = used (λ j. directives_bad j dirs at l b)

      module _ (dir : Directive) (next : ℕ) (l : at < length dirs) (g : directive_at dirs at ≡ Some (dir, next)) where
        -- the step is not made
        pub turn_halts : (k : Stop) (s' : State) (b : Lent) → ActHalts t s dir a k s' b → TurnHalts t s dirs at a k s' b
        turn_halts k s' b h = record {
          stays = h.stays;
          kept = h.kept;
          stopped = λ j f. let d = directives_on j dirs at next dir f l g in
              ap (λ (ds : List Directive). run t ds (length a.obs - a.seen) (ctl_of s) (here a)) d.2
              ∙ run_step t dir (directives_from d.0 dirs next) (length a.obs - a.seen) (ctl_of s) (here a) not_over
              ∙ h.stopped (run t (directives_from d.0 dirs next));
        }

pub ruleset acts = (act_stops, act_full, act_goes)

-- 01's start
pub going_start : (t : List ℕ) (z : Sizes) (e : read_at t ≡ Ok z) (dirs : List ℕ) (a : Lent) (s : State)
    → ctl_of s ≡ start_ctl (table_with z t) false → s.masked ≡ false → a.seen ≡ 0
    → Going t z e (start_ctl (table_with z t) false) (words a.regs a.mem false) dirs a.obs s 0 0 a
going_start t z e dirs a s c m n = record {
  stands = subst (StandsAt t z e) (sym (c ∙ ap (λ (y : Sizes). start_ctl (table_with y t) false) (own_sizes t z e))) (start_stands (table_of t) (known t z e) false);
  fuel = length dirs;
  enough = omega arith;
  few = omega arith;
  at_in = omega arith;
  same = let r : length a.obs - 0 ≡ length a.obs = omega arith in rw (c, m, n, r);
}
