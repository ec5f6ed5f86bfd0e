-- Demand 3 over tables that have been read (specs/TwoRuns): two runs of a typed table observe alike and stop alike.
use Rattle.std.specs.Prelude.{ℕ, ◌≤◌, ◌<◌, ◌≡◌, Bool, List}
use Rattle.std.proofs.Common.{arith, sym, ◌∙◌}
use Rattle.std.proofs.Math.Decide.{dec_lt}
use Rattle.std.proofs.Math.ListN.{get_or-eq_default}
use Rattle.model.specs.Table.{Table, entry}
use Rattle.model.specs.Rules.{typing, Typed}
use Rattle.model.specs.Machine.{Data, reg, Final, final, run, start_ctl}
use Rattle.model.specs.theory.Alike.{top}
use Rattle.model.proofs.theory.Alike.{weaken}
use Rattle.model.proofs.theory.Secure.{Related, SameEnd, arrive, run_same}
use Rattle.model.proofs.Rules.{typing_laws}
use Rattle.model.specs.theory.Code.{Known, At}
use Rattle.model.proofs.theory.Code.{enters_at, flows_at, ends_within}
use Rattle.model.specs.declared.Directive.{Directive}
use Rattle.model.specs.TwoRuns.{Agree, SameShown, SameOut}

module _ (t : Table) (reads : Known t) (typed : Typed t) where
  abbrev at : ℕ → ℕ → (typing t).Env → Type 0
  at = At t reads (typing t) typed

  start_related : (mis : Bool) (x y : Data) → Agree t mis x y → Related t at (start_ctl t mis) x y
  start_related mis x y h =
      arrive t at (entry t) (t.enter (entry t)) (start_ctl t mis) x y (enters_at t reads (typing t) typed (typing_laws t) (entry t) reads.some_function) tt record {
        flag₁ = rw reads.fresh tt;
        flag₂ = rw reads.fresh tt;
        wide₁ = h.wide₁;
        wide₂ = h.wide₂;
        long = h.long;
        regs = λ i. seen i (dec_lt i t.registers);
        mem = h.mem;
      }
    where
      seen : (i : ℕ) → Dec (i < t.registers) → (t.enter (entry t)).regs i ≤ top mis → reg x i ≡ reg y i
      seen i (yes l) k = h.regs i l k
      seen i (no n) k = get_or-eq_default x.regs 0 (omega (arith, h.wide₁)) ∙ sym (get_or-eq_default y.regs 0 (omega (arith, h.wide₂)))

  shown : (u v : Final) → SameEnd t at u v → SameShown u v
  shown (final j n c x os) (final k m d y ps) (e₁, e₂, e₃, e₄, r) = (e₁, e₂, e₃, e₄)

  left : (u v : Final) → SameEnd t at u v → SameOut t u v
  left (final j n c x os) (final k m d y ps) (e₁, e₂, e₃, e₄, r) = λ h.
      weaken t r.env (t.leave (entry t)) c.mis x y (ends_within t reads (typing t) typed r.function c.place r.env r.here h) r.alike

  both_runs : (mis : Bool) (x y : Data) → Agree t mis x y → (ds : List Directive) (room : ℕ) → SameEnd t at (run t ds room (start_ctl t mis) x) (run t ds room (start_ctl t mis) y)
  both_runs mis x y h ds room = run_same t at (flows_at t reads (typing t) typed (typing_laws t)) ds room (start_ctl t mis) x y (start_related mis x y h)

  -- the two runs show the same
  pub secure : (mis : Bool) (x y : Data) → Agree t mis x y → (ds : List Directive) (room : ℕ) → SameShown (run t ds room (start_ctl t mis) x) (run t ds room (start_ctl t mis) y)
  secure mis x y h ds room = shown (run t ds room (start_ctl t mis) x) (run t ds room (start_ctl t mis) y) (both_runs mis x y h ds room)

  -- and where they end at the entry's RETURN they agree on what the entry's out calls public, and transient if they
  -- do not misspeculate
  pub secure_out : (mis : Bool) (x y : Data) → Agree t mis x y → (ds : List Directive) (room : ℕ) → SameOut t (run t ds room (start_ctl t mis) x) (run t ds room (start_ctl t mis) y)
  secure_out mis x y h ds room = left (run t ds room (start_ctl t mis) x) (run t ds room (start_ctl t mis) y) (both_runs mis x y h ds room)
