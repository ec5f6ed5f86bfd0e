-- For every table that reads, typed or not, and every list of directives: wherever a run ends, and so after each of
-- its steps, it stands at the start of a record of code, with at most 31 places on the stack and none at the entry's
-- RETURN; and it stops only for a listed reason.
use Rattle.std.specs.Prelude.{◌≡◌, ℕ, ◌<◌, ◌≤◌, Bool, List, [], ◌∷◌, length, refl, Ok}
use Rattle.std.proofs.Common.{arith, sym, ◌∙◌, inl, inr}
use Rattle.model.specs.Table.{Table, entry}
use Rattle.model.specs.Rules.{reading}
use Rattle.model.specs.Records.{length_pos}
use Rattle.model.specs.InOrder.{Chain, chain_le}
use Rattle.model.proofs.theory.Functions.{ret_alone}
use Rattle.model.proofs.theory.Places.{spans, look, between, no_return}
use Rattle.model.proofs.Rules.{reading_laws}
use Rattle.model.specs.theory.Code.{Known, At}
use Rattle.model.proofs.theory.Code.{enters_at, depth}
use Rattle.model.specs.theory.Stands.{Stands, EndStands}
use Rattle.model.proofs.theory.Stands.{stack_bound, run_stands}
use Rattle.model.specs.Machine.{Ctl, Data, Final, final, run, start_ctl}
use Rattle.model.specs.declared.Sizes.{Sizes}
use Rattle.model.specs.declared.Directive.{Directive}
use Rattle.format.specs.Layout.{table_of}
use Rattle.reading.specs.Reading.{read_at}
use Rattle.reading.specs.theory.Known.{known}

-- where control stands: in a function, at a record that is met by going through its records from its start
pub record Standing (t : Table) (c : Ctl) : Type 0 where
  pub function : ℕ
  pub lies : function < t.functions
  pub met : Chain t (t.start function) c.place
  pub inside : c.place ≤ t.ret function
  pub shallow : length c.stack < t.functions
  pub empty : c.place ≡ t.ret (entry t) → c.stack ≡ []

module _ (t : Table) (k : Known t) where
  none_left : (st : List ℕ) → length st < 1 → st ≡ []
  none_left [] l = refl
  none_left (x ∷ xs) l = absurd (omega arith)

  at_record : (f p : ℕ) (E : Unit {0}) → At t k reading k.blocks f p E → (f < t.functions) × Chain t (t.start f) p × (p ≤ t.ret f)
  at_record f p E (l, inl w) =
      let b = look t reading _ (k.blocks f l).body (between t reading (k.blocks f l).body) p E w in
      (l, b.0, omega (arith, chain_le t b.1, length_pos (t.rec p)))
  at_record f p E (l, inr (u, v)) = (l, rw u (spans t reading (k.blocks f l).body), omega arith)

  at_end : (f p : ℕ) (E : Unit {0}) → At t k reading k.blocks f p E → p ≡ t.ret (entry t) → f ≡ entry t
  at_end f p E (l, inl w) e = absurd (look t reading _ (k.blocks f l).body (no_return t reading (k.blocks f l).body) p E w (rw e (k.blocks (entry t) k.some_function).returns))
  at_end f p E (l, inr (u, v)) e = ret_alone t k.blocks k.touch f (entry t) l k.some_function (sym u ∙ e)

  pub standing : (c : Ctl) → Stands t k c → Standing t c
  standing c s =
      let w = at_record s.function c.place s.here.env s.here.here in
      record {
        function = s.function;
        lies = w.0;
        met = w.1;
        inside = w.2;
        shallow = stack_bound t k c s;
        empty = λ e. none_left c.stack (omega (arith, depth t k reading k.blocks s.function c.stack w.0 s.frames, at_end s.function c.place s.here.env s.here.here e));
      }

  pub start_stands : (mis : Bool) → Stands t k (start_ctl t mis)
  start_stands mis = record { function = entry t; here = enters_at t k reading k.blocks reading_laws (entry t) k.some_function; frames = tt }

  abbrev pub EndStanding : Final → Type 0
  EndStanding (final j n c x os) = Standing t c

  ends : (u : Final) → EndStands t k u → EndStanding u
  ends (final j n c x os) s = standing c s

  pub run_standing : (mis : Bool) (ds : List Directive) (room : ℕ) (x : Data) → EndStanding (run t ds room (start_ctl t mis) x)
  run_standing mis ds room x = ends (run t ds room (start_ctl t mis) x) (run_stands t k ds room (start_ctl t mis) x (start_stands mis))

-- EVERY TABLE THAT READS
pub everywhere : (t : List ℕ) (z : Sizes) (e : read_at t ≡ Ok z) (mis : Bool) (ds : List Directive) (room : ℕ) (x : Data) → EndStanding (table_of t) (known t z e) (run (table_of t) ds room (start_ctl (table_of t) mis) x)
everywhere t z e mis ds room x = run_standing (table_of t) (known t z e) mis ds room x
