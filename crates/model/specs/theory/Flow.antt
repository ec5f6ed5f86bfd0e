-- What every place of a typed table satisfies, place by place: at f p E says that p, in function f, is typed from E.
use Rattle.std.specs.Prelude.{ℕ, ◌+◌, ◌≡◌, Bool, true, false, List, [], ◌∷◌, Some}
use Rattle.model.specs.Blocks.{Rules}
use Rattle.model.specs.Records.{length_of}
use Rattle.model.specs.Sites.{site}
use Rattle.model.specs.Table.{Table}
use Rattle.model.specs.declared.Record.{Record}
use Rattle.model.specs.declared.Record.TheVariants.{Do, Call, If, Else, Endif, While, Endwhile, Return}

module _ (t : Table) (R : Rules) (at : ℕ → ℕ → R.Env → Type 0) where
  -- one may go to p with E
  pub record To (f p : ℕ) (E : R.Env) : Type 0 where
    pub env : R.Env
    pub here : at f p env
    pub within : R.Within E env

  -- q follows a CALL of f, marked m
  pub record Site (f q : ℕ) (m : Bool) : Type 0 where
    pub caller : ℕ
    pub call : ℕ
    pub env : R.Env
    pub here : at caller call env
    pub is : t.rec call ≡ Call f m
    pub follows : q ≡ call + 3

  abbrev pub Simply : ℕ → ℕ → R.Env → Record → Type 0
  Simply f p E i = R.Needs f i E × To f (p + length_of i) (R.after i E)

  abbrev pub Flow : ℕ → ℕ → R.Env → Record → Type 0
  Flow f p E (Do s) = Simply f p E (Do s)
  Flow f p E (Call g m) = Simply f p E (Call g m) × To g (t.start g) (R.enter g)
  Flow f p E (If r e) = (R.Public E r) × To f (p + 4) (R.guarded E r true) × To f (e + 3) (R.guarded E r false)
  Flow f p E (Else n) = To f (n + 1) E
  Flow f p E Endif = To f (p + 1) E
  Flow f p E (While r e L) = (R.Public E r) × To f (p + 11) (R.guarded E r true) × To f (e + 3) (R.guarded E r false)
  Flow f p E (Endwhile w) = To f w E
  Flow f p E Return = R.Within E (R.leave f) × ((q : ℕ) (m : Bool) → site t p q ≡ Some m → Site f q m)

  abbrev pub Flows : Type 0
  Flows = (f p : ℕ) (E : R.Env) → at f p E → Flow f p E (t.rec p)

  -- the stack of a run that stands in f: its top follows a CALL of f, the next one a CALL of that caller, and so on
  abbrev pub Frames : ℕ → List ℕ → Type 0
  Frames f [] = Unit {0}
  Frames f (q ∷ qs) = (m : Bool) × (s : Site f q m) × Frames s.caller qs
