-- What becomes of the stack: the state after a step has the stack that the plan says, and only a CALL makes it longer.
use Rattle.std.proofs.Common.{◌≡◌, ℕ, suc, ◌≤◌, Bool, eqb, List, [], ◌∷◌, length, refl, ap, arith, Option, Some, None}
use Rattle.model.specs.Tests.{pick_ind}
use Rattle.model.specs.Sites.{site}
use Rattle.model.specs.Table.{Table}
use Rattle.model.specs.Machine.{Ctl, Data, reg, Work, halt, did, Stepped, Stopped, Went, plain, onward, pop, work, fork, wrong, right, back, step_of, step}
use Rattle.model.specs.declared.Directive.{Directive}
use Rattle.model.specs.declared.Directive.TheVariants.{Plain, Branch, Stray, Back}
use Rattle.model.specs.declared.Observation.TheVariants.{Nothing}
use Rattle.model.specs.declared.Record.{Record}
use Rattle.model.specs.declared.Record.TheVariants.{Do, Call, If, Else, Endif, While, Endwhile, Return}
use Rattle.machine.specs.declared.State.{State}
use Rattle.machine.specs.declared.Next.{Next}
use Rattle.machine.specs.States.{ctl_of, ctl_next, array_next}

-- what `moved` says of the state after a step
abbrev pub Moved : State → Next → State → Type 0
Moved s n r = (ctl_of r ≡ ctl_next s n) × (r.masked ≡ n.masked) × (r.stack ≡ array_next s n.stacking)

-- ---- a step whose stack is the old one with a place more is a CALL's
abbrev pub Grows : Record → Ctl → Stepped → Type 0
Grows r c (Stopped k) = Unit {0}
Grows r c (Went d x o) = (q : ℕ) → d.stack ≡ q ∷ c.stack → (f : ℕ) × (m : Bool) × (r ≡ Call f m)

no_longer : (ps qs : List ℕ) (q : ℕ) → length ps ≤ length qs → ps ≡ q ∷ qs → ⊥
no_longer ps qs q l e = let n : length ps ≡ suc (length qs) = ap length e in absurd (omega (arith, n))

on : (r : Record) (w : Work) (c d : Ctl) → length d.stack ≤ length c.stack → Grows r c (onward w d)
on r (halt k) c d l = tt
on r (did x o) c d l = λ q e. absurd (no_longer d.stack c.stack q l e)

call : (f : ℕ) (m : Bool) (w : Work) (c d : Ctl) → Grows (Call f m) c (onward w d)
call f m (halt k) c d = tt
call f m (did x o) c d = λ q e. (f, m, refl)

module _ (t : Table) where
  forks : (r : Record) (v p q : ℕ) (c : Ctl) (d : Directive) (x : Data) → Grows r c (fork t v p q c d x)
  forks r v p q c Plain x = tt
  forks r v p q c (Branch b) x = λ i e. absurd (no_longer c.stack c.stack i (omega arith) e)
  forks r v p q c (Stray a i) x = tt
  forks r v p q c (Back j) x = tt

  wrongs : (r : Record) (o : Option Bool) (q : ℕ) (c : Ctl) (x : Data) → Grows r c (wrong t o q x)
  wrongs r None q c x = tt
  wrongs r (Some m) q c x = λ i e. absurd (no_longer [] c.stack i (omega arith) e)

  abbrev Popped : List ℕ → Option (List ℕ) → Type 0
  Popped ps None = Unit {0}
  Popped ps (Some qs) = length qs ≤ length ps

  pops : (ps : List ℕ) (q : ℕ) → Popped ps (pop ps q)
  pops [] q = tt
  pops (p ∷ ps) q = pick_ind (Popped (p ∷ ps)) (eqb p q) (λ _. omega arith) (λ _. tt)

  rights : (r : Record) (o : Option (List ℕ)) (q : ℕ) (c : Ctl) (x : Data) → Popped c.stack o → Grows r c (right t o q c x)
  rights r None q c x l = wrongs r (site t c.place q) q c x
  rights r (Some ps) q c x l = λ i e. absurd (no_longer ps c.stack i l e)

  backs : (r : Record) (c : Ctl) (d : Directive) (x : Data) → Grows r c (back t c d x)
  backs r c Plain x = tt
  backs r c (Branch b) x = tt
  backs r c (Stray a i) x = tt
  backs r c (Back q) x = rights r (pop c.stack q) q c x (pops c.stack q)

  records : (r : Record) (c : Ctl) (d : Directive) (x : Data) → Grows r c (step_of t r c d x)
  records (Do s) c d x = on (Do s) (work t s d c.mis x) c _ (omega arith)
  records (Call f m) c d x = call f m (plain d (did x Nothing)) c _
  records (If r e) c d x = forks (If r e) (reg x r) _ _ c d x
  records (Else n) c d x = on (Else n) (plain d (did x Nothing)) c _ (omega arith)
  records Endif c d x = on Endif (plain d (did x Nothing)) c _ (omega arith)
  records (While r e L) c d x = forks (While r e L) (reg x r) _ _ c d x
  records (Endwhile w) c d x = on (Endwhile w) (plain d (did x Nothing)) c _ (omega arith)
  records Return c d x = backs Return c d x

  pub only_calls : (c : Ctl) (d : Directive) (x : Data) → Grows (t.rec c.place) c (step t c d x)
  unfolding step
  only_calls c d x = records (t.rec c.place) c d x
