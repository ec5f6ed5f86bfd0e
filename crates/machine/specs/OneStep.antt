-- The contract of the step fixes every field of the state afterwards, every lent word and what it answers: whatever
-- two steps meet it from the same state, they leave the same.
use Rattle.std.specs.Prelude.{◌≡◌, ℕ, ◌+◌, ◌-◌, [], ◌∷◌, length, refl, Result, Ok, Err}
use Rattle.std.proofs.Common.{arith, sym, ap, ◌∙◌, le-leb}
use Rattle.std.proofs.lemmas.List.Edits.{sets}
use Rattle.model.specs.Table.{Table}
use Rattle.model.specs.Machine.{Ctl, Data, Stepped, Stopped, Went, step, size, Final, final, after_step}
use Rattle.model.specs.declared.Stop.{Stop}
use Rattle.model.specs.declared.Stop.TheVariants.{NoRoom}
use Rattle.model.specs.declared.Directive.{Directive}
use Rattle.model.specs.declared.Observation.{Observation}
use Rattle.model.specs.declared.Observation.TheVariants.{Nothing}
use Rattle.machine.specs.declared.State.{State}
use Rattle.machine.specs.Directives.{bytes_of}
use Rattle.machine.specs.States.{length_stack, ctl_of, data_of, arrayed}
use Rattle.machine.specs.Turns.{Lent, ActMoves, ActHalts, Acts}

-- the parts of a step, and of an end
abbrev control : Ctl → Stepped → Ctl
control c (Stopped k) = c
control c (Went d x o) = d

abbrev data' : Data → Stepped → Data
data' x (Stopped k) = x
data' x (Went d y o) = y

abbrev seen' : Stepped → Observation
seen' (Stopped k) = Nothing
seen' (Went d x o) = o

abbrev stop_in : Final → Stop
stop_in (final k n c x os) = k

abbrev steps_in : Final → ℕ
steps_in (final k n c x os) = n

module _ (t : Table) (s : State) (dir : Directive) (a : Lent) where
  abbrev any : ℕ → Ctl → Data → Final
  any room c x = final NoRoom 0 c x []

  both_moved : (u v : State) (b d : Lent) → ActMoves t s dir a u b → ActMoves t s dir a v d → (u ≡ v) × (b ≡ d)
  both_moved u v b d m n =
      let w = sym m.stepped ∙ n.stepped in
      let ctl : ctl_of u ≡ ctl_of v = ap (control (ctl_of s)) w in
      let dat : data_of u b.regs b.mem ≡ data_of v d.regs d.mem = ap (data' (data_of s a.regs a.mem)) w in
      let saw : m.saw ≡ n.saw = ap seen' w in
      let stack : (ctl_of u).stack ≡ (ctl_of v).stack = ap (λ (c : Ctl). c.stack) ctl in
      let depth : u.depth ≡ v.depth = sym (length_stack u.depth u.stack) ∙ ap length stack ∙ length_stack v.depth v.stack in
      let row : u.stack ≡ v.stack = m.array ∙ ap (arrayed s) stack ∙ sym n.array in
      let end : b.seen ≡ d.seen = m.seen' ∙ ap (λ (o : Observation). a.seen + size o) saw ∙ sym n.seen' in
      let obs : b.obs ≡ d.obs = m.wrote ∙ ap (λ (o : Observation). sets a.obs a.seen (bytes_of o)) saw ∙ sym n.wrote in (
        λ i. record { place = (ctl i).place; stack = row i; depth = depth i; mis = (ctl i).mis; masked = (dat i).masked },
        λ i. record { regs = (dat i).regs; mem = (dat i).mem; obs = obs i; seen = end i },
      )

  both_halted : (j k : Stop) (u v : State) (b d : Lent) → ActHalts t s dir a j u b → ActHalts t s dir a k v d → (j ≡ k) × (u ≡ v) × (b ≡ d)
  both_halted j k u v b d m n = (ap stop_in (sym (m.stopped any) ∙ n.stopped any), m.stays ∙ sym n.stays, sym m.kept ∙ n.kept)

  -- a step that is made is not one that halts
  not_both : (u v : State) (k : Stop) (b d : Lent) → ActMoves t s dir a u b → ActHalts t s dir a k v d → ⊥
  not_both u v k b d m n =
      let x = data_of s a.regs a.mem in
      let made : after_step (step t (ctl_of s) dir x) (length a.obs - a.seen) (ctl_of s) x any
      ≡ final NoRoom 1 (ctl_of u) (data_of u b.regs b.mem) (m.saw ∷ [])
      = rw (m.stepped, le-leb (size m.saw) (length a.obs - a.seen) m.room) in
      let steps = ap steps_in (sym made ∙ n.stopped any) in
      absurd (omega (arith, steps))

  pub one_step : (p q : Result (Unit {0}) Stop) (u v : State) (b d : Lent)
      → Acts t s dir a p u b → Acts t s dir a q v d → (p ≡ q) × (u ≡ v) × (b ≡ d)
  one_step (Ok p) (Ok q) u v b d x y = let e = both_moved u v b d x y in (refl, e.0, e.1)
  one_step (Ok p) (Err k) u v b d x y = absurd (not_both u v k b d x y)
  one_step (Err j) (Ok q) u v b d x y = absurd (not_both v u j d b y x)
  one_step (Err j) (Err k) u v b d x y = let e = both_halted j k u v b d x y in (ap Err e.0, e.1, e.2)
