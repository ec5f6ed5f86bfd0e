-- Laws of a step's plan: the stack, the function that a place lies in, the record at a place.
use Rattle.std.proofs.Common.{◌≡◌, ℕ, zero, suc, ◌+◌, ◌-◌, ◌<◌, ◌≤◌, List, ◌∷◌, length, set, sym, refl, ap, add-one, sub-one, arith, le-leb, get_or-set_other, get_or-set_same, Ok, Err}
use borrow.Author.Tests.{lt-leb}
use Rattle.model.specs.Sites.{home_of}
use Rattle.model.specs.Machine.{Ctl, Data, back, step_of, step}
use Rattle.model.specs.declared.Sizes.{Sizes}
use Rattle.model.specs.declared.Directive.{Directive}
use Rattle.model.specs.declared.Refusal.{Refusal}
use Rattle.model.specs.declared.Record.{Record}
use Rattle.model.specs.declared.Record.TheVariants.{Do, Call, If, Else, Endif, While, Endwhile, Return}
use Rattle.format.specs.Format.{Decoded, byte, word16, decode_at}
use Rattle.format.specs.Layout.{table_with, record_got, record_bad}
use Rattle.format.specs.Laws.{Names, good}
use Rattle.machine.specs.States.{stack_of}
use Rattle.machine.specs.Plans.{IsDue, place_in}

-- ---- the stack
stack_set : (d : ℕ) (xs : List ℕ) (k v : ℕ) → d ≤ k → stack_of d (set xs k v) ≡ stack_of d xs
stack_set zero xs k v l = refl
stack_set (suc d) xs k v l = rw (get_or-set_other xs k d v 0 (λ e. omega arith), stack_set d xs k v (omega arith)) refl

-- a place that is pushed
pub pushes : (xs : List ℕ) (d q : ℕ) → d < length xs → stack_of (d + 1) (set xs d q) ≡ q ∷ stack_of d xs
pushes xs d q l = rw (add-one, get_or-set_same xs d q 0 l, stack_set d xs d q (omega arith)) refl

-- ---- the function that a place lies in
pub home_none : (f : ℕ → ℕ) (n p : ℕ) → n ≤ 0 → home_of f n p ≡ 0
unfolding home_of
home_none f zero p l = refl
home_none f (suc n) p l = absurd (omega arith)

pub home_here : (f : ℕ → ℕ) (n p : ℕ) → 0 < n → f (n - 1) ≤ p → home_of f n p ≡ n - 1
unfolding home_of
home_here f zero p h l = absurd (omega arith)
home_here f (suc n) p h l = rw (sub-one, le-leb (f n) p (rw sub-one at l)) refl

pub home_before : (f : ℕ → ℕ) (n p : ℕ) → 0 < n → p < f (n - 1) → home_of f n p ≡ home_of f (n - 1) p
unfolding home_of
home_before f zero p h l = absurd (omega arith)
home_before f (suc n) p h l = rw (sub-one, lt-leb (f n) p (rw sub-one at l)) refl

pub ruleset homes = (home_none, home_here, home_before)

-- ---- the record at a place
pub step_got : (z : Sizes) (t : List ℕ) (c : Ctl) (dir : Directive) (x : Data) {r : Record} {n : ℕ} → decode_at z t c.place ≡ Ok (r, n) → step (table_with z t) c dir x ≡ step_of (table_with z t) r c dir x
unfolding step
step_got z t c dir x e = ap (λ (r : Record). step_of (table_with z t) r c dir x) (record_got z t c.place e)

pub step_bad : (z : Sizes) (t : List ℕ) (c : Ctl) (dir : Directive) (x : Data) {e : Refusal} → decode_at z t c.place ≡ Err e → step (table_with z t) c dir x ≡ back (table_with z t) c dir x
unfolding step
step_bad z t c dir x e = ap (λ (r : Record). step_of (table_with z t) r c dir x) (record_bad z t c.place e)

-- two bytes
small_16 : (t : List ℕ) (p : ℕ) → ((i : ℕ) → byte t i < 256) → word16 t p < 65536
small_16 t p h = omega (arith, h p, h (p + 1))

named : (t : List ℕ) (p : ℕ) (r : Record) → ((i : ℕ) → byte t i < 256) → Names t p r → place_in r < 65536
named t p (Do s) h n = omega arith
named t p (Call f m) h n = omega arith
named t p (If r e) h n = rw n (small_16 t (p + 2) h)
named t p (Else e) h n = rw n (small_16 t (p + 1) h)
named t p Endif h n = omega arith
named t p (While r e L) h n = rw n (small_16 t (p + 2) h)
named t p (Endwhile e) h n = rw n (small_16 t (p + 1) h)
named t p Return h n = omega arith

pub due : (z : Sizes) (t : List ℕ) (p : ℕ) {d : Decoded} → d ≡ decode_at z t p → length t ≤ 32768 → ((i : ℕ) → byte t i < 256) → IsDue z t p d
due z t p {d = Err x} e l h = tt
due z t p {d = Ok (r, n)} e l h =
    let g = good z t p (sym e) in
    record { next = g.next; small = omega (arith, g.whole, l); reaches = g.reaches; place = named t p r h g.names }
