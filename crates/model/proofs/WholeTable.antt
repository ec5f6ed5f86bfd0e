-- What the typing of a whole table (specs/Typing) answers is what the rules say.
use Prim.Native.Nat.{ℕ, zero, suc, ◌-◌, ◌<◌, ◌≤◌}
use native.Mathlib.Omega.{arith}
use Rattle.std.specs.Prelude.{◌≡◌, ◌↔◌, Ok}
use Rattle.std.proofs.Math.Path.{refl}
use Rattle.std.proofs.Common.{subst}
use Rattle.model.specs.Table.{Table}
use Rattle.model.specs.Blocks.{TypesFunction}
use Rattle.model.specs.Rules.{typing, Typed}
use Rattle.model.specs.Walk.{Ending, Reached, Failed, type_function}
use Rattle.model.specs.Decide.{typing_tests}
use Rattle.model.proofs.Decide.{typing_right}
use Rattle.model.proofs.theory.Passes.{Verdict, verdict, Passes, passes_types}
use Rattle.model.specs.Levels.{Env}
use Rattle.model.specs.Typing.{on_pass, type_from, type_all, Read, Says}

module _ (t : Table) (size : ℕ) where
  module _ (read : (g : ℕ) → g < t.functions → Read t size g) where
    abbrev Before : ℕ → Type 0
    Before f = (g : ℕ) → g < f → TypesFunction t (typing t) g

    -- once the functions before the last n type
    says_from : (n : ℕ) → n ≤ t.functions → Before (t.functions - n) → Says t size (type_from t size n)
    unfolding type_from
    says_from zero l b = λ f k. b f (omega arith)
    says_from (suc n) l b =
        let g : ℕ = t.functions - suc n in
        let lg : g < t.functions = omega arith in
        let r = read g lg in
        go (type_function t (typing t) (typing_tests t) size g) (verdict t (typing t) (typing_tests t) g size (typing_right t g) r.blocks r.nested r.inside) (says_from n (omega arith))
      where
        more : TypesFunction t (typing t) (t.functions - suc n) → Before (t.functions - n)
        more d g k = pick_last (native.Mathlib.Decide.ℕ_discrete g (t.functions - suc n))
          where
            pick_last : Dec (g ≡ t.functions - suc n) → TypesFunction t (typing t) g
            pick_last (yes e) = rw e d
            pick_last (no h) = b g (omega arith)

        go : (w : Ending Env) → Verdict t (typing t) (typing_tests t) (t.functions - suc n) size (typing_right t (t.functions - suc n)) w → (Before (t.functions - n) → Says t size (type_from t size n)) → Says t size (on_pass w (type_from t size n))
        go (Reached p E) v ih = ih (more v)
        go (Failed m p) v ih = record { function = t.functions - suc n; lies = omega arith; before = b; meets = v }

    -- what typing answers holds: a pass is a derivation for every function, a fault is the first fault
    pub type_says : Says t size (type_all t size)
    type_says = says_from t.functions (omega arith) (λ g k. absurd (omega arith))

    typed_passes : Typed t → (n : ℕ) → n ≤ t.functions → type_from t size n ≡ Ok tt
    unfolding type_from
    typed_passes d zero l = refl
    typed_passes d (suc n) l =
        let g : ℕ = t.functions - suc n in
        let lg : g < t.functions = omega arith in
        let r = read g lg in
        go (type_function t (typing t) (typing_tests t) size g) ((passes_types t (typing t) (typing_tests t) g size (typing_right t g) r.blocks r.nested r.inside).1 (d g lg)) (typed_passes d n (omega arith))
      where
        go : (w : Ending Env) → Passes t (typing t) (typing_tests t) (t.functions - suc n) size (typing_right t (t.functions - suc n)) w → type_from t size n ≡ Ok tt → on_pass w (type_from t size n) ≡ Ok tt
        go (Reached p E) h ih = ih
        go (Failed m p) h ih = absurd h

    -- typing passes exactly the tables whose every function the rules type
    pub passes_typed : (type_all t size ≡ Ok tt) ↔ Typed t
    passes_typed = (λ e. subst (Says t size) e type_says, λ d. typed_passes d t.functions (omega arith))
