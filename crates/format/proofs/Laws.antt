-- Laws of the numbers and of packed levels, as their readers use them.
use Prim.Native.Nat.{ℕ, zero, suc, ◌+◌, ◌-◌, ◌/◌, ◌%◌, ◌<◌, ◌≤◌}
use native.Mathlib.Numerals.{sub-one}
use native.Mathlib.Omega.{arith}
use mathlib.Core.Path.{◌≡◌, refl, sym, ◌∙◌}
use mathlib.Core.Bool.{false}
use mathlib.Core.List.{List}
use lib.ListN.{length, get_or-eq_default}
use lib.Dec.{eqb}
use Rattle.model.specs.Tests.{pick}
use Rattle.model.specs.Packing.{levels_in}
use Rattle.format.specs.Format.{byte, word16, word32, packed_at}

-- past the end there are zeros
pub past : (t : List ℕ) (p : ℕ) → length t ≤ p → 0 ≡ byte t p
past t p h = sym (get_or-eq_default t 0 h)

pub past16 : (t : List ℕ) (p : ℕ) → length t ≤ p → 0 ≡ word16 t p
past16 t p h = rw (sym (past t p h), sym (past t (p + 1) (omega arith))) refl

pub past32 : (t : List ℕ) (p : ℕ) → length t ≤ p → 0 ≡ word32 t p
past32 t p h = rw (sym (past t p h), sym (past t (p + 1) (omega arith)), sym (past t (p + 2) (omega arith)), sym (past t (p + 3) (omega arith))) refl

pub past_packed : (t : List ℕ) (p : ℕ) → length t ≤ p → record { status = 0; registers = 0; arrays = 0 } ≡ packed_at t p
past_packed t p h = λ i. record { status = past t p h i; registers = past32 t (p + 1) (omega arith) i; arrays = past16 t (p + 5) (omega arith) i }

-- one slot looked at, one fewer left
pub levels_is : (n w : ℕ) → (n ≡ 0 → ⊥) → levels_in n w ≡ pick (eqb (w % 4) 3) false (levels_in (n - 1) (w / 4))
unfolding levels_in
levels_is zero w h = absurd (h refl)
levels_is (suc n) w h = rw sub-one

-- .. that is not 3, where k were looked at before
pub levels_next : (n k w : ℕ) → k < n → eqb (w % 4) 3 ≡ false → levels_in (n - k) w ≡ levels_in (n - (k + 1)) (w / 4)
levels_next n k w h e =
    let m : n - k - 1 ≡ n - (k + 1) = omega arith in
    levels_is (n - k) w (λ q. omega arith) ∙ rw (e, m) refl
