-- Packed words of sixteen slots, by what their slots hold: what the words' forms say, as the rules want it.
use Prim.Native.Nat.{ℕ, ◌+◌, ◌%◌, ◌^◌, ◌<◌, ◌≤◌, max, min}
use native.Mathlib.Omega.{arith}
use native.Mathlib.Nat.{mod-eq_of_lt}
use mathlib.Core.Path.{◌≡◌, refl, sym, ap, ◌∙◌}
use mathlib.Core.Bool.{Bool, true, false, ◌&&◌}
use mathlib.Core.List.{[], ◌∷◌}
use lib.Dec.{leb, ltb}
use lib.Pow.{pow_mono}
use borrow.Author.Tests.{lt-ltb}
use Rattle.model.specs.Tests.{pick, put, pick_ind, all}
use Rattle.model.specs.Levels.{levels_within, covers, within}
use Rattle.model.specs.theory.Whole.{Whole}
use Rattle.typing.specs.declared.environments.WordEnv.{WordEnv}
use Rattle.typing.specs.Envs.{view_env}
use Rattle.model.specs.Packing.{slot}
use Rattle.model.specs.Rules.{settle, beside}
use Rattle.model.specs.theory.Words.{NoThree, Levelled, lows, join_words, within_words, settle_word, put_word}
use Rattle.model.proofs.theory.Words.{slot_small, bits, lows_lt, lows_levels, slot_lows, join_words_lem, within_words_lem, settle_word_lem, put_word_lem}

-- one slot
pub put_slot : (w i v : ℕ) {r : ℕ} → i < 16 → v < 4 → r ≡ pick (ltb i 16) (put_word w i (v % 4)) w → slot r ≡ put (slot w) i v
put_slot w i v {r} l h e = λ j k. point k j
  where
    is : r ≡ put_word w i v
    is = e ∙ rw (lt-ltb i 16 l, mod-eq_of_lt h) refl

    point : (k : ℕ) → slot r k ≡ put (slot w) i v k
    point k = ap (λ (x : ℕ). slot x k) is ∙ put_word_lem w i v h k

-- the join
pub join_slots : (a b : ℕ) {r : ℕ} → a < 4 ^ 16 → b < 4 ^ 16 → NoThree (slot a) → NoThree (slot b) → r ≡ join_words 16 a b → slot r ≡ (λ (i : ℕ). max (slot a i) (slot b i))
join_slots a b {r} h l p q e = λ j k. point k j
  where
    point : (k : ℕ) → slot r k ≡ max (slot a k) (slot b k)
    point k = ap (λ (x : ℕ). slot x k) e ∙ join_words_lem 16 a b h l p q k

-- within, over the n slots that both words keep to
pub within_slots : (n a b : ℕ) {r : Bool} → a < 4 ^ 16 → b < 4 ^ 16 → Levelled n (slot a) → Levelled n (slot b) → r ≡ within_words 16 a b → levels_within n (slot a) (slot b) ≡ r
within_slots n a b h l w v e = sym (within_words_lem 16 n a b h l w v) ∙ sym e

-- .. of two environments
pub within_words_of : (n m : ℕ) (e f : WordEnv) → e.registers.0 < 4 ^ 16 → f.registers.0 < 4 ^ 16 → e.arrays.0 < 4 ^ 16 → f.arrays.0 < 4 ^ 16
    → Whole n m (view_env e) → Whole n m (view_env f)
    → within n m (view_env e) (view_env f) ≡ (covers e.status f.status && (within_words 16 e.registers.0 f.registers.0 && within_words 16 e.arrays.0 f.arrays.0))
unfolding within
within_words_of n m e f a b c d w v =
    simp (within_slots n e.registers.0 f.registers.0 a b w.regs v.regs refl, within_slots m e.arrays.0 f.arrays.0 c d w.arrays v.arrays refl) (three (covers e.status f.status) _ _)
  where
    three : (x y z : Bool) → all (x ∷ y ∷ z ∷ []) ≡ (x && (y && z))
    three true true true = refl
    three true true false = refl
    three true false z = refl
    three false y z = refl

-- one level settled
pub settle_small : (w i : ℕ) → settle (slot w i) < 4
unfolding settle
settle_small w i = pick_ind (λ x. x < 4) (leb (slot w i) 1) (λ _. omega arith) (λ _. slot_small w i)

-- INIT
pub settle_slots : (a : ℕ) {r : ℕ} → a < 4 ^ 16 → NoThree (slot a) → r ≡ settle_word 16 a → slot r ≡ (λ (i : ℕ). settle (slot a i))
settle_slots a {r} h p e = λ j k. point k j
  where
    point : (k : ℕ) → slot r k ≡ settle (slot a k)
    point k = ap (λ (x : ℕ). slot x k) e ∙ settle_word_lem 16 a h p k

-- beside an array that is stored into
beside_none : (m b v : ℕ) → beside m 0 b v ≡ v
unfolding beside
beside_none m b v = pick_ind (λ x. x ≡ v) (ltb b m) (λ _. omega arith) (λ _. refl)

pub beside_public : (a m l : ℕ) → l ≡ 0 → slot a ≡ (λ (b : ℕ). beside m l b (slot a b))
beside_public a m l e = rw e (λ j k. sym (beside_none m k (slot a k)) j)

pub beside_slots : (a m l : ℕ) {r : ℕ} → a < 4 ^ 16 → NoThree (slot a) → m ≤ 16 → (l ≡ 0 → ⊥) → r ≡ join_words 16 a (lows (min m 16)) → slot r ≡ (λ (b : ℕ). beside m l b (slot a b))
unfolding beside
beside_slots a m l {r} h p s n e = λ j k. point k j
  where
    least : min m 16 ≡ m
    least = omega arith

    wide : m + m ≤ 32
    wide = omega arith

    small : lows m < 4 ^ 16
    small = omega (arith, lows_lt m, bits m, pow_mono wide)

    point : (k : ℕ) → slot r k ≡ beside m l k (slot a k)
    point k =
        ap (λ (x : ℕ). slot x k) (e ∙ ap (λ (x : ℕ). join_words 16 a (lows x)) least)
        ∙ join_words_lem 16 a (lows m) h small p (lows_levels m) k
        ∙ ap (λ (x : ℕ). max (slot a k) x) (slot_lows m k)
        ∙ two (ltb k m)
      where
        two : (b : Bool) → max (slot a k) (pick b 1 0) ≡ pick b (max (slot a k) (min 1 l)) (slot a k)
        two true = omega (arith, n)
        two false = omega arith
