-- Laws of the arrays' words and where they lie, of a directive list, and of an observation's bytes.
use Rattle.std.proofs.Common.{◌≡◌, ℕ, zero, suc, ◌+◌, ◌-◌, ◌<◌, ◌≤◌, eqb, ltb, List, [], ◌∷◌, length, get_or, set, min, sym, refl, ap, add_assoc, ◌∙◌, subst, append_assoc, drop-drop, add-one, arith, Some, None, Ok, Err, ltb-false, le-leb}
use native.Mathlib.Decide.{dec_lt}
use lib.Seq.{sets, sets-eq}
use borrow.Author.Tests.{lt-leb}
use borrow.Rule.Slice.PartMut.{mid_of, put_mid, mid_len, set_mid_at}
use Rattle.model.specs.Tests.{pick_ind}
use Rattle.model.specs.Memory.{offset_in}
use Rattle.model.specs.declared.Sizes.{Sizes}
use Rattle.model.specs.declared.Directive.{Directive}
use Rattle.format.specs.Layout.{words_count}
use Rattle.format.specs.Laws.{words_first}
use Rattle.format.specs.Format.{byte, words_at, words_from}
use Rattle.model.specs.Numbers.{refusal}
use Rattle.model.specs.declared.Fault.TheVariants.{BadList}
use Rattle.machine.specs.Directives.{Told, branch_at, stray_at, back_at, directive_at, list_from}
use Rattle.machine.specs.Runs.{total}

-- ---- THE ARRAYS' WORDS
pub offset_none : (z : Sizes) (t : List ℕ) (n b a : ℕ) → n ≡ 0 → offset_in (words_from z t n b) a ≡ 0
unfolding offset_in words_from
offset_none z t n b a e = rw e

pub offset_first : (ws : List ℕ) → offset_in ws 0 ≡ 0
unfolding offset_in
offset_first [] = refl
offset_first (w ∷ ws) = refl

offset_next : (ws : List ℕ) (a : ℕ) → a < length ws → offset_in ws (suc a) ≡ offset_in ws a + get_or ws a 0
unfolding offset_in
offset_next [] a l = absurd (omega arith)
offset_next (w ∷ ws) zero l = rw (offset_first ws) (omega arith)
offset_next (w ∷ ws) (suc a) l = ap (λ (n : ℕ). w + n) (offset_next ws a (omega arith)) ∙ sym (add_assoc w (offset_in ws a) (get_or ws a 0))

-- past the last array memory ends
offset_end : (ws : List ℕ) (a : ℕ) → length ws ≤ a → offset_in ws a ≡ total ws
unfolding offset_in total
offset_end [] a l = refl
offset_end (w ∷ ws) zero l = absurd (omega arith)
offset_end (w ∷ ws) (suc a) l = rw (offset_end ws a (omega arith)) refl

module _ (z : Sizes) (t : List ℕ) where
  abbrev W : List ℕ
  W = words_from z t z.arrays 0

  pub offset_on : (a : ℕ) → a < z.arrays → offset_in W (a + 1) ≡ offset_in W a + words_at z t a
  offset_on a l = rw (add-one a, offset_next W a (rw words_count l), words_first z t z.arrays a l) refl

  pub offset_all : offset_in W z.arrays ≡ total W
  offset_all = offset_end W z.arrays (rw words_count (omega arith))

  pub offset_past : (a b : ℕ) → b ≡ min a z.arrays → offset_in W a ≡ offset_in W b
  offset_past a b e = go (dec_lt a z.arrays)
    where
      go : Dec (a < z.arrays) → offset_in W a ≡ offset_in W b
      go (yes l) = let h : b ≡ a = omega arith in rw h
      go (no l) =
          let h : b ≡ z.arrays = omega arith in
          rw (h, offset_all) (offset_end W a (rw words_count (omega arith)))

pub ruleset offsets = (offset_first, offset_on, offset_past)

-- past the arrays there are no words
pub words_out : (z : Sizes) (t : List ℕ) (n b a : ℕ) → n ≤ a → get_or (words_from z t n b) a 0 ≡ 0
unfolding words_from
words_out z t zero b a l = refl
words_out z t (suc n) b zero l = absurd (omega arith)
words_out z t (suc n) b (suc a) l = words_out z t n (suc b) a (omega arith)

-- an array ends within memory
pub array_end : (ws : List ℕ) (a : ℕ) → offset_in ws a + get_or ws a 0 ≤ total ws
unfolding offset_in total
array_end [] a = omega arith
array_end (w ∷ ws) zero = omega arith
array_end (w ∷ ws) (suc a) = omega (arith, array_end ws a)

-- a store into an array's stretch is a store into memory
pub stored_in : (ws m : List ℕ) (a i v p q : ℕ) → p ≡ offset_in ws a → q ≡ get_or ws a 0 → i < get_or ws a 0 → length m ≡ total ws
    → put_mid p (p + q - p) m (set (mid_of p (p + q - p) m) i v) ≡ set m (offset_in ws a + i) v
stored_in ws m a i v p q e f l k =
    let h : p + q ≤ length m = rw (e, f, k) (array_end ws a) in
    let n = mid_len p (p + q) m h in
    let j : i < length (mid_of p (p + q - p) m) = omega arith in
    set_mid_at p (p + q - p) i m v j ∙ rw e

-- ---- A DIRECTIVE goes forward and stays in the list
abbrev Onward : List ℕ → ℕ → Told → Type 0
Onward d at (Some (x, n)) = (at < n) × (n ≤ length d)
Onward d at None = Unit {0}

branch_ok : (d : List ℕ) (at : ℕ) → Onward d at (branch_at d at)
unfolding branch_at
branch_ok d at =
    pick_ind (Onward d at) (ltb (length d - at) 2) (λ _. tt) (λ e.
    let h = ltb-false (length d - at) 2 e in
    pick_ind (Onward d at) (ltb (byte d (at + 1)) 2) (λ _. (omega arith, omega arith)) (λ _. tt))

stray_ok : (d : List ℕ) (at : ℕ) → Onward d at (stray_at d at)
unfolding stray_at
stray_ok d at = pick_ind (Onward d at) (ltb (length d - at) 4) (λ _. tt) (λ e. let h = ltb-false (length d - at) 4 e in (omega arith, omega arith))

back_ok : (d : List ℕ) (at : ℕ) → Onward d at (back_at d at)
unfolding back_at
back_ok d at = pick_ind (Onward d at) (ltb (length d - at) 3) (λ _. tt) (λ e. let h = ltb-false (length d - at) 3 e in (omega arith, omega arith))

directive_ok : (d : List ℕ) (at : ℕ) → at < length d → Onward d at (directive_at d at)
unfolding directive_at
directive_ok d at l =
    pick_ind (Onward d at) (eqb (byte d at) 96) (λ _. (omega arith, omega arith)) (λ _.
    pick_ind (Onward d at) (eqb (byte d at) 97) (λ _. branch_ok d at) (λ _.
    pick_ind (Onward d at) (eqb (byte d at) 98) (λ _. stray_ok d at) (λ _.
    pick_ind (Onward d at) (eqb (byte d at) 99) (λ _. back_ok d at) (λ _. tt))))

pub directive_on : (d : List ℕ) (at : ℕ) {x : Directive} {next : ℕ} → at < length d → directive_at d at ≡ Some (x, next) → (at < next) × (next ≤ length d)
directive_on d at l e = subst (Onward d at) e (directive_ok d at l)

-- a turn of the list's loop, k bounding the directives from `at` on
pub list_end : (d : List ℕ) (k at : ℕ) → length d ≤ at → list_from k d at ≡ Ok tt
unfolding list_from
list_end d zero at l = refl
list_end d (suc k) at l = simp le-leb

pub list_bad : (d : List ℕ) (k at : ℕ) → at < length d → length d - at ≤ k → directive_at d at ≡ None → list_from k d at ≡ Err (refusal BadList at)
unfolding list_from
list_bad d zero at l h e = absurd (omega arith)
list_bad d (suc k) at l h e = rw (lt-leb (length d) at l, e)

pub list_next : (d : List ℕ) (k at : ℕ) {x : Directive} {next : ℕ} → at < length d → length d - at ≤ k → directive_at d at ≡ Some (x, next)
    → (j : ℕ) × (length d - next ≤ j) × (list_from k d at ≡ list_from j d next)
unfolding list_from
list_next d zero at l h e = absurd (omega arith)
list_next d (suc k) at l h e = let o = directive_on d at l e in (k, omega arith, rw (lt-leb (length d) at l, e))

-- ---- AN OBSERVATION'S BYTES: a stretch put into a list is its bytes one after another
pub sets_mid : (vs l : List ℕ) (i k : ℕ) → k ≡ length vs → i + k ≤ length l → put_mid i k l vs ≡ sets l i vs
sets_mid vs l i k e h = rw (e, drop-drop, ← append_assoc) (sym (sets-eq vs l i (omega arith)))
