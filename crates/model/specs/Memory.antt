-- Lists changed at one place in two runs, what is written one after another, and arrays that lie so.
use Rattle.std.specs.Prelude.{ℕ, zero, suc, ◌+◌, ◌<◌, ◌≤◌, ◌≡◌, refl, List, [], ◌∷◌, ◌++◌, length, get_or, set}
use Rattle.std.proofs.Common.{arith, sym, ◌∙◌, ap, get_or-set_same, get_or-set_other}
use Rattle.std.proofs.Math.Decide.{ℕ_discrete, dec_lt}
use Rattle.std.proofs.Math.ListN.{get_or-eq_default}
use Rattle.std.proofs.lemmas.List.Edits.{sets}
use Rattle.std.proofs.Math.Seq.{set_out}

-- two lists as long, changed at d, agree at i
pub set_alike : (xs ys : List ℕ) (d v w i : ℕ) → length xs ≡ length ys → (i ≡ d → v ≡ w) → ((i ≡ d → ⊥) → get_or xs i 0 ≡ get_or ys i 0)
    → get_or (set xs d v) i 0 ≡ get_or (set ys d w) i 0
set_alike xs ys d v w i l f g = go (ℕ_discrete i d) (dec_lt d (length xs))
  where
    go : Dec (i ≡ d) → Dec (d < length xs) → get_or (set xs d v) i 0 ≡ get_or (set ys d w) i 0
    go (no n) x = get_or-set_other xs d i v 0 n ∙ g n ∙ sym (get_or-set_other ys d i w 0 n)
    go (yes e) (yes k) = rw e (get_or-set_same xs d v 0 k ∙ f e ∙ sym (get_or-set_same ys d w 0 (rw l at k)))
    go (yes e) (no k) =
        let kx : length xs ≤ d = omega arith in
        let ky : length ys ≤ d = omega arith in
        rw (e, set_out xs d v kx, set_out ys d w ky) (get_or-eq_default xs 0 kx ∙ sym (get_or-eq_default ys 0 ky))

-- one row of words after another
pub sets_append : (vs ws l : List ℕ) (i : ℕ) → sets l i (vs ++ ws) ≡ sets (sets l i vs) (i + length vs) ws
sets_append [] ws l i = let e : i + 0 ≡ i = omega arith in rw e
sets_append (v ∷ vs) ws l i = let e : i + suc (length vs) ≡ suc i + length vs = omega arith in rw e (sets_append vs ws (set l i v) (suc i))

-- where an array starts
unfoldable pub offset_in : List ℕ → ℕ → ℕ
offset_in [] a = 0
offset_in (w ∷ ws) zero = 0
offset_in (w ∷ ws) (suc a) = w + offset_in ws a

-- no word lies in two arrays
pub disjoint : (ws : List ℕ) (a i b j : ℕ) → i < get_or ws a 0 → j < get_or ws b 0 → offset_in ws a + i ≡ offset_in ws b + j → a ≡ b
unfolding offset_in
disjoint [] a i b j p q e = absurd (omega arith)
disjoint (w ∷ ws) zero i zero j p q e = refl
disjoint (w ∷ ws) zero i (suc b) j p q e = absurd (omega arith)
disjoint (w ∷ ws) (suc a) i zero j p q e = absurd (omega arith)
disjoint (w ∷ ws) (suc a) i (suc b) j p q e = ap suc (disjoint ws a i b j p q (omega arith))
