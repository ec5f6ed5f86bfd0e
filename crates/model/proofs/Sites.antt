-- The laws of return sites (specs/Sites): what is found is a CALL of the code, and every CALL is found.
use Rattle.std.specs.Prelude.{ℕ, ◌+◌, ◌<◌, ◌≤◌, ◌≡◌, refl, Bool, List, [], ◌∷◌, None, Some}
use Rattle.std.proofs.Common.{arith, sym, ap, ◌∙◌, inl, inr, true≢false, eq-eqb, ne_eqb}
use Rattle.model.specs.Tests.{pick, same}
use Rattle.model.specs.Records.{length_of, length_pos, by_single_lem}
use Rattle.model.specs.Table.{Table}
use Rattle.model.specs.InOrder.{Chain, stay, on, chain_le, Placed, In, code_from, code_on, code_end, listed_met}
use Rattle.model.specs.declared.Record.{Record}
use Rattle.model.specs.declared.Record.TheVariants.{Call}
use Rattle.model.specs.Sites.{mark_of, mark_in}

none_some : (m : Bool) → None ≡ Some m → ⊥
none_some m e = true≢false (cc)

mark_of_lem : (i : Record) (f : ℕ) (m : Bool) → mark_of i f ≡ Some m → i ≡ Call f m
mark_of_lem i f m = by_single_lem (λ i o. o ≡ Some m → i ≡ Call f m) (λ s e. absurd (none_some m e))
    (λ g k. same g f (λ b. pick b (Some k) None ≡ Some m → Call g k ≡ Call f m) (λ q h. rw q (ap (λ (z : Bool). Call f z) (cc))) (λ _ h. absurd (none_some m h)))
    (λ _ e. absurd (none_some m e)) i

-- a mark that is found is that of a listed CALL
pub mark_listed : (xs : List Placed) (f q : ℕ) (m : Bool) → mark_in xs f q ≡ Some m → (c : ℕ) × In c (Call f m) xs × (q ≡ c + 3)
mark_listed [] f q m e = absurd (none_some m e)
mark_listed ((c, i) ∷ xs) f q m e =
    same q (c + 3) (λ b. pick b (mark_of i f) (mark_in xs f q) ≡ Some m → (c' : ℕ) × In c' (Call f m) ((c, i) ∷ xs) × (q ≡ c' + 3))
    (λ u h. (c, inl (refl, mark_of_lem i f m h), u))
    (λ _ h. let (d, w, u) = mark_listed xs f q m h in (d, inr w, u)) e

module _ (t : Table) where
  -- one turn of the search, and its end
  pub mark_here : (c f : ℕ) {q : ℕ} {i : Record} → c < t.size → q ≡ c + 3 → i ≡ t.rec c → mark_in (code_from t c) f q ≡ mark_of i f
  mark_here c f {q} l e u = rw (code_on t c l, eq-eqb q (c + 3) e, u) refl

  pub mark_on : (c f q : ℕ) {n : ℕ} → c < t.size → (q ≡ c + 3 → ⊥) → n ≡ c + length_of (t.rec c) → mark_in (code_from t c) f q ≡ mark_in (code_from t n) f q
  mark_on c f q l e u = rw (code_on t c l, ne_eqb q (c + 3) e, u) refl

  pub mark_end : (c f q : ℕ) → t.size ≤ c → mark_in (code_from t c) f q ≡ None
  mark_end c f q l = rw (code_end t c l) refl

  -- the mark of every listed CALL is found
  met_marked : {a c : ℕ} (f : ℕ) (m : Bool) → Chain t a c → c < t.size → t.rec c ≡ Call f m → mark_in (code_from t a) f (c + 3) ≡ Some m
  met_marked {a = a} f m stay l e = mark_here a f l refl (sym e) ∙ rw (eq-eqb f f refl) refl
  met_marked {c = c} f m (on {p = a} h) l e =
      mark_on a f (c + 3) (omega (arith, length_pos (t.rec a), chain_le t h)) (λ q. omega (arith, length_pos (t.rec a), chain_le t h)) refl ∙ met_marked f m h l e

  pub call_marked : (a c f : ℕ) (m : Bool) → In c (Call f m) (code_from t a) → mark_in (code_from t a) f (c + 3) ≡ Some m
  call_marked a c f m h = let (w, l, e) = listed_met t a c (Call f m) h in met_marked f m w l e
