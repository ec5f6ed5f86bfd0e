-- The code of a table as one list: its records in table order, each with its place.
use Prim.Native.Nat.{ℕ, zero, suc, ◌+◌, ◌-◌, ◌<◌, ◌≤◌}
use Rattle.std.proofs.Common.{arith, le_refl, ◌∙◌, inl, inr, ltb→lt, lt-ltb, le-ltb}
use Rattle.std.specs.Prelude.{◌≡◌, ◌⊎◌, ltb}
use Rattle.std.proofs.Math.Path.{refl, ap}
use mathlib.Core.List.{List, [], ◌∷◌}
use Rattle.model.specs.Tests.{pick, test}
use Rattle.model.specs.Records.{length_of, length_pos}
use Rattle.model.specs.Table.{Table}
use Rattle.model.specs.declared.Record.{Record}

-- a place, and the record at it
abbrev pub Placed : Type 0
Placed = ℕ × Record

-- the list has record i at place c
abbrev pub In : ℕ → Record → List Placed → Type 0
In c i [] = ⊥
In c i (x ∷ xs) = ((x.0 ≡ c) × (x.1 ≡ i)) ⊎ In c i xs

-- the first record stands at a, each further one where the one before ends, and e is where the last ends
abbrev pub Touch : ℕ → ℕ → List Placed → Type 0
Touch a e [] = a ≡ e
Touch a e (x ∷ xs) = (x.0 ≡ a) × Touch (a + length_of x.1) e xs

-- places rise, and none is below a
abbrev pub Rise : ℕ → List Placed → Type 0
Rise a [] = Unit {0}
Rise a (x ∷ xs) = (a ≤ x.0) × Rise (suc x.0) xs

module _ (t : Table) where
  -- c is met by going on from p, record by record
  pub data Chain : ℕ → ℕ → Type 0 where
    stay : {p : ℕ} → Chain p p
    on : {p c : ℕ} → Chain (p + length_of (t.rec p)) c → Chain p c

  -- the records from c on to the end of the code; k bounds their number
  unfoldable pub up_to : ℕ → ℕ → List Placed
  up_to zero c = []
  up_to (suc k) c = pick (ltb c t.size) ((c, t.rec c) ∷ up_to k (c + length_of (t.rec c))) []

  -- a record has a byte at least, so there are no more records than bytes
  unfoldable pub code_from : ℕ → List Placed
  code_from = up_to t.size

  -- THE CODE: from the first function's start on
  abbrev pub code : List Placed
  code = code_from (t.start 0)

  -- ---- laws
  pub chain_le : {p c : ℕ} → Chain p c → p ≤ c
  chain_le {p = p} stay = le_refl p
  chain_le {c = c} (on {p = p} h) = omega (arith, length_pos (t.rec p), chain_le h)

  pub chain_trans : {p q c : ℕ} → Chain p q → Chain q c → Chain p c
  chain_trans stay k = k
  chain_trans (on h) k = on (chain_trans h k)

  -- past a record of known kind
  pub past : {c : ℕ} (p : ℕ) (i : Record) → t.rec p ≡ i → Chain (p + length_of i) c → Chain (p + length_of (t.rec p)) c
  past {c = c} p i e h = rw e h

  -- c is this record, or met after it
  pub meet : {c : ℕ} (p : ℕ) (i : Record) → t.rec p ≡ i → Chain p c → (c ≡ p) ⊎ Chain (p + length_of i) c
  meet p i e stay = inl refl
  meet {c = c} p i e (on h) = inr (rw e at h)

  -- the bound does not show
  enough : (k j c : ℕ) → t.size - c ≤ k → t.size - c ≤ j → up_to k c ≡ up_to j c
  unfolding up_to
  enough zero zero c l m = refl
  enough zero (suc j) c l m = rw (le-ltb c t.size (omega arith)) refl
  enough (suc k) zero c l m = rw (le-ltb c t.size (omega arith)) refl
  enough (suc k) (suc j) c l m =
      test (ltb c t.size) (λ b. pick b ((c, t.rec c) ∷ up_to k (c + length_of (t.rec c))) [] ≡ pick b ((c, t.rec c) ∷ up_to j (c + length_of (t.rec c))) [])
      (λ _. ap (λ (xs : List Placed). (c, t.rec c) ∷ xs) (enough k j (c + length_of (t.rec c)) (omega (arith, length_pos (t.rec c))) (omega (arith, length_pos (t.rec c)))))
      (λ _. refl)

  first : (c : ℕ) → c < t.size → up_to (suc t.size) c ≡ (c, t.rec c) ∷ up_to t.size (c + length_of (t.rec c))
  unfolding up_to
  first c l = rw (lt-ltb c t.size l) refl

  -- one turn of a loop over the code, and its end
  pub code_on : (c : ℕ) → c < t.size → code_from c ≡ (c, t.rec c) ∷ code_from (c + length_of (t.rec c))
  unfolding code_from
  code_on c l = enough t.size (suc t.size) c (omega arith) (omega arith) ∙ first c l

  pub code_end : (c : ℕ) → t.size ≤ c → code_from c ≡ []
  unfolding code_from up_to
  code_end c l = enough t.size 0 c (omega arith) (omega arith)

  -- the list has whatever is met
  pub listed : {a c : ℕ} → Chain a c → c < t.size → In c (t.rec c) (code_from a)
  listed {a = a} stay l = rw (code_on a l) (inl (refl, refl))
  listed {c = c} (on {p = a} h) l = rw (code_on a (omega (arith, length_pos (t.rec a), chain_le h))) (inr (listed h l))

  -- and nothing else
  up_to_met : (k a c : ℕ) (i : Record) → In c i (up_to k a) → Chain a c × (c < t.size) × (t.rec c ≡ i)
  unfolding up_to
  up_to_met zero a c i h = absurd h
  up_to_met (suc k) a c i h =
      test (ltb a t.size) (λ b. In c i (pick b ((a, t.rec a) ∷ up_to k (a + length_of (t.rec a))) []) → Chain a c × (c < t.size) × (t.rec c ≡ i))
      (λ l w. go (ltb→lt a t.size (rw l tt)) w (up_to_met k (a + length_of (t.rec a)) c i)) (λ _ w. absurd w) h
    where
      go : {X : Type 0} → a < t.size → ((a ≡ c) × (t.rec a ≡ i)) ⊎ X → (X → Chain (a + length_of (t.rec a)) c × (c < t.size) × (t.rec c ≡ i)) → Chain a c × (c < t.size) × (t.rec c ≡ i)
      go l (inl (p, e)) ih = rw (← p) (stay, l, e)
      go l (inr w) ih = let (m, n, e) = ih w in (on m, n, e)

  pub listed_met : (a c : ℕ) (i : Record) → In c i (code_from a) → Chain a c × (c < t.size) × (t.rec c ≡ i)
  unfolding code_from
  listed_met a c i h = up_to_met t.size a c i h

  -- where the way from a comes to the end, the records fill the bytes up to it
  pub touching : {a e : ℕ} → Chain a e → e ≡ t.size → Touch a e (code_from a)
  touching {a = a} stay q = rw (code_end a (omega arith)) refl
  touching {e = e} (on {p = a} h) q = rw (code_on a (omega (arith, length_pos (t.rec a), chain_le h))) (refl, touching h q)

-- records that touch stand in order, each once
pub rising : (a e : ℕ) (xs : List Placed) → Touch a e xs → Rise a xs
rising a e [] h = tt
rising a e ((c, i) ∷ xs) (p, h) = rw p (omega arith, weaken xs (rising (a + length_of i) e xs h))
  where
    weaken : (xs : List Placed) → Rise (a + length_of i) xs → Rise (suc a) xs
    weaken [] h = tt
    weaken (x ∷ xs) (l, h) = (omega (arith, length_pos i), h)
