-- The first fault is one: over a block that has been read, the walk answers with whatever fault the relation gives,
-- so two first faults of a table are the same number at the same place. By induction on how the block was read, as in
-- Passes.
use Prim.Native.Nat.{ℕ, zero, suc, ◌+◌, ◌<◌, ◌≤◌, max}
use Rattle.std.proofs.Common.{arith, sym, subst, ◌∙◌, inl, inr, ltb→lt, lt→ltb}
use Rattle.std.specs.Prelude.{◌≡◌, ◌⊎◌, Bool, true, false, T, ltb}
use Rattle.std.proofs.Math.Path.{refl}
use Rattle.model.specs.Tests.{Decides, test}
use Rattle.model.specs.Records.{length_of, length_pos, Single, Closes, of_single, of_closing}
use Rattle.model.specs.Table.{Table}
use Rattle.model.specs.Blocks.{Rules, Types, done, one, branch, loop, TypesFunction}
use Rattle.model.specs.Rules.{reading, typing}
use Rattle.model.specs.Faults.{Faults, fails, past, if_guard, if_first, if_second, if_past, while_arriving, while_guard, while_body, while_end, while_past, FaultsFunction, on_the_way, at_return, FirstFault}
use Rattle.model.specs.InOrder.{chain_le}
use Rattle.model.specs.theory.Places.{nesting}
use Rattle.model.proofs.theory.Places.{spans}
use Rattle.model.specs.Walk.{Ending, Failed, on_next, Tests, Right, if_with, while_with, single, instr_with, type_block, type_function, single_at, instr_at_lem}
use Rattle.model.proofs.theory.Passes.{else_same, walk, blocks, Faulty, below, below₁, Complete, blocks_complete, walk_complete, Passes, passes_types}
use Rattle.model.specs.Typing.{Read}
use Rattle.model.specs.Decide.{record_fault, typing_tests}
use Rattle.model.proofs.Decide.{typing_right}
use Rattle.model.specs.declared.Fault.{Fault}
use Rattle.model.specs.declared.Fault.TheVariants.{NotPublic, LoopNotKept}
use Rattle.model.specs.declared.Packed.{Packed}
use Rattle.model.specs.declared.Record.{Record}
use Rattle.model.specs.declared.Record.TheVariants.{Do, Call, If, Else, Endif, While, Endwhile, Return}

-- what is refuted fails its test
refuses : {A : Type 0} (b : Bool) → Decides A b → (A → ⊥) → b ≡ false
refuses b d h = test b (λ x. b ≡ x → x ≡ false) (λ _ e. absurd (h (d.0 e))) (λ _ _. refl) refl

-- ---- a first fault, taken apart by the record at its first place
module _ (t : Table) (R : Rules) (fault : Record → Fault) (g : ℕ) where
  abbrev Here : Fault → ℕ → Fault → ℕ → Type 0
  Here n k m p = (n ≡ m) × (k ≡ p)

  abbrev OfSingle : ℕ → R.Env → Fault → ℕ → Record → Type 0
  OfSingle p E n k i = ((R.Needs g i E → ⊥) × Here n k (fault i) p) ⊎ (R.Needs g i E × Faults t R fault g (p + length_of i) (R.after i E) n k)

  abbrev OfIf : ℕ → R.Env → Fault → ℕ → ℕ → ℕ → Type 0
  OfIf p E n k r e = ((R.Public E r → ⊥) × Here n k NotPublic p) ⊎ (R.Public E r × (Faults t R fault g (p + 4) (R.guarded E r true) n k
      ⊎ ((E₁ : R.Env) × (m : ℕ) × Types t R g (p + 4) (R.guarded E r true) e E₁ × (t.rec e ≡ Else m) × (Faults t R fault g (e + 3) (R.guarded E r false) n k
      ⊎ ((E₂ : R.Env) × Types t R g (e + 3) (R.guarded E r false) m E₂ × Faults t R fault g (m + 1) (R.join E₁ E₂) n k)))))

  abbrev OfWhile : ℕ → R.Env → Fault → ℕ → ℕ → ℕ → R.Env → Type 0
  OfWhile p E n k r e L = ((R.Within E L → ⊥) × Here n k LoopNotKept p) ⊎ (R.Within E L × (((R.Public L r → ⊥) × Here n k NotPublic p)
      ⊎ (R.Public L r × (Faults t R fault g (p + 11) (R.guarded L r true) n k
      ⊎ ((E₁ : R.Env) × Types t R g (p + 11) (R.guarded L r true) e E₁ × (((R.Within E₁ L → ⊥) × Here n k LoopNotKept e)
      ⊎ (R.Within E₁ L × Faults t R fault g (e + 3) (R.guarded L r false) n k)))))))

  abbrev Meets : ℕ → R.Env → Fault → ℕ → Record → Type 0
  Meets p E n k (Do s) = OfSingle p E n k (Do s)
  Meets p E n k (Call f m) = OfSingle p E n k (Call f m)
  Meets p E n k (If r e) = OfIf p E n k r e
  Meets p E n k (Else m) = ⊥
  Meets p E n k Endif = ⊥
  Meets p E n k (While r e L) = OfWhile p E n k r e (R.loop L)
  Meets p E n k (Endwhile w) = ⊥
  Meets p E n k Return = ⊥

  single_meets : (p : ℕ) (n : Fault) (k : ℕ) (E : R.Env) (i : Record) → Single i → (OfSingle p E n k i → Meets p E n k i) × (Meets p E n k i → OfSingle p E n k i)
  single_meets p n k E = of_single (λ i. (OfSingle p E n k i → Meets p E n k i) × (Meets p E n k i → OfSingle p E n k i)) (λ s. (λ w. w, λ w. w)) (λ f m. (λ w. w, λ w. w))

  shut_meets : (p : ℕ) (n : Fault) (k : ℕ) (E : R.Env) (i : Record) → Closes i → Meets p E n k i → ⊥
  shut_meets p n k E = of_closing (λ i. Meets p E n k i → ⊥) (λ _ w. w) (λ w. w) (λ _ w. w) (λ w. w)

  meets : {p : ℕ} {n : Fault} {k : ℕ} {E : R.Env} → Faults t R fault g p E n k → Meets p E n k (t.rec p)
  meets (fails {p = p} {n = n} {E = E} s f e) = (single_meets p n p E (t.rec p) s).0 (inl (f, (e, refl)))
  meets (past {p = p} {k = k} {n = n} {E = E} s m f) = (single_meets p n k E (t.rec p) s).0 (inr (m, f))
  meets (if_guard i f e) = rw i (inl (f, (e, refl)))
  meets (if_first i o f) = rw i (inr (o, inl f))
  meets (if_second {m = m} {E₁ = E₁} i o a j f) = rw i (inr (o, inr (E₁, m, a, j, inl f)))
  meets (if_past {m = m} {E₁ = E₁} {E₂ = E₂} i o a j b l f) = rw i (inr (o, inr (E₁, m, a, j, inr (E₂, b, f))))
  meets (while_arriving i f e) = rw i (inl (f, (e, refl)))
  meets (while_guard i a f e) = rw i (inr (a, inl (f, (e, refl))))
  meets (while_body i a o f) = rw i (inr (a, inr (o, inl f)))
  meets (while_end {E₁ = E₁} i a o b j f e) = rw i (inr (a, inr (o, inr (E₁, b, inl (f, (e, refl))))))
  meets (while_past {E₁ = E₁} i a o b j u f) = rw i (inr (a, inr (o, inr (E₁, b, inr (u, f)))))

module _ (t : Table) (R : Rules) (D : Tests R) (g size : ℕ) (ok : Right R D g) where
  abbrev step : ℕ → ℕ → ℕ → R.Env → Ending R.Env
  step d k p E = walk t R D g size ok d k p E

  abbrev into : ℕ → ℕ → ℕ → R.Env → Ending R.Env
  into d x = blocks t R D g size ok d x

  abbrev Flawed : ℕ → R.Env → Fault → ℕ → Type 0
  Flawed p E n c = Faulty t R D g size ok p E n c

  -- whatever first fault there is from p on, the walk names it; m: how deep the block is nested
  abbrev Named : ℕ → ℕ → ℕ → Type 0
  Named p q m = (d k : ℕ) (E : R.Env) (n : Fault) (c : ℕ) → m ≤ d → q < k + p → Flawed p E n c → step d k p E ≡ Failed n c

  named_count : (p q m : ℕ) → p ≤ q
      → ((d k : ℕ) (E : R.Env) (n : Fault) (c : ℕ) → m ≤ d → q < suc k + p → Flawed p E n c → on_next (instr_with t R D (into d p) (t.rec p) p E) (step d k) ≡ Failed n c)
      → Named p q m
  unfolding type_block
  named_count p q m l h d zero E n c u v w = absurd (omega arith)
  named_count p q m l h d (suc k) E n c u v w = rw (instr_at_lem t R D size d p E) (h d k E n c u v w)

  into_named : (x p q m : ℕ) → Named p q m → q < size → (d : ℕ) (E : R.Env) (n : Fault) (c : ℕ) → suc m ≤ d → Flawed p E n c → into d x p E ≡ Failed n c
  into_named x p q m h l zero E n c u w = absurd (omega arith)
  into_named x p q m h l (suc d) E n c u w = h d size E n c (omega arith) (omega arith) w

  named_done : (p : ℕ) → Closes (t.rec p) → Named p p 0
  named_done p s d k E n c u v w = absurd (shut_meets t R D.fault g p n c E (t.rec p) s (meets t R D.fault g w))

  named_one : (p q m : ℕ) → Single (t.rec p) → p + length_of (t.rec p) ≤ q → Named (p + length_of (t.rec p)) q m → Named p q m
  named_one p q m i l h = named_count p q m (omega arith) (λ d k E n c u v w. rw (single_at t R D (t.rec p) (into d p) p E i)
      (go d k E n c u v ((single_meets t R D.fault g p n c E (t.rec p) i).1 (meets t R D.fault g w))))
    where
      go : (d k : ℕ) (E : R.Env) (n : Fault) (c : ℕ) → m ≤ d → q < suc k + p → OfSingle t R D.fault g p E n c (t.rec p) → on_next (single t R D (t.rec p) p E) (step d k) ≡ Failed n c
      go d k E n c u v (inl (f, (e₁, e₂))) = rw (refuses (D.meets (t.rec p) E) (ok.meets (t.rec p) E) f, e₁, e₂) refl
      go d k E n c u v (inr (b, f)) = rw ((ok.meets (t.rec p) E).1 b) (h d k (R.after (t.rec p) E) n c u (omega (arith, length_pos (t.rec p))) f)

  named_if : (p e n q r x y z : ℕ) → t.rec p ≡ If r e → t.rec e ≡ Else n → p + 4 ≤ e → e + 3 ≤ n → n + 1 ≤ q → q < size
      → Complete t R D g size ok (p + 4) e x → Complete t R D g size ok (e + 3) n y
      → Named (p + 4) e x → Named (e + 3) n y → Named (n + 1) q z → Named p q (max (suc (max x y)) z)
  named_if p e n q r x y z i j l₁ l₂ l₃ l A B A' B' Z = named_count p q (max (suc (max x y)) z) (omega arith)
      (λ d k E a c u v w. rw i (go d k E a c u v (subst (Meets t R D.fault g p E a c) i (meets t R D.fault g w))))
    where
      go : (d k : ℕ) (E : R.Env) (a : Fault) (c : ℕ) → max (suc (max x y)) z ≤ d → q < suc k + p → OfIf t R D.fault g p E a c r e → on_next (if_with t R D (into d p) p r E) (step d k) ≡ Failed a c
      go d k E a c u v (inl (f, (e₁, e₂))) = rw (refuses (D.public E r) (ok.public E r) f, e₁, e₂) refl
      go d k E a c u v (inr (o, inl f)) = rw ((ok.public E r).1 o, into_named p (p + 4) e x A' (omega arith) d (R.guarded E r true) a c (omega arith) f) refl
      go d k E a c u v (inr (o, inr (E₁, m, b, j₂, inl f))) =
          rw ((ok.public E r).1 o, blocks_complete t R D g size ok p (p + 4) e x A (omega arith) d (R.guarded E r true) E₁ (omega arith) b, into_named p (e + 3) n y B' (omega arith) d (R.guarded E r false) a c (omega arith) f) refl
      go d k E a c u v (inr (o, inr (E₁, m, b, j₂, inr (E₂, b₂, f)))) =
          let mn : m ≡ n = else_same (t.rec e) m n j₂ j in
          let b₂' : Types t R g (e + 3) (R.guarded E r false) n E₂ = subst (λ (x : ℕ). Types t R g (e + 3) (R.guarded E r false) x E₂) mn b₂ in
          let f' : Flawed (n + 1) (R.join E₁ E₂) a c = subst (λ (x : ℕ). Flawed (x + 1) (R.join E₁ E₂) a c) mn f in
          rw ((ok.public E r).1 o, blocks_complete t R D g size ok p (p + 4) e x A (omega arith) d (R.guarded E r true) E₁ (omega arith) b, blocks_complete t R D g size ok p (e + 3) n y B (omega arith) d (R.guarded E r false) E₂ (omega arith) b₂')
          (Z d k (R.join E₁ E₂) a c (omega arith) (omega arith) f')

  named_while : (p e q r x z : ℕ) (L : Packed) → t.rec p ≡ While r e L → p + 11 ≤ e → e + 3 ≤ q → q < size
      → Complete t R D g size ok (p + 11) e x → Named (p + 11) e x → Named (e + 3) q z → Named p q (max (suc x) z)
  named_while p e q r x z L₀ i l₁ l₂ l A A' Z = named_count p q (max (suc x) z) (omega arith)
      (λ d k E a c u v w. rw i (go d k E a c u v (subst (Meets t R D.fault g p E a c) i (meets t R D.fault g w))))
    where
      go : (d k : ℕ) (E : R.Env) (a : Fault) (c : ℕ) → max (suc x) z ≤ d → q < suc k + p → OfWhile t R D.fault g p E a c r e (R.loop L₀) → on_next (while_with t R D (into d p) p r (R.loop L₀) E) (step d k) ≡ Failed a c
      go d k E a c u v (inl (f, (e₁, e₂))) = rw (refuses (D.within E (R.loop L₀)) (ok.within E (R.loop L₀)) f, e₁, e₂) refl
      go d k E a c u v (inr (w, inl (f, (e₁, e₂)))) = rw ((ok.within E (R.loop L₀)).1 w, refuses (D.public (R.loop L₀) r) (ok.public (R.loop L₀) r) f, e₁, e₂) refl
      go d k E a c u v (inr (w, inr (o, inl f))) =
          rw ((ok.within E (R.loop L₀)).1 w, (ok.public (R.loop L₀) r).1 o, into_named p (p + 11) e x A' (omega arith) d (R.guarded (R.loop L₀) r true) a c (omega arith) f) refl
      go d k E a c u v (inr (w, inr (o, inr (E₁, b, inl (f, (e₁, e₂)))))) =
          rw (
            (ok.within E (R.loop L₀)).1 w,
            (ok.public (R.loop L₀) r).1 o,
            blocks_complete t R D g size ok p (p + 11) e x A (omega arith) d (R.guarded (R.loop L₀) r true) E₁ (omega arith) b,
            refuses (D.within E₁ (R.loop L₀)) (ok.within E₁ (R.loop L₀)) f,
            e₁,
            e₂,
          ) refl
      go d k E a c u v (inr (w, inr (o, inr (E₁, b, inr (h, f))))) =
          rw ((ok.within E (R.loop L₀)).1 w, (ok.public (R.loop L₀) r).1 o, blocks_complete t R D g size ok p (p + 11) e x A (omega arith) d (R.guarded (R.loop L₀) r true) E₁ (omega arith) b, (ok.within E₁ (R.loop L₀)).1 h)
          (Z d k (R.guarded (R.loop L₀) r false) a c (omega arith) (omega arith) f)

  named_right : {p q : ℕ} {u v : Unit {0}} (s : Types t reading g p u q v) → Closes (t.rec q) → q < size → Named p q (nesting t reading s)
  named_right (done {p = p}) c l = named_done p c
  named_right {q = q} (one {p = p} i n s) c l = named_one p q (nesting t reading s) i (chain_le t (spans t reading s)) (named_right s c l)
  named_right {q = q} (branch {p = p} {e = e} {n = n} {r = r} i o a j b k z) c l =
      let n_in : n < size = below₁ t R D g size ok n q size (chain_le t (spans t reading z)) l in
      let e_in : e < size = below t R D g size ok e n size (chain_le t (spans t reading b)) n_in in
      named_if p e n q r (nesting t reading a) (nesting t reading b) (nesting t reading z) i j (chain_le t (spans t reading a)) (chain_le t (spans t reading b)) (chain_le t (spans t reading z)) l
      (walk_complete t R D g size ok a (rw j tt) e_in) (walk_complete t R D g size ok b (rw k tt) n_in)
      (named_right a (rw j tt) e_in) (named_right b (rw k tt) n_in) (named_right z c l)
  named_right {q = q} (loop {p = p} {e = e} {r = r} {L = L} i v o a j u z) c l =
      let e_in : e < size = below t R D g size ok e q size (chain_le t (spans t reading z)) l in
      named_while p e q r (nesting t reading a) (nesting t reading z) L i (chain_le t (spans t reading a)) (chain_le t (spans t reading z)) l
      (walk_complete t R D g size ok a (rw j tt) e_in) (named_right a (rw j tt) e_in) (named_right z c l)

  -- whatever first fault a function has that was read, the walk names it
  pub function_named : (s : TypesFunction t reading g) → nesting t reading s.body ≤ 16 → t.ret g < size → (n : Fault) (k : ℕ) → FaultsFunction t R D.fault g n k → type_function t R D size g ≡ Failed n k
  unfolding type_function
  function_named s h l n k (on_the_way f) = rw (named_right s.body (rw s.returns tt) l 16 size (R.enter g) n k h (omega arith) f) refl
  function_named s h l n k (at_return F b j f e) =
      rw (walk_complete t R D g size ok s.body (rw s.returns tt) l 16 size (R.enter g) F h (omega arith) b, refuses (D.within F (R.leave g)) (ok.within F (R.leave g)) f, e) refl

module _ (t : Table) (size : ℕ) (read : (g : ℕ) → g < t.functions → Read t size g) where
  abbrev First : Fault → ℕ → Type 0
  First n k = FirstFault t (typing t) record_fault n k

  names : (g : ℕ) (n : Fault) (k : ℕ) → g < t.functions → FaultsFunction t (typing t) record_fault g n k → type_function t (typing t) (typing_tests t) size g ≡ Failed n k
  names g n k l f = function_named t (typing t) (typing_tests t) g size (typing_right t g) (read g l).blocks (read g l).nested (read g l).inside n k f

  -- a function that types has no first fault
  faultless : (g : ℕ) (n : Fault) (k : ℕ) → g < t.functions → TypesFunction t (typing t) g → FaultsFunction t (typing t) record_fault g n k → ⊥
  faultless g n k l d f = subst (Passes t (typing t) (typing_tests t) g size (typing_right t g)) (names g n k l f)
      ((passes_types t (typing t) (typing_tests t) g size (typing_right t g) (read g l).blocks (read g l).nested (read g l).inside).1 d)

  -- A TABLE THAT READS AND TYPES HAS NO FIRST FAULT
  pub typed_faultless : (n : Fault) (k : ℕ) → ((f : ℕ) → f < t.functions → TypesFunction t (typing t) f) → First n k → ⊥
  typed_faultless n k d a = faultless a.function n k a.lies (d a.function a.lies) a.meets

  -- A TABLE THAT READS HAS AT MOST ONE FIRST FAULT
  pub one_fault : (n : Fault) (k : ℕ) (m : Fault) (l : ℕ) → First n k → First m l → (n ≡ m) × (k ≡ l)
  one_fault n k m l a b = go (native.Mathlib.Decide.ℕ_discrete b.function a.function)
    where
      same : type_function t (typing t) (typing_tests t) size a.function ≡ Failed m l → (n ≡ m) × (k ≡ l)
      same e = let h = sym (names a.function n k a.lies a.meets) ∙ e in (cc, cc)

      apart : (b.function ≡ a.function → ⊥) → ⊥
      apart u = test (ltb a.function b.function) (λ _. ⊥)
          (λ e. faultless a.function n k a.lies (b.before a.function (ltb→lt a.function b.function (rw e tt))) a.meets)
          (λ e. faultless b.function m l b.lies (a.before b.function (omega (arith, u, over e))) b.meets)
        where
          over : ltb a.function b.function ≡ false → (a.function < b.function → ⊥)
          over e h = subst T e (lt→ltb a.function b.function h)

      go : Dec (b.function ≡ a.function) → (n ≡ m) × (k ≡ l)
      go (yes e) = same (subst (λ (g : ℕ). type_function t (typing t) (typing_tests t) size g ≡ Failed m l) e (names b.function m l b.lies b.meets))
      go (no h) = absurd (apart h)
