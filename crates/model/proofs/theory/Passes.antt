-- The walk is right. Over a block that has been read, it ends at the block's end exactly where the rules type the
-- block, with the environment that they give; and the fault that it answers is the first fault. By induction on how
-- the block was read: one lemma for each way that a block begins, first for what an answer says, then for what the
-- rules type.
use Prim.Native.Nat.{ℕ, zero, suc, ◌+◌, ◌<◌, ◌≤◌, max}
use Rattle.std.proofs.Common.{arith, le_refl, sym, ap, subst, ◌∙◌, true≢false}
use Rattle.std.specs.Prelude.{◌≡◌, refl, ◌↔◌, Bool, true, false}
use Rattle.model.specs.Tests.{pick, Decides, pick_ind}
use Rattle.model.specs.Records.{length_of, length_pos, Single, Closes, of_single, of_closing}
use Rattle.model.specs.Table.{Table}
use Rattle.model.specs.Blocks.{Rules, Types, done, one, branch, loop, TypesFunction}
use Rattle.model.specs.Rules.{reading}
use Rattle.model.specs.Faults.{Faults, fails, past, if_guard, if_first, if_second, if_past, while_arriving, while_guard, while_body, while_end, while_past, FaultsFunction, on_the_way, at_return}
use Rattle.model.specs.InOrder.{chain_le}
use Rattle.model.specs.theory.Places.{nesting}
use Rattle.model.proofs.theory.Places.{spans}
use Rattle.model.specs.Walk.{Onward, Halt, Ending, Reached, Failed, on_next, on_shut, Tests, Right, if_with, while_with, instr_with, type_block, type_instr, inside, type_function, shut_at, single_at, instr_at_lem}
use Rattle.model.specs.declared.Fault.{Fault}
use Rattle.model.specs.declared.Fault.TheVariants.{LoopNotKept, ReturnDoesNotFit}
use Rattle.model.specs.declared.Packed.{Packed}
use Rattle.model.specs.declared.Record.{Record}
use Rattle.model.specs.declared.Record.TheVariants.{Do, Call, If, Else, Endif, While, Endwhile, Return}

-- a test that fails refutes what it decides
refuted : {A : Type 0} (b : Bool) → Decides A b → b ≡ false → A → ⊥
refuted b d e a = true≢false (sym (d.1 a) ∙ e)

-- ---- a derivation, taken apart by the record at its first place
module _ (t : Table) (R : Rules) (h : ℕ) where
  abbrev Begins : ℕ → R.Env → ℕ → R.Env → Record → Type 0
  Begins p E q F (Do s) = R.Needs h (Do s) E × Types t R h (p + length_of (Do s)) (R.after (Do s) E) q F
  Begins p E q F (Call f m) = R.Needs h (Call f m) E × Types t R h (p + 3) (R.after (Call f m) E) q F
  Begins p E q F (If r e) = (n : ℕ) × (E₁ : R.Env) × (E₂ : R.Env) × R.Public E r × Types t R h (p + 4) (R.guarded E r true) e E₁ × (t.rec e ≡ Else n)
      × Types t R h (e + 3) (R.guarded E r false) n E₂ × Types t R h (n + 1) (R.join E₁ E₂) q F
  Begins p E q F (Else n) = F ≡ E
  Begins p E q F Endif = F ≡ E
  Begins p E q F (While r e L) = (E₁ : R.Env) × R.Within E (R.loop L) × R.Public (R.loop L) r × Types t R h (p + 11) (R.guarded (R.loop L) r true) e E₁
      × R.Within E₁ (R.loop L) × Types t R h (e + 3) (R.guarded (R.loop L) r false) q F
  Begins p E q F (Endwhile w) = F ≡ E
  Begins p E q F Return = F ≡ E

  begins_done : (p : ℕ) (E : R.Env) (i : Record) → Closes i → Begins p E p E i
  begins_done p E = of_closing (Begins p E p E) (λ _. refl) refl (λ _. refl) refl

  begins_one : (p q : ℕ) (E F : R.Env) (i : Record) → Single i → R.Needs h i E → Types t R h (p + length_of i) (R.after i E) q F → Begins p E q F i
  begins_one p q E F = of_single (λ i. R.Needs h i E → Types t R h (p + length_of i) (R.after i E) q F → Begins p E q F i) (λ s n w. (n, w)) (λ f m n w. (n, w))

  begins : {p q : ℕ} {E F : R.Env} → Types t R h p E q F → Closes (t.rec q) → Begins p E q F (t.rec p)
  begins (done {p = p} {E = E}) c = begins_done p E (t.rec p) c
  begins (one {p = p} {q = q} {E = E} {F = F} s n d) c = begins_one p q E F (t.rec p) s n d
  begins (branch {n = n} {E₁ = E₁} {E₂ = E₂} i g a j b k z) c = rw i (n, E₁, E₂, g, a, j, b, z)
  begins (loop {E₁ = E₁} i v g a j u z) c = rw i (E₁, v, g, a, u, z)

  begins_single : (p q : ℕ) (E F : R.Env) (i : Record) → Single i → Begins p E q F i → R.Needs h i E × Types t R h (p + length_of i) (R.after i E) q F
  begins_single p q E F = of_single (λ i. Begins p E q F i → R.Needs h i E × Types t R h (p + length_of i) (R.after i E) q F) (λ s w. w) (λ f m w. w)

  -- a derivation whose first record opens and closes no block: that record's needs are met, and the rest is a
  -- derivation
  pub past_single : {p q : ℕ} {E F : R.Env} → Types t R h p E q F → Closes (t.rec q) → Single (t.rec p) → R.Needs h (t.rec p) E × Types t R h (p + length_of (t.rec p)) (R.after (t.rec p) E) q F
  past_single {p = p} {q = q} {E = E} {F = F} w c s = begins_single p q E F (t.rec p) s (begins w c)

  begins_shut : (p q : ℕ) (E F : R.Env) (i : Record) → Closes i → Begins p E q F i → F ≡ E
  begins_shut p q E F = of_closing (λ i. Begins p E q F i → F ≡ E) (λ _ w. w) (λ w. w) (λ _ w. w) (λ w. w)

pub else_same : (i : Record) (m n : ℕ) → i ≡ Else m → i ≡ Else n → m ≡ n
else_same i m n e f = cc

module _ (t : Table) (R : Rules) (D : Tests R) (g size : ℕ) (ok : Right R D g) where
  abbrev pub walk : ℕ → ℕ → ℕ → R.Env → Ending R.Env
  walk d k p E = type_block t R D (type_instr t R D d size) k p E

  abbrev pub blocks : ℕ → ℕ → ℕ → R.Env → Ending R.Env
  blocks d x = inside t R D size d x

  abbrev pub Block : ℕ → R.Env → ℕ → R.Env → Type 0
  Block p E q F = Types t R g p E q F

  abbrev pub Faulty : ℕ → R.Env → Fault → ℕ → Type 0
  Faulty p E n k = Faults t R D.fault g p E n k

  -- ---- what an answer says of the block from p to q
  abbrev Says : ℕ → R.Env → ℕ → Ending R.Env → Type 0
  Says p E q (Reached n F) = (n ≡ q) × Block p E q F
  Says p E q (Failed n k) = Faulty p E n k

  says_map : (p p' q : ℕ) (E E' : R.Env) (w : Ending R.Env) → ((F : R.Env) → Block p' E' q F → Block p E q F) → ((n : Fault) (k : ℕ) → Faulty p' E' n k → Faulty p E n k) → Says p' E' q w → Says p E q w
  says_map p p' q E E' (Reached n F) f h (e, s) = (e, f F s)
  says_map p p' q E E' (Failed n k) f h s = h n k s

  -- m: how deep the block is nested
  abbrev SaysRight : ℕ → ℕ → ℕ → Type 0
  SaysRight p q m = (d k : ℕ) (E : R.Env) → m ≤ d → q < k + p → Says p E q (walk d k p E)

  blocks_say : (x p q m : ℕ) → SaysRight p q m → q < size → (d : ℕ) (E : R.Env) → suc m ≤ d → Says p E q (blocks d x p E)
  blocks_say x p q m h l zero E u = absurd (omega arith)
  blocks_say x p q m h l (suc d) E u = h d size E (omega arith) (omega arith)

  says_count : (p q m : ℕ) → p ≤ q → ((d k : ℕ) (E : R.Env) → m ≤ d → q < suc k + p → Says p E q (on_next (instr_with t R D (blocks d p) (t.rec p) p E) (walk d k))) → SaysRight p q m
  unfolding type_block
  says_count p q m l h d zero E u v = absurd (omega arith)
  says_count p q m l h d (suc k) E u v = rw (instr_at_lem t R D size d p E) (h d k E u v)

  says_done : (p : ℕ) → Closes (t.rec p) → SaysRight p p 0
  says_done p c = says_count p p 0 (le_refl p) (λ d k E u v. rw (shut_at t R D (t.rec p) (blocks d p) p E c) (refl, done))

  says_one : (p q m : ℕ) → Single (t.rec p) → p + length_of (t.rec p) ≤ q → SaysRight (p + length_of (t.rec p)) q m → SaysRight p q m
  says_one p q m i l h = says_count p q m (omega arith) (λ d k E u v. rw (single_at t R D (t.rec p) (blocks d p) p E i)
      (pick_ind (λ w. Says p E q (on_next w (walk d k))) (D.meets (t.rec p) E)
      (λ e. let n = (ok.meets (t.rec p) E).0 e in
      says_map p (p + length_of (t.rec p)) q E (R.after (t.rec p) E) (walk d k (p + length_of (t.rec p)) (R.after (t.rec p) E)) (λ F b. one i n b) (λ _ _ f. past i n f)
      (h d k (R.after (t.rec p) E) u (omega (arith, length_pos (t.rec p)))))
      (λ e. fails i (refuted (D.meets (t.rec p) E) (ok.meets (t.rec p) E) e) refl)))

  says_if : (p e n q r x y z : ℕ) → t.rec p ≡ If r e → t.rec e ≡ Else n → t.rec n ≡ Endif → p + 4 ≤ e → e + 3 ≤ n → n + 1 ≤ q → q < size
      → SaysRight (p + 4) e x → SaysRight (e + 3) n y → SaysRight (n + 1) q z → SaysRight p q (max (suc (max x y)) z)
  says_if p e n q r x y z i j l l₁ l₂ l₃ in_size A B Z = says_count p q (max (suc (max x y)) z) (omega arith) (λ d k E u v. rw i (go d k E u v))
    where
      second : (d k : ℕ) (E : R.Env) → max (suc (max x y)) z ≤ d → q < suc k + p → R.Public E r → (E₁ : R.Env) → Block (p + 4) (R.guarded E r true) e E₁
          → (w : Ending R.Env) → Says (e + 3) (R.guarded E r false) n w → Says p E q (on_next (on_shut Halt w λ n E₂. Onward (n + 1) (R.join E₁ E₂)) (walk d k))
      second d k E u v o E₁ a (Failed m c) h = if_second i o a j h
      second d k E u v o E₁ a (Reached m E₂) (s, b) = rw s (says_map p (n + 1) q E (R.join E₁ E₂) (walk d k (n + 1) (R.join E₁ E₂))
          (λ F c. branch i o a j b l c) (λ _ _ f. if_past i o a j b l f) (Z d k (R.join E₁ E₂) (omega arith) (omega arith)))

      first : (d k : ℕ) (E : R.Env) → max (suc (max x y)) z ≤ d → q < suc k + p → R.Public E r → (w : Ending R.Env) → Says (p + 4) (R.guarded E r true) e w
          → Says p E q (on_next (on_shut Halt w λ e E₁. on_shut Halt (blocks d p (e + 3) (R.guarded E r false)) λ n E₂. Onward (n + 1) (R.join E₁ E₂)) (walk d k))
      first d k E u v o (Failed m c) h = if_first i o h
      first d k E u v o (Reached m E₁) (s, a) = rw s (second d k E u v o E₁ a (blocks d p (e + 3) (R.guarded E r false)) (blocks_say p (e + 3) n y B (omega arith) d (R.guarded E r false) (omega arith)))

      go : (d k : ℕ) (E : R.Env) → max (suc (max x y)) z ≤ d → q < suc k + p → Says p E q (on_next (if_with t R D (blocks d p) p r E) (walk d k))
      go d k E u v = pick_ind (λ w. Says p E q (on_next w (walk d k))) (D.public E r)
          (λ b. first d k E u v ((ok.public E r).0 b) (blocks d p (p + 4) (R.guarded E r true)) (blocks_say p (p + 4) e x A (omega arith) d (R.guarded E r true) (omega arith)))
          (λ b. if_guard i (refuted (D.public E r) (ok.public E r) b) refl)

  says_while : (p e q r x z : ℕ) (L : Packed) → t.rec p ≡ While r e L → t.rec e ≡ Endwhile p → p + 11 ≤ e → e + 3 ≤ q → q < size
      → SaysRight (p + 11) e x → SaysRight (e + 3) q z → SaysRight p q (max (suc x) z)
  says_while p e q r x z L₀ i j l₁ l₂ in_size A Z = says_count p q (max (suc x) z) (omega arith) (λ d k E u v. rw i (go d k E u v))
    where
      L : R.Env
      L = R.loop L₀

      body : (d k : ℕ) (E : R.Env) → max (suc x) z ≤ d → q < suc k + p → R.Within E L → R.Public L r → (w : Ending R.Env) → Says (p + 11) (R.guarded L r true) e w
          → Says p E q (on_next (on_shut Halt w λ e E₁. pick (D.within E₁ L) (Onward (e + 3) (R.guarded L r false)) (Halt LoopNotKept e)) (walk d k))
      body d k E u v a o (Failed m c) h = while_body i a o h
      body d k E u v a o (Reached m E₁) (s, b) = rw s (pick_ind (λ w. Says p E q (on_next w (walk d k))) (D.within E₁ L)
          (λ c. let f = (ok.within E₁ L).0 c in says_map p (e + 3) q E (R.guarded L r false) (walk d k (e + 3) (R.guarded L r false))
          (λ F y. loop i a o b j f y) (λ _ _ y. while_past i a o b j f y) (Z d k (R.guarded L r false) (omega arith) (omega arith)))
          (λ c. while_end i a o b j (refuted (D.within E₁ L) (ok.within E₁ L) c) refl))

      go : (d k : ℕ) (E : R.Env) → max (suc x) z ≤ d → q < suc k + p → Says p E q (on_next (while_with t R D (blocks d p) p r L E) (walk d k))
      go d k E u v = pick_ind (λ w. Says p E q (on_next w (walk d k))) (D.within E L)
          (λ b. let a = (ok.within E L).0 b in pick_ind (λ w. Says p E q (on_next w (walk d k))) (D.public L r)
          (λ c. body d k E u v a ((ok.public L r).0 c) (blocks d p (p + 11) (R.guarded L r true)) (blocks_say p (p + 11) e x A (omega arith) d (R.guarded L r true) (omega arith)))
          (λ c. while_guard i a (refuted (D.public L r) (ok.public L r) c) refl))
          (λ b. while_arriving i (refuted (D.within E L) (ok.within E L) b) refl)

  pub below : (e q k : ℕ) → e + 3 ≤ q → q < k → e < k
  below e q k l h = omega arith

  pub below₁ : (n q k : ℕ) → n + 1 ≤ q → q < k → n < k
  below₁ n q k l h = omega arith

  says_right : {p q : ℕ} {u v : Unit {0}} (s : Types t reading g p u q v) → Closes (t.rec q) → q < size → SaysRight p q (nesting t reading s)
  says_right (done {p = p}) c l = says_done p c
  says_right {q = q} (one {p = p} i n s) c l = says_one p q (nesting t reading s) i (chain_le t (spans t reading s)) (says_right s c l)
  says_right {q = q} (branch {p = p} {e = e} {n = n} {r = r} i o a j b k z) c l =
      says_if p e n q r (nesting t reading a) (nesting t reading b) (nesting t reading z) i j k (chain_le t (spans t reading a)) (chain_le t (spans t reading b)) (chain_le t (spans t reading z)) l
      (says_right a (rw j tt) (below e n size (chain_le t (spans t reading b)) (below₁ n q size (chain_le t (spans t reading z)) l)))
      (says_right b (rw k tt) (below₁ n q size (chain_le t (spans t reading z)) l)) (says_right z c l)
  says_right {q = q} (loop {p = p} {e = e} {r = r} {L = L} i v o a j u z) c l =
      says_while p e q r (nesting t reading a) (nesting t reading z) L i j (chain_le t (spans t reading a)) (chain_le t (spans t reading z)) l
      (says_right a (rw j tt) (below e q size (chain_le t (spans t reading z)) l)) (says_right z c l)

  -- ---- whatever the rules type, the walk types alike
  abbrev pub Complete : ℕ → ℕ → ℕ → Type 0
  Complete p q m = (d k : ℕ) (E F : R.Env) → m ≤ d → q < k + p → Block p E q F → walk d k p E ≡ Reached q F

  count : (p q m : ℕ) → p ≤ q
      → ((d k : ℕ) (E F : R.Env) → m ≤ d → q < suc k + p → Block p E q F → on_next (instr_with t R D (blocks d p) (t.rec p) p E) (walk d k) ≡ Reached q F)
      → Complete p q m
  unfolding type_block
  count p q m l h d zero E F u v w = absurd (omega arith)
  count p q m l h d (suc k) E F u v w = rw (instr_at_lem t R D size d p E) (h d k E F u v w)

  pub blocks_complete : (x p q m : ℕ) → Complete p q m → q < size → (d : ℕ) (E F : R.Env) → suc m ≤ d → Block p E q F → blocks d x p E ≡ Reached q F
  blocks_complete x p q m h l zero E F u w = absurd (omega arith)
  blocks_complete x p q m h l (suc d) E F u w = h d size E F (omega arith) (omega arith) w

  done_case : (p : ℕ) → Closes (t.rec p) → Complete p p 0
  done_case p c = count p p 0 (le_refl p) (λ d k E F x y w.
      rw (shut_at t R D (t.rec p) (blocks d p) p E c) (ap (λ (G : R.Env). Reached p G) (sym (begins_shut t R g p p E F (t.rec p) c (begins t R g w c)))))

  one_case : (p q m : ℕ) → Single (t.rec p) → p + length_of (t.rec p) ≤ q → Closes (t.rec q) → Complete (p + length_of (t.rec p)) q m → Complete p q m
  one_case p q m i l c h = count p q m (omega arith) (λ d k E F x y w.
      let b = past_single t R g w c i in
      rw (single_at t R D (t.rec p) (blocks d p) p E i, (ok.meets (t.rec p) E).1 b.0)
      (h d k (R.after (t.rec p) E) F x (omega (arith, length_pos (t.rec p))) b.1))

  if_case : (p e n q r x y z : ℕ) → t.rec p ≡ If r e → t.rec e ≡ Else n → p + 4 ≤ e → e + 3 ≤ n → n + 1 ≤ q → q < size → Closes (t.rec q)
      → Complete (p + 4) e x → Complete (e + 3) n y → Complete (n + 1) q z → Complete p q (max (suc (max x y)) z)
  if_case p e n q r x y z i j l₁ l₂ l₃ l c A B Z = count p q (max (suc (max x y)) z) (omega arith) (λ d k E F u v w. rw i (go d k E F u v (subst (Begins t R g p E q F) i (begins t R g w c))))
    where
      go : (d k : ℕ) (E F : R.Env) → max (suc (max x y)) z ≤ d → q < suc k + p → Begins t R g p E q F (If r e) → on_next (if_with t R D (blocks d p) p r E) (walk d k) ≡ Reached q F
      go d k E F u v (m, E₁, E₂, o, a, j₂, b, rest) =
          let mn : m ≡ n = else_same (t.rec e) m n j₂ j in
          let b' : Block (e + 3) (R.guarded E r false) n E₂ = subst (λ (x : ℕ). Block (e + 3) (R.guarded E r false) x E₂) mn b in
          let rest' : Block (n + 1) (R.join E₁ E₂) q F = subst (λ (x : ℕ). Block (x + 1) (R.join E₁ E₂) q F) mn rest in
          rw ((ok.public E r).1 o, blocks_complete p (p + 4) e x A (omega arith) d (R.guarded E r true) E₁ (omega arith) a, blocks_complete p (e + 3) n y B (omega arith) d (R.guarded E r false) E₂ (omega arith) b')
          (Z d k (R.join E₁ E₂) F (omega arith) (omega arith) rest')

  while_case : (p e q r x z : ℕ) (L : Packed) → t.rec p ≡ While r e L → p + 11 ≤ e → e + 3 ≤ q → q < size → Closes (t.rec q)
      → Complete (p + 11) e x → Complete (e + 3) q z → Complete p q (max (suc x) z)
  while_case p e q r x z L₀ i l₁ l₂ l c A Z = count p q (max (suc x) z) (omega arith) (λ d k E F u v w. rw i (go d k E F u v (subst (Begins t R g p E q F) i (begins t R g w c))))
    where
      go : (d k : ℕ) (E F : R.Env) → max (suc x) z ≤ d → q < suc k + p → Begins t R g p E q F (While r e L₀) → on_next (while_with t R D (blocks d p) p r (R.loop L₀) E) (walk d k) ≡ Reached q F
      go d k E F u v (E₁, f, o, a, h, rest) =
          rw ((ok.within E (R.loop L₀)).1 f, (ok.public (R.loop L₀) r).1 o, blocks_complete p (p + 11) e x A (omega arith) d (R.guarded (R.loop L₀) r true) E₁ (omega arith) a, (ok.within E₁ (R.loop L₀)).1 h)
          (Z d k (R.guarded (R.loop L₀) r false) F (omega arith) (omega arith) rest)

  pub walk_complete : {p q : ℕ} {u v : Unit {0}} (s : Types t reading g p u q v) → Closes (t.rec q) → q < size → Complete p q (nesting t reading s)
  walk_complete (done {p = p}) c l = done_case p c
  walk_complete {q = q} (one {p = p} i n s) c l = one_case p q (nesting t reading s) i (chain_le t (spans t reading s)) c (walk_complete s c l)
  walk_complete {q = q} (branch {p = p} {e = e} {n = n} {r = r} i o a j b k z) c l =
      if_case p e n q r (nesting t reading a) (nesting t reading b) (nesting t reading z) i j (chain_le t (spans t reading a)) (chain_le t (spans t reading b)) (chain_le t (spans t reading z)) l c
      (walk_complete a (rw j tt) (below e n size (chain_le t (spans t reading b)) (below₁ n q size (chain_le t (spans t reading z)) l)))
      (walk_complete b (rw k tt) (below₁ n q size (chain_le t (spans t reading z)) l)) (walk_complete z c l)
  walk_complete {q = q} (loop {p = p} {e = e} {r = r} {L = L} i v o a j u z) c l =
      while_case p e q r (nesting t reading a) (nesting t reading z) L i (chain_le t (spans t reading a)) (chain_le t (spans t reading z)) l c
      (walk_complete a (rw j tt) (below e q size (chain_le t (spans t reading z)) l)) (walk_complete z c l)

  -- ---- a function that has been read, nested at most 16 deep
  abbrev pub Verdict : Ending R.Env → Type 0
  Verdict (Reached p E) = TypesFunction t R g
  Verdict (Failed n k) = FaultsFunction t R D.fault g n k

  -- what the walk answers holds
  pub verdict : (s : TypesFunction t reading g) → nesting t reading s.body ≤ 16 → t.ret g < size → Verdict (type_function t R D size g)
  unfolding type_function
  verdict s n l = go (walk 16 size (t.start g) (R.enter g)) (says_right s.body (rw s.returns tt) l 16 size (R.enter g) n (omega arith))
    where
      go : (w : Ending R.Env) → Says (t.start g) (R.enter g) (t.ret g) w → Verdict (on_shut Failed w λ p E. pick (D.within E (R.leave g)) (Reached p E) (Failed ReturnDoesNotFit p))
      go (Failed m p) h = on_the_way h
      go (Reached p E) (e, h) = pick_ind Verdict (D.within E (R.leave g))
          (λ b. record { last = E; body = h; returns = s.returns; fits = (ok.within E (R.leave g)).0 b })
          (λ b. rw e (at_return E h s.returns (refuted (D.within E (R.leave g)) (ok.within E (R.leave g)) b) refl))

  abbrev pub Passes : Ending R.Env → Type 0
  Passes (Reached p E) = Unit {0}
  Passes (Failed n p) = ⊥

  -- the walk passes exactly the functions that the rules type
  pub passes_types : (s : TypesFunction t reading g) → nesting t reading s.body ≤ 16 → t.ret g < size → Passes (type_function t R D size g) ↔ TypesFunction t R g
  unfolding type_function
  passes_types s n l = (λ h. typed (type_function t R D size g) (verdict s n l) h, complete)
    where
      typed : (w : Ending R.Env) → Verdict w → Passes w → TypesFunction t R g
      typed (Reached p E) v h = v
      typed (Failed n p) v h = absurd h

      complete : TypesFunction t R g → Passes (type_function t R D size g)
      complete h = rw (walk_complete s.body (rw s.returns tt) l 16 size (R.enter g) h.last n (omega arith) h.body, (ok.within h.last (R.leave g)).1 h.fits) tt
