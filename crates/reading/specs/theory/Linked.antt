-- From bytes to blocks: a table that reads is, function by function, a table of blocks that nest at most 16 deep and
-- whose calls go downward. What the reading of a record, of a block, and of the functions has found out, by the same
-- recursion as theirs.
use Prim.Native.Nat.{ℕ, zero, suc, ◌+◌, ◌-◌, ◌<◌, ◌≤◌, zero-le, suc-le-suc}
use Rattle.std.proofs.Common.{arith, add-one, ◌∙◌, ltb-true, eqb-true}
use Rattle.std.proofs.Math.Decide.{ℕ_discrete}
use Rattle.std.specs.Prelude.{◌≡◌, List, Bool, length, ltb, eqb, Result, Ok, Err}
use Rattle.std.proofs.Math.Path.{refl, sym, ap, subst}
use Rattle.model.specs.Tests.{pick, same, pick_ind}
use Rattle.model.specs.Numbers.{refusal, then}
use Rattle.model.specs.Records.{length_of, Single, Closes, of_closing}
use Rattle.model.specs.Table.{Table}
use Rattle.model.specs.Blocks.{Types, done, one, branch, loop}
use Rattle.model.specs.Rules.{reading, Lower}
use Rattle.model.specs.theory.Places.{nesting}
use Rattle.model.specs.theory.Functions.{edge}
use Rattle.model.specs.Typing.{Read}
use Rattle.model.specs.declared.Fault.TheVariants.{WrongPlace, TooDeep}
use Rattle.model.specs.declared.Refusal.{Refusal}
use Rattle.model.specs.declared.Sizes.{Sizes}
use Rattle.model.specs.declared.Packed.{Packed}
use Rattle.model.specs.declared.Record.{Record}
use Rattle.model.specs.declared.Record.TheVariants.{Do, Call, If, Else, Endif, While, Endwhile, Return}
use Rattle.model.specs.declared.Walked.{Walked}
use Rattle.model.specs.declared.Walked.TheVariants.{Next, Shut}
use Rattle.format.specs.Format.{Decoded, word16}
use Rattle.format.specs.Head.{To, sizes_at, arrays_at, signatures_at}
use Rattle.format.specs.Laws.{kind_of, Names, good}
use Rattle.format.specs.Layout.{sizes_of, start_of, record_got, return_of, table_of}
use Rattle.reading.specs.Reading.{record_at, call_at, met, if_with, while_with, read_with, onward, block_with, instr_at, block_at, function_at, functions_at, parts_at, read_at}
use Rattle.reading.specs.theory.Steps.{Closing, GoodAt, record_good, closing}

-- a closing record, by its kind
abbrev ByKind : List ℕ → ℕ → ℕ → Record → Type 0
ByKind t p c r = (c ≡ 0x21 → r ≡ Else (word16 t (p + 1))) × (c ≡ 0x22 → r ≡ Endif) × (c ≡ 0x24 → r ≡ Endwhile (word16 t (p + 1))) × (c ≡ 0x25 → r ≡ Return)

by_kind : (t : List ℕ) (p c : ℕ) (r : Record) → Closes r → kind_of r ≡ c → Names t p r → ByKind t p c r
by_kind t p c = of_closing (λ r. kind_of r ≡ c → Names t p r → ByKind t p c r)
    (λ m k n. (λ _. ap (λ (x : ℕ). Else x) n, λ e. absurd (omega arith), λ e. absurd (omega arith), λ e. absurd (omega arith)))
    (λ k n. (λ e. absurd (omega arith), λ _. refl, λ e. absurd (omega arith), λ e. absurd (omega arith)))
    (λ m k n. (λ e. absurd (omega arith), λ e. absurd (omega arith), λ _. ap (λ (x : ℕ). Endwhile x) n, λ e. absurd (omega arith)))
    (λ k n. (λ e. absurd (omega arith), λ e. absurd (omega arith), λ e. absurd (omega arith), λ _. refl))

-- function g of a table
module _ (t : List ℕ) (g : ℕ) where
  abbrev z : Sizes
  z = sizes_of t

  abbrev T : Table
  T = table_of t

  -- a block from p to q, nested at most d deep
  abbrev pub Block : ℕ → ℕ → ℕ → Type 0
  Block d p q = (b : Types T reading g p tt q tt) × (nesting T reading b ≤ d)

  closing_is : (c p : ℕ) → Closing z t c p → ByKind t p c (T.rec p)
  closing_is c p k = rw (record_got z t p k.is) (by_kind t p c k.with k.closes k.kind k.names)

  -- what a record's reading has found out, a block's, and that of a block inside a record
  abbrev Found : ℕ → ℕ → ℕ → Result Walked Refusal → Type 0
  Found d c p (Ok (Next n)) = (q : ℕ) → Block d n q → Block d p q
  Found d c p (Ok (Shut n)) = (n ≡ p) × Closing z t c p
  Found d c p (Err _) = Unit {0}

  abbrev pub FoundBlock : ℕ → ℕ → ℕ → To → Type 0
  FoundBlock d c p (Ok q) = Block d p q × Closing z t c q
  FoundBlock d c p (Err _) = Unit {0}

  abbrev Inner : ℕ → ℕ → ℕ → To → Type 0
  Inner d c p (Ok q) = (b : Types T reading g p tt q tt) × (nesting T reading b < d) × Closing z t c q
  Inner d c p (Err _) = Unit {0}

  inner : (d c p : ℕ) (w : To) → FoundBlock d c p w → Inner (suc d) c p w
  inner d c p (Ok q) ((b, l), k) = (b, suc-le-suc l, k)
  inner d c p (Err _) h = tt

  block_found : (d c : ℕ) (f : ℕ → Result Walked Refusal) → ((p : ℕ) → Found d c p (f p)) → (k p : ℕ) → FoundBlock d c p (block_with f k p)
  unfolding block_with
  block_found d c f h zero p = tt
  block_found d c f h (suc k) p = go (f p) (h p) (λ n. block_found d c f h k n)
    where
      map : (n : ℕ) → ((q : ℕ) → Block d n q → Block d p q) → (w : To) → FoundBlock d c n w → FoundBlock d c p w
      map n m (Ok x) (b, k) = (m x b, k)
      map n m (Err _) r = tt

      go : (w : Result Walked Refusal) → Found d c p w → ((n : ℕ) → FoundBlock d c n (block_with f k n)) → FoundBlock d c p (then w (onward (block_with f k)))
      go (Ok (Next n)) m ih = map n m (block_with f k n) (ih n)
      go (Ok (Shut n)) (e, k) ih = rw e ((done, zero-le), k)
      go (Err _) m ih = tt

  -- a record that holds no block
  single_found : (d p : ℕ) (i : Record) → T.rec p ≡ i → Single i → Lower g i → (q : ℕ) → Block d (p + length_of i) q → Block d p q
  single_found d p i e s n q w = put_one (subst (λ (j : Record). Block d (p + length_of j) q) (sym e) w)
    where
      put_one : Block d (p + length_of (T.rec p)) q → Block d p q
      put_one (b, l) = (one {p = p} {q = q} (rw e s) (rw e n) b, l)

  module _ (d : ℕ) (B : ℕ → ℕ → To) (h : (c p : ℕ) → Inner d c p (B c p)) (c p : ℕ) where
    if_found : (r e : ℕ) → T.rec p ≡ If r e → Found d c p (if_with B t (p + 4) e)
    unfolding if_with
    if_found r e i = first (B 0x21 (p + 4)) (h 0x21 (p + 4))
      where
        second : (e₁ : ℕ) → T.rec e₁ ≡ Else (word16 t (e₁ + 1)) → e₁ ≡ e → (a : Types T reading g (p + 4) tt e₁ tt) → nesting T reading a < d → (w : To) → Inner d 0x22 (e₁ + 3) w
            → Found d c p (then w λ q. met q (word16 t (e₁ + 1)) q (Ok (Next (q + 1))))
        second e₁ j u a la (Err _) b = tt
        second e₁ j u a la (Ok n) (b, lb, k) = same n (word16 t (e₁ + 1)) (λ v. Found d c p (pick v (Ok (Next (n + 1))) (Err (refusal WrongPlace n))))
            (λ v q w. (branch {p = p} (rw (← u) at i) tt a (j ∙ ap (λ (x : ℕ). Else x) (sym v)) b ((closing_is 0x22 n k).1 refl) w.0, omega (arith, w.1))) (λ _. tt)

        first : (w : To) → Inner d 0x21 (p + 4) w → Found d c p (then w λ e₁. met e₁ e e₁ (then (B 0x22 (e₁ + 3)) λ q. met q (word16 t (e₁ + 1)) q (Ok (Next (q + 1)))))
        first (Err _) a = tt
        first (Ok e₁) (a, la, k) = same e₁ e (λ v. Found d c p (pick v (then (B 0x22 (e₁ + 3)) λ q. met q (word16 t (e₁ + 1)) q (Ok (Next (q + 1)))) (Err (refusal WrongPlace e₁))))
            (λ u. second e₁ ((closing_is 0x21 e₁ k).0 refl) u a la (B 0x22 (e₁ + 3)) (h 0x22 (e₁ + 3))) (λ _. tt)

    while_found : (r e : ℕ) (L : Packed) → T.rec p ≡ While r e L → Found d c p (while_with B t p (p + 11) e)
    unfolding while_with
    while_found r e L i = body (B 0x24 (p + 11)) (h 0x24 (p + 11))
      where
        body : (w : To) → Inner d 0x24 (p + 11) w → Found d c p (then w λ e₁. met e₁ e e₁ (met (word16 t (e₁ + 1)) p e₁ (Ok (Next (e₁ + 3)))))
        body (Err _) a = tt
        body (Ok e₁) (a, la, k) = same e₁ e (λ v. Found d c p (pick v (met (word16 t (e₁ + 1)) p e₁ (Ok (Next (e₁ + 3)))) (Err (refusal WrongPlace e₁))))
            (λ u. same (word16 t (e₁ + 1)) p (λ v. Found d c p (pick v (Ok (Next (e₁ + 3))) (Err (refusal WrongPlace e₁))))
            (λ v q w. (loop {p = p} (rw (← u) at i) tt tt a ((closing_is 0x24 e₁ k).2 refl ∙ ap (λ (x : ℕ). Endwhile x) v) tt w.0, omega (arith, w.1))) (λ _. tt))
            (λ _. tt)

    call_found : (f : ℕ) (m : Bool) → T.rec p ≡ Call f m → Found d c p (call_at g p (p + 3) f)
    unfolding call_at
    call_found f m e = pick_ind (Found d c p) (ltb f g) (λ l. single_found d p (Call f m) e tt (ltb-true f g l)) (λ _. tt)

    read_found : (i : Record) → T.rec p ≡ i → (Closes i → Closing z t c p) → Found d c p (read_with B g t p (i, p + length_of i))
    read_found (Do s) e k = single_found d p (Do s) e tt tt
    read_found (Call f m) e k = call_found f m e
    read_found (If r x) e k = if_found r x e
    read_found (Else n) e k = (refl, k tt)
    read_found Endif e k = (refl, k tt)
    read_found (While r x L) e k = while_found r x L e
    read_found (Endwhile w) e k = (refl, k tt)
    read_found Return e k = (refl, k tt)

    decoded_found : (w : Decoded) → GoodAt z t c p w → Found d c p (then w (read_with B g t p))
    decoded_found (Ok (r, n)) k =
        rw (good z t p k.0).next (read_found r (record_got z t p k.0) (closing z t c p n r k))
    decoded_found (Err _) k = tt

  instr_found : (d c p : ℕ) → Found d c p (instr_at d g z t c p)
  unfolding instr_at
  instr_found zero c p = decoded_found 0 (λ _ _. Err (refusal TooDeep p)) (λ _ _. tt) c p (record_at z t c p) (record_good z t c p)
  instr_found (suc d) c p = decoded_found (suc d) (λ k. block_with (instr_at d g z t k) (length t))
      (λ k x. inner d k x (block_with (instr_at d g z t k) (length t) x) (block_found d k (instr_at d g z t k) (instr_found d k) (length t) x)) c p (record_at z t c p) (record_good z t c p)

  -- a block that closes at q
  pub block_read : (d c p q : ℕ) → block_at d g z t c p ≡ Ok q → Block d p q × Closing z t c q
  unfolding block_at
  block_read d c p q e = subst (FoundBlock d c p) e (block_found d c (instr_at d g z t c) (instr_found d c) (length t) p)

-- ---- the functions
module _ (t : List ℕ) where
  abbrev zs : Sizes
  zs = sizes_of t

  -- where function f ends
  abbrev end_of : ℕ → ℕ
  end_of f = pick (eqb (f + 1) zs.functions) (length t) (start_of zs t (f + 1))

  -- function f, from its start place, closes one byte before its end
  abbrev FunctionRead : ℕ → Type 0
  FunctionRead f = (p : ℕ) × (block_at 16 f zs t 0x25 (start_of zs t f) ≡ Ok p) × (p + 1 ≡ end_of f)

  -- the reading of function i from `at` goes on at e
  abbrev One : ℕ → ℕ → To → Type 0
  One i at (Ok e) = (p : ℕ) × (at ≡ start_of zs t i) × (block_at 16 i zs t 0x25 at ≡ Ok p) × (e ≡ p + 1)
  One i at (Err _) = Unit {0}

  shut_one : (i at : ℕ) (w : To) → block_at 16 i zs t 0x25 at ≡ w → at ≡ start_of zs t i → One i at (then w (λ p. Ok (p + 1)))
  shut_one i at (Ok p) e s = (p, s, e, refl)
  shut_one i at (Err _) e s = tt

  record_one : (i at : ℕ) (d : Decoded) → One i at (then d (λ _. pick (eqb at (start_of zs t i)) (then (block_at 16 i zs t 0x25 at) (λ p. Ok (p + 1))) (Err (refusal WrongPlace at))))
  record_one i at (Ok (r, n)) = pick_ind (One i at) (eqb at (start_of zs t i)) (λ e. shut_one i at (block_at 16 i zs t 0x25 at) refl (eqb-true at (start_of zs t i) e)) (λ _. tt)
  record_one i at (Err _) = tt

  function_one : (i at : ℕ) → One i at (function_at zs t i at)
  unfolding function_at
  function_one i at = record_one i at (record_at zs t 0x25 at)

  -- where the last n functions begin: at the start place of the first of them; where there is none, the table ends
  abbrev begin_of : ℕ → ℕ
  begin_of zero = length t
  begin_of (suc n) = start_of zs t (zs.functions - suc n)

  abbrev Rest : ℕ → ℕ → To → Type 0
  Rest n at (Ok e) = (at ≡ begin_of n) × ((f : ℕ) → zs.functions - n ≤ f → f < zs.functions → FunctionRead f)
  Rest n at (Err _) = Unit {0}

  ends : (n : ℕ) → suc n ≤ zs.functions → begin_of n ≡ end_of (zs.functions - suc n)
  ends zero l = same (zs.functions - 1 + 1) zs.functions (λ b. length t ≡ pick b (length t) (start_of zs t (zs.functions - 1 + 1))) (λ _. refl) (λ h. absurd (h (omega arith)))
  ends (suc n) l = same (zs.functions - suc (suc n) + 1) zs.functions (λ b. start_of zs t (zs.functions - suc n) ≡ pick b (length t) (start_of zs t (zs.functions - suc (suc n) + 1)))
      (λ e. absurd (omega arith)) (λ _. ap (start_of zs t) (omega arith))

  functions_rest : (n at : ℕ) → n ≤ zs.functions → Rest n at (functions_at zs t n at)
  unfolding functions_at
  functions_rest zero at l = pick_ind (Rest 0 at) (eqb at (length t)) (λ e. (eqb-true at (length t) e, λ f a b. absurd (omega arith))) (λ _. tt)
  functions_rest (suc n) at l = go (function_at zs t (zs.functions - suc n) at) (function_one (zs.functions - suc n) at) (λ p. functions_rest n p (omega arith))
    where
      more : (p q : ℕ) → at ≡ start_of zs t (zs.functions - suc n) → block_at 16 (zs.functions - suc n) zs t 0x25 at ≡ Ok p → q ≡ p + 1 → (w : To) → Rest n q w → Rest (suc n) at w
      more p q s b e (Err _) r = tt
      more p q s b e (Ok x) (i, r) = (s, λ f a c. last f a c (ℕ_discrete f (zs.functions - suc n)))
        where
          last : (f : ℕ) → zs.functions - suc n ≤ f → f < zs.functions → Dec (f ≡ zs.functions - suc n) → FunctionRead f
          last f a c (yes k) = rw k (p, subst (λ (x : ℕ). block_at 16 (zs.functions - suc n) zs t 0x25 x ≡ Ok p) s b, sym e ∙ i ∙ ends n l)
          last f a c (no k) = r f (omega arith) c

      go : (w : To) → One (zs.functions - suc n) at w → ((p : ℕ) → Rest n p (functions_at zs t n p)) → Rest (suc n) at (then w (functions_at zs t n))
      go (Ok q) (p, s, b, e) ih = more p q s b e (functions_at zs t n q) (ih q)
      go (Err _) w ih = tt

  -- ---- the table
  abbrev pub AllRead : To → Type 0
  AllRead (Ok e) = (f : ℕ) → f < zs.functions → FunctionRead f
  AllRead (Err _) = Unit {0}

  rest_all : (at : ℕ) (w : To) → Rest zs.functions at w → AllRead w
  rest_all at (Ok e) (i, r) = λ f l. r f (omega arith) l
  rest_all at (Err _) r = tt

  then_all : (w : To) (g : ℕ → To) → ((p : ℕ) → AllRead (g p)) → AllRead (then w g)
  then_all (Ok p) g h = h p
  then_all (Err _) g h = tt

  parts_all : AllRead (parts_at zs t)
  unfolding parts_at
  parts_all = then_all (sizes_at t 0) _ (λ p. then_all (arrays_at t zs.arrays p) _ (λ q. then_all (signatures_at zs t zs.functions q) (functions_at zs t zs.functions)
      (λ x. rest_all x (functions_at zs t zs.functions x) (functions_rest zs.functions x (omega arith)))))

  abbrev AnswerRead : Result Sizes Refusal → Type 0
  AnswerRead (Ok y) = (y ≡ zs) × ((f : ℕ) → f < zs.functions → FunctionRead f)
  AnswerRead (Err _) = Unit {0}

  answered_read : (w : To) → AllRead w → AnswerRead (then w (λ _. Ok zs))
  answered_read (Ok p) h = (refl, h)
  answered_read (Err _) h = tt

  answer_read : AnswerRead (read_at t)
  unfolding read_at
  answer_read = pick_ind AnswerRead (ltb 32768 (length t)) (λ _. tt) (λ _. answered_read (parts_at zs t) parts_all)

  -- a table that reads answers with its own sizes
  pub sizes_read : (y : Sizes) → read_at t ≡ Ok y → y ≡ sizes_of t
  sizes_read y e = (subst AnswerRead e answer_read).0

  -- THE LINK: every function of a table that reads is a block by reading's rules, nested at most 16 deep, and lies in
  -- the table
  pub all_read : (y : Sizes) → read_at t ≡ Ok y → (g : ℕ) → g < (table_of t).functions → Read (table_of t) (suc (length t)) g
  unfolding return_of
  all_read y e g l =
      let (p, b, q) = (subst AnswerRead e answer_read).1 g l in
      let (k, c) = block_read t g 16 0x25 (start_of zs t g) p b in
      let at_return : return_of zs t g ≡ p = omega (arith, q) in
      let body : Block t g 16 (start_of zs t g) (return_of zs t g) = subst (λ (x : ℕ). Block t g 16 (start_of zs t g) x) (sym at_return) k in
      record {
        blocks = record { last = tt; body = body.0; returns = rw at_return ((closing_is t g 0x25 p c).3 refl); fits = tt };
        nested = body.1;
        inside = rw at_return (omega (arith, c.whole));
      }

  -- functions touch: each begins one byte after the RETURN of the one before, and the last RETURN ends the table
  pub touches : (y : Sizes) → read_at t ≡ Ok y → (g : ℕ) → g < zs.functions → edge (table_of t) (suc g) ≡ return_of zs t g + 1
  unfolding return_of
  touches y e g l =
      let (p, b, q) = (subst AnswerRead e answer_read).1 g l in
      let r : return_of zs t g + 1 ≡ end_of g = omega (arith, q) in
      sym (r ∙ rw (add-one g))
