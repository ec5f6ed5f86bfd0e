-- Laws of the typing walk, as its methods use them: a record by its kind, a nesting, a turn of a block's loop.
use Prim.Native.Nat.{ℕ, zero, suc, ◌+◌, ◌-◌, ◌*◌, ◌<◌, ◌≤◌, max}
use native.Mathlib.Omega.{arith}
use native.Mathlib.Numerals.{sub-one}
use Rattle.std.specs.Prelude.{◌⊎◌, Result, Ok, Err}
use Rattle.std.proofs.Common.{inl, inr}
use Rattle.std.specs.Result.{IsErrAnd, result_unwrap_or}
use Rattle.std.proofs.lemmas.Result.{err_from_is_err_and}
use mathlib.Core.Path.{◌≡◌, refl, sym, ap, subst, ◌∙◌}
use mathlib.Core.Bool.{Bool, true, false}
use mathlib.Core.List.{List}
use lib.ListN.{length}
use lib.Dec.{eqb}
use Rattle.model.specs.Tests.{pick}
use Rattle.model.specs.Levels.{Env, within, join}
use Rattle.model.specs.Packing.{env_of}
use Rattle.model.specs.Records.{Closes, length_of}
use Rattle.model.specs.Rules.{guarded, typing}
use Rattle.model.specs.Table.{Table}
use Rattle.model.specs.Typing.{Typing, type_from, on_pass}
use Rattle.model.specs.theory.Whole.{Whole, Where, WhereEnds}
use Rattle.model.proofs.theory.Whole.{guarded_whole, record_whole, block_whole}
use Rattle.model.specs.Walk.{Walking, Onward, Closed, Halt, Ending, Reached, Failed, on_next, on_shut, instr_with, type_block, inside, instr_at_lem, type_function, shut_at}
use Rattle.model.specs.Decide.{typing_tests}
use Rattle.model.specs.declared.Fault.{Fault}
use Rattle.model.specs.declared.Fault.TheVariants.{LoopNotKept, ReturnDoesNotFit}
use Rattle.model.specs.declared.Refusal.{Refusal}
use Rattle.model.specs.declared.Sizes.{Sizes}
use Rattle.model.specs.declared.Packed.{Packed}
use Rattle.model.specs.declared.Record.{Record}
use Rattle.model.specs.declared.Record.TheVariants.{Else, Endif, Endwhile, Return}
use Rattle.model.specs.declared.Walked.{Walked}
use Rattle.format.specs.Format.{Decoded, decode_at}
use Rattle.format.specs.Laws.{good}
use Rattle.format.specs.Layout.{record_from, record_of, in_of, out_of, start_of}
use Rattle.typing.specs.declared.Walk.{Walk}
use Rattle.typing.specs.Envs.{view_env, Fit}
use Rattle.typing.specs.Walks as walks
use Rattle.typing.specs.Bounds as bounds
use Rattle.typing.specs.declared.walks.ReadTable.{ReadTable}

-- what a `?` hands on
pub handed : {A : Type 0} (r : Result A Refusal) (e : Refusal) → IsErrAnd r (λ (y : Refusal). y ≡ e) → r ≡ Err e
handed r e h = let p = err_from_is_err_and r h in p.1 ∙ ap (λ (y : Refusal). Err y) p.2

-- what was walked, by where it came
pub arrived : (w : Walk) {x : Walking Env} {to : Walked} → walks.view_walk (Ok w) ≡ x → w.to ≡ to → x ≡ walks.going to (view_env w.env)
arrived w h e = sym h ∙ ap (λ (to : Walked). walks.going to (view_env w.env)) e

-- .. and where it ended, by the fault
pub arrived_at_fault : {e : Refusal} {x : Walking Env} → walks.view_walk (Err e) ≡ x → x ≡ Halt e.fault e.place
arrived_at_fault h = sym h

-- entering a block
pub guarded_fit : (z : Sizes) (E : Env) (q : ℕ) (s : Bool) {F : Env} → Fit z E → F ≡ guarded E q s → Fit z F
guarded_fit z E q s f e = subst (Fit z) (sym e) (guarded_whole z.registers z.arrays E f q s)

-- what `within` says of an environment beside one that stands packed
pub within_packed : (z : Sizes) (E : Env) (L : Packed) {K : Env} {b c : Bool} → Fit z E → Fit z (env_of L) → K ≡ env_of L
    → ((n m : ℕ) → Whole n m E → Whole n m K → b ≡ within n m E K) → b ≡ c → within z.registers z.arrays E (env_of L) ≡ c
within_packed z E L f g k w q =
    ap (λ (F : Env). within z.registers z.arrays E F) (sym k)
    ∙ sym (w z.registers z.arrays f (subst (Fit z) (sym k) g)) ∙ q

-- a record that is none of the four that go on
pub closes : (i : Record) → ((n : ℕ) × (i ≡ Else n)) ⊎ ((i ≡ Endif) ⊎ (((w : ℕ) × (i ≡ Endwhile w)) ⊎ (i ≡ Return))) → Closes i
closes i (inl (n, e)) = subst Closes (sym e) tt
closes i (inr (inl e)) = subst Closes (sym e) tt
closes i (inr (inr (inl (w, e)))) = subst Closes (sym e) tt
closes i (inr (inr (inr e))) = subst Closes (sym e) tt

module _ (z : Sizes) (t : List ℕ) where
  -- a record by its kind
  pub record_is : (d at : ℕ) (E : Env) {i : Record} → record_of z t at ≡ i
      → instr_with (walks.table z t) (typing (walks.table z t)) (typing_tests (walks.table z t)) (inside (walks.table z t) (typing (walks.table z t)) (typing_tests (walks.table z t)) (walks.size z t) d at) i at E ≡ walks.record_walk z t d at E
  record_is d at E e =
      ap (λ (i : Record). instr_with (walks.table z t) (typing (walks.table z t)) (typing_tests (walks.table z t)) (inside (walks.table z t) (typing (walks.table z t)) (typing_tests (walks.table z t)) (walks.size z t) d at) i at E) (sym e)
      ∙ sym (instr_at_lem (walks.table z t) (typing (walks.table z t)) (typing_tests (walks.table z t)) (walks.size z t) d at E)

  -- where a block is shut
  pub shut_near : (d k at : ℕ) (E : Env) {p : ℕ} {F : Env} → Reached p F ≡ walks.block_walk z t d k at E → p ≤ max at (length t + 4 * d)
  shut_near d k at E e = (subst (bounds.OkBlock z t d at) (sym e) (bounds.block_walk_ok z t d k at E)).1

  -- a turn of the loop of a block, k bounding the records from `at` on
  pub next_ok : (d at : ℕ) (E : Env) {n : ℕ} {F : Env} → Onward n F ≡ walks.record_walk z t d at E → (at < length t) × (at < n) × (n ≤ length t + 4 * d)
  next_ok d at E e = subst (bounds.Ok z t d at) (sym e) (bounds.record_ok z t d at E)

  pub turn_next : (d k at : ℕ) (E : Env) {n : ℕ} {F : Env} → Onward n F ≡ walks.record_walk z t d at E → length t - at < k
      → (j : ℕ) × (length t - n < j) × (walks.block_walk z t d k at E ≡ walks.block_walk z t d j n F)
  unfolding type_block
  turn_next d zero at E e l = absurd (omega arith)
  turn_next d (suc k) at E e l = let o = next_ok d at E e in (k, omega (arith, o.0, o.1), ap (λ (w : Walking Env). on_next w (walks.block_walk z t d k)) (sym e))

  pub turn_shut : (d k at : ℕ) (E : Env) {p : ℕ} {F : Env} → Closed p F ≡ walks.record_walk z t d at E → length t - at < k → walks.block_walk z t d k at E ≡ Reached p F
  unfolding type_block
  turn_shut d zero at E e l = absurd (omega arith)
  turn_shut d (suc k) at E e l = ap (λ (w : Walking Env). on_next w (walks.block_walk z t d k)) (sym e)

  pub turn_fault : (d k at : ℕ) (E : Env) {n : Fault} {p : ℕ} → Halt n p ≡ walks.record_walk z t d at E → length t - at < k → walks.block_walk z t d k at E ≡ Failed n p
  unfolding type_block
  turn_fault d zero at E e l = absurd (omega arith)
  turn_fault d (suc k) at E e l = ap (λ (w : Walking Env). on_next w (walks.block_walk z t d k)) (sym e)

  -- a function, once its block is walked
  pub function_is : (g : ℕ) {s : ℕ} {E : Env} {w : Ending Env} → s ≡ start_of z t g → E ≡ env_of (in_of z t g) → w ≡ walks.block_walk z t 16 (walks.size z t) s E
      → on_shut Failed w (λ p F. pick (within z.registers z.arrays F (env_of (out_of z t g))) (Reached p F) (Failed ReturnDoesNotFit p)) ≡ walks.function_walk z t g
  unfolding type_function
  function_is g p q e = rw (e, p, q) refl

module _ (r : ReadTable) where
  abbrev z : Sizes
  z = r.table.sizes

  abbrev t : List ℕ
  t = r.table.bytes.now

  abbrev T : Table
  T = walks.table z t

  abbrev size : ℕ
  size = walks.size z t

  abbrev pub one : ℕ → ℕ → Env → Walking Env
  one d at E = walks.record_walk z t d at E

  abbrev pub block : ℕ → ℕ → Env → Ending Env
  block d at E = walks.block_walk z t d size at E

  pub closed_at : (d at : ℕ) (E : Env) → Closes (record_of z t at) → Closed at E ≡ one d at E
  closed_at d at E h = sym (shut_at T (typing T) (typing_tests T) (record_of z t at) (inside T (typing T) (typing_tests T) size d at) at E h) ∙ record_is z t d at E refl

  -- the record at `at`, and where the next one is due, as the walk takes them: RETURN where none can be read
  module _ (at : ℕ) {d : Decoded} {x : Record × ℕ} (p : d ≡ decode_at z t at) (e : x ≡ result_unwrap_or d (Return, at)) where
    pub kind_at : {i : Record} → x.0 ≡ i → record_of z t at ≡ i
    unfolding record_of
    kind_at h = go (decode_at z t at) (e ∙ ap (λ (d : Decoded). result_unwrap_or d (Return, at)) p) ∙ h
      where
        go : (d : Decoded) → x ≡ result_unwrap_or d (Return, at) → record_from d ≡ x.0
        go (Ok (i, n)) q = rw q
        go (Err y) q = rw q

    pub next_at : {i : Record} → x.0 ≡ i → (Closes i → ⊥) → (x.1 ≡ at + length_of i) × (at + length_of i ≤ length t)
    next_at {i = i} h n = go (decode_at z t at) refl (e ∙ ap (λ (d : Decoded). result_unwrap_or d (Return, at)) p)
      where
        go : (d : Decoded) → decode_at z t at ≡ d → x ≡ result_unwrap_or d (Return, at) → (x.1 ≡ at + length_of i) × (at + length_of i ≤ length t)
        go (Ok (j, m)) u q =
            let g = good z t at u in
            let l : j ≡ i = sym (ap (λ (y : Record × ℕ). y.0) q) ∙ h in
            let w = g.next ∙ ap (λ (k : Record). at + length_of k) l in
            (ap (λ (y : Record × ℕ). y.1) q ∙ w, omega (arith, w, g.whole))
        go (Err y) u q = absurd (n (subst Closes (sym (ap (λ (y : Record × ℕ). y.0) q) ∙ h) tt))

  -- IF: from what was learnt of the guard, and how the first block ended; then the second

  abbrev joined : Env → Ending Env → Walking Env
  joined F w = on_shut Halt w (λ n G. Onward (n + 1) (join F G))

  pub if_first : (d at q : ℕ) (E : Env) {b : Bool} {G : Env} {w : Ending Env} → b ≡ eqb (E.regs q) 0 → b ≡ true → (d ≡ 0 → ⊥) → G ≡ guarded E q true → w ≡ block (d - 1) (at + 4) G
      → on_shut Halt w (λ p F. joined F (block (d - 1) (p + 3) (guarded E q false))) ≡ walks.if_walk z t d at q E
  if_first zero at q E h k n g e = absurd (n refl)
  if_first (suc d) at q E h k n g e = rw (e, g, sym h ∙ k, sub-one) refl

  pub if_second : (d q : ℕ) (E : Env) (p : ℕ) (F : Env) {G : Env} {w : Ending Env} → G ≡ guarded E q false → w ≡ block (d - 1) (p + 3) G → joined F w ≡ joined F (block (d - 1) (p + 3) (guarded E q false))
  if_second d q E p F g e = ap (joined F) (e ∙ ap (block (d - 1) (p + 3)) g)

  -- WHILE: from what was learnt of the loop environment, and how the body ended
  module _ (d at q : ℕ) (L : Packed) (E : Env) {K G : Env} {w : Ending Env} (f : Fit z (env_of L)) (k : K ≡ env_of L) (g : G ≡ guarded K q true) where
    pub while_body : {b c : Bool} → Fit z E → ((n m : ℕ) → Whole n m E → Whole n m K → b ≡ within n m E K) → b ≡ true → c ≡ eqb (K.regs q) 0 → c ≡ true → (d ≡ 0 → ⊥)
        → w ≡ block (d - 1) (at + 11) G
        → on_shut Halt w (λ p F. pick (within z.registers z.arrays F (env_of L)) (Onward (p + 3) (guarded (env_of L) q false)) (Halt LoopNotKept p)) ≡ walks.while_walk z t d at q L E
    while_body h v u s y n e = go d n e
      where
        inner : G ≡ guarded (env_of L) q true
        inner = g ∙ ap (λ (E : Env). guarded E q true) k

        public : eqb ((env_of L).regs q) 0 ≡ true
        public = ap (λ (E : Env). eqb (E.regs q) 0) (sym k) ∙ sym s ∙ y

        go : (d : ℕ) → (d ≡ 0 → ⊥) → w ≡ block (d - 1) (at + 11) G
            → on_shut Halt w (λ p F. pick (within z.registers z.arrays F (env_of L)) (Onward (p + 3) (guarded (env_of L) q false)) (Halt LoopNotKept p)) ≡ walks.while_walk z t d at q L E
        go zero n e = absurd (n refl)
        go (suc d) n e = rw (e, inner, within_packed z E L h f k v u, public, sub-one) refl

  -- every environment that the walk meets keeps to the table's slots
  pub next_fit : (d at : ℕ) (E : Env) {n : ℕ} {F : Env} → Fit z E → Onward n F ≡ one d at E → Fit z F
  next_fit d at E f e = subst (Where (Fit z)) (sym e) (record_whole T (λ g l. (r.signed g l).1) d size at E f)

  pub walk_fit : (d k at : ℕ) (E : Env) {x : Ending Env} → Fit z E → x ≡ walks.block_walk z t d k at E → WhereEnds (Fit z) x
  walk_fit d k at E f e = subst (WhereEnds (Fit z)) (sym e) (block_whole T (λ g l. (r.signed g l).1) d size k at E f)

  pub block_fit : (d at : ℕ) (E : Env) {p : ℕ} {F : Env} → Fit z E → Reached p F ≡ block d at E → Fit z F
  block_fit d at E f e = walk_fit d size at E f e

  pub signed_in : (g : ℕ) {E : Env} → g < z.functions → E ≡ env_of (in_of z t g) → Fit z E
  signed_in g l e = subst (Fit z) (sym e) (r.signed g l).0

  -- the functions from g on
  abbrev from : ℕ → Typing
  from g = type_from T size (z.functions - g)

  functions_step : (g : ℕ) → g < z.functions → from g ≡ on_pass (walks.function_walk z t g) (from (g + 1))
  unfolding type_from
  functions_step g l = go (z.functions - (g + 1)) (omega arith)
    where
      go : (n : ℕ) → n ≡ z.functions - (g + 1) → from g ≡ on_pass (walks.function_walk z t g) (type_from T size n)
      go n h =
          let s : z.functions - g ≡ suc n = omega arith in
          let f : z.functions - suc n ≡ g = omega arith in
          rw (s, f) refl

  pub functions_next : (g : ℕ) → g < z.functions → Ok tt ≡ on_pass (walks.function_walk z t g) (Ok tt) → from g ≡ from (g + 1)
  functions_next g l e = functions_step g l ∙ go (walks.function_walk z t g) e
    where
      go : (w : Ending Env) → Ok tt ≡ on_pass w (Ok tt) → on_pass w (from (g + 1)) ≡ from (g + 1)
      go (Reached p E) e = refl
      go (Failed n p) e = cc

  pub functions_fault : (g : ℕ) → g < z.functions → {x : Refusal} → Err x ≡ on_pass (walks.function_walk z t g) (Ok tt) → from g ≡ Err x
  functions_fault g l {x} e = functions_step g l ∙ go (walks.function_walk z t g) e
    where
      go : (w : Ending Env) → Err x ≡ on_pass w (Ok tt) → on_pass w (from (g + 1)) ≡ Err x
      go (Reached p E) e = cc
      go (Failed n p) e = sym e

  pub functions_end : (g : ℕ) → z.functions ≤ g → from g ≡ Ok tt
  unfolding type_from
  functions_end g l = let e : z.functions - g ≡ 0 = omega arith in rw e refl
