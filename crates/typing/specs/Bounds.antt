-- The typing walk goes forward, and not far beyond the table even where it has not been read: a closing record that is
-- missing is passed over by at most four bytes for each nesting.
use Prim.Native.Nat.{ℕ, zero, suc, ◌+◌, ◌*◌, ◌<◌, ◌≤◌, max}
use native.Mathlib.Omega.{arith}
use Rattle.std.specs.Prelude.{◌≡◌, refl, List, true, false, length}
use Rattle.model.specs.Tests.{pick_ind}
use Rattle.model.specs.Levels.{Env}
use Rattle.model.specs.Packing.{env_of}
use Rattle.model.specs.Records.{length_of, length_pos, Closes}
use Rattle.model.specs.Rules.{typing}
use Rattle.model.specs.Decide.{typing_tests, meets_of}
use Rattle.model.specs.Walk.{Walking, Onward, Closed, Halt, Ending, Reached, Failed, on_next, on_shut, single, if_with, while_with, instr_with, type_block, type_instr}
use Rattle.model.specs.declared.Sizes.{Sizes}
use Rattle.model.specs.declared.Fault.TheVariants.{TooDeep}
use Rattle.model.specs.declared.Record.{Record}
use Rattle.model.specs.declared.Record.TheVariants.{Do, Call, If, Else, Endif, While, Endwhile, Return}
use Rattle.format.specs.Laws.{good}
use Rattle.format.specs.Layout.{record_of, record_by}
use Rattle.typing.specs.Walks.{table, size, record_walk, block_walk}

module _ (z : Sizes) (t : List ℕ) where
  -- of the record at `at`: the walk goes on in the table, or shuts where it stands
  abbrev pub Ok : ℕ → ℕ → Walking Env → Type 0
  Ok d at (Onward n E) = (at < length t) × (at < n) × (n ≤ length t + 4 * d)
  Ok d at (Closed p E) = p ≡ at
  Ok d at (Halt n p) = Unit {0}

  abbrev pub OkBlock : ℕ → ℕ → Ending Env → Type 0
  OkBlock d at (Reached p E) = (at ≤ p) × (p ≤ max at (length t + 4 * d))
  OkBlock d at (Failed n p) = Unit {0}

  -- a record that closes no block lies in the table
  abbrev Inside : ℕ → Record → Type 0
  Inside p i = (Closes i → ⊥) → p + length_of i ≤ length t

  record_inside : (p : ℕ) → Inside p (record_of z t p)
  record_inside p = record_by (Inside p) z t p (λ h. absurd (h tt)) (λ r n e _. let g = good z t p e in omega (arith, g.next, g.whole))

  shut_ok : (d at c from : ℕ) (w : Ending Env) (g : ℕ → Env → Walking Env) → OkBlock c from w
      → ((p : ℕ) (E : Env) → from ≤ p → p ≤ max from (length t + 4 * c) → Ok d at (g p E)) → Ok d at (on_shut Halt w g)
  shut_ok d at c from (Reached p E) g h hg = hg p E h.0 h.1
  shut_ok d at c from (Failed n p) g h hg = tt

  single_ok : (d at : ℕ) (i : Record) (E : Env) → at + length_of i ≤ length t → Ok d at (single (table z t) (typing (table z t)) (typing_tests (table z t)) i at E)
  single_ok d at i E l = pick_ind (Ok d at) (meets_of (table z t) i E) (λ _. (omega (arith, length_pos i), omega (arith, length_pos i), omega arith)) (λ _. tt)

  module _ (d : ℕ) (B : ℕ → Env → Ending Env) (hB : (p : ℕ) (E : Env) → OkBlock d p (B p E)) where
    if_ok : (at r : ℕ) (E : Env) → at + 4 ≤ length t → Ok (suc d) at (if_with (table z t) (typing (table z t)) (typing_tests (table z t)) B at r E)
    if_ok at r E l = pick_ind (Ok (suc d) at) ((typing_tests (table z t)).public E r)
        (λ _. shut_ok (suc d) at d (at + 4) (B (at + 4) ((typing (table z t)).guarded E r true)) _ (hB (at + 4) ((typing (table z t)).guarded E r true))
        (λ e E₁ le up. shut_ok (suc d) at d (e + 3) (B (e + 3) ((typing (table z t)).guarded E r false)) _ (hB (e + 3) ((typing (table z t)).guarded E r false))
        (λ n E₂ ln un. (omega arith, omega arith, omega arith))))
        (λ _. tt)

    while_ok : (at r : ℕ) (L E : Env) → at + 11 ≤ length t → Ok (suc d) at (while_with (table z t) (typing (table z t)) (typing_tests (table z t)) B at r L E)
    while_ok at r L E l = pick_ind (Ok (suc d) at) ((typing_tests (table z t)).within E L)
        (λ _. pick_ind (Ok (suc d) at) ((typing_tests (table z t)).public L r)
        (λ _. shut_ok (suc d) at d (at + 11) (B (at + 11) ((typing (table z t)).guarded L r true)) _ (hB (at + 11) ((typing (table z t)).guarded L r true))
        (λ e E₁ le up. pick_ind (Ok (suc d) at) ((typing_tests (table z t)).within E₁ L) (λ _. (omega arith, omega arith, omega arith)) (λ _. tt)))
        (λ _. tt))
        (λ _. tt)

    instr_ok : (at : ℕ) (i : Record) (E : Env) → Inside at i → Ok (suc d) at (instr_with (table z t) (typing (table z t)) (typing_tests (table z t)) B i at E)
    instr_ok at (Do s) E l = single_ok (suc d) at (Do s) E (l (λ x. x))
    instr_ok at (Call f m) E l = single_ok (suc d) at (Call f m) E (l (λ x. x))
    instr_ok at (If r e) E l = if_ok at r E (l (λ x. x))
    instr_ok at (Else n) E l = refl
    instr_ok at Endif E l = refl
    instr_ok at (While r e L) E l = while_ok at r (env_of L) E (l (λ x. x))
    instr_ok at (Endwhile w) E l = refl
    instr_ok at Return E l = refl

  -- with no nesting left
  flat_ok : (at : ℕ) (i : Record) (E : Env) → Inside at i → Ok 0 at (instr_with (table z t) (typing (table z t)) (typing_tests (table z t)) (λ q F. Failed TooDeep at) i at E)
  flat_ok at (Do s) E l = single_ok 0 at (Do s) E (l (λ x. x))
  flat_ok at (Call f m) E l = single_ok 0 at (Call f m) E (l (λ x. x))
  flat_ok at (If r e) E l = pick_ind (Ok 0 at) ((typing_tests (table z t)).public E r) (λ _. tt) (λ _. tt)
  flat_ok at (Else n) E l = refl
  flat_ok at Endif E l = refl
  flat_ok at (While r e L) E l = pick_ind (Ok 0 at) ((typing_tests (table z t)).within E (env_of L)) (λ _. pick_ind (Ok 0 at) ((typing_tests (table z t)).public (env_of L) r) (λ _. tt) (λ _. tt)) (λ _. tt)
  flat_ok at (Endwhile w) E l = refl
  flat_ok at Return E l = refl

  widen : (d at n : ℕ) (w : Ending Env) → at ≤ n → n ≤ length t + 4 * d → OkBlock d n w → OkBlock d at w
  widen d at n (Reached m E) a b h = (omega (arith, h.0), omega (arith, h.1))
  widen d at n (Failed m p) a b h = tt

  block_ok : (d : ℕ) (f : ℕ → Env → Walking Env) → ((p : ℕ) (E : Env) → Ok d p (f p E)) → (k at : ℕ) (E : Env)
      → OkBlock d at (type_block (table z t) (typing (table z t)) (typing_tests (table z t)) f k at E)
  unfolding type_block
  block_ok d f h zero at E = tt
  block_ok d f h (suc k) at E = go (f at E) (h at E) (block_ok d f h k)
    where
      go : (w : Walking Env) → Ok d at w → ((n : ℕ) (F : Env) → OkBlock d n (type_block (table z t) (typing (table z t)) (typing_tests (table z t)) f k n F))
          → OkBlock d at (on_next w (type_block (table z t) (typing (table z t)) (typing_tests (table z t)) f k))
      go (Onward n F) o ih = widen d at n (type_block (table z t) (typing (table z t)) (typing_tests (table z t)) f k n F) (omega (arith, o.1)) o.2 (ih n F)
      go (Closed p F) o ih = (omega arith, omega arith)
      go (Halt n p) o ih = tt

  pub record_ok : (d at : ℕ) (E : Env) → Ok d at (record_walk z t d at E)
  unfolding type_instr
  record_ok zero at E = flat_ok at (record_of z t at) E (record_inside at)
  record_ok (suc d) at E = instr_ok d (type_block (table z t) (typing (table z t)) (typing_tests (table z t)) (record_walk z t d) (size z t)) (block_ok d (record_walk z t d) (record_ok d) (size z t)) at (record_of z t at) E (record_inside at)

  pub block_walk_ok : (d k at : ℕ) (E : Env) → OkBlock d at (block_walk z t d k at E)
  block_walk_ok d k at E = block_ok d (record_walk z t d) (record_ok d) k at E
