-- Laws of the reading's definitions, as the readers use them: an instruction by its record, a block by its first
-- instruction, the functions by the first that is left; and where a block that is shut ends.
use Prim.Native.Nat.{ℕ, zero, suc, ◌+◌, ◌-◌, ◌<◌, ◌≤◌}
use native.Mathlib.Omega.{arith}
use native.Mathlib.Numerals.{sub-one}
use mathlib.Core.Path.{◌≡◌, refl, subst, ◌∙◌}
use mathlib.Core.List.{List}
use lib.ListN.{length}
use Rattle.std.specs.Prelude.{Result, Ok, Err}
use borrow.Author.Tests.{le-leb}
use Rattle.model.specs.Numbers.{refusal, then}
use Rattle.model.specs.Records.{length_pos}
use Rattle.model.specs.declared.Fault.TheVariants.{TableCut}
use Rattle.model.specs.declared.Refusal.{Refusal}
use Rattle.model.specs.declared.Sizes.{Sizes}
use Rattle.model.specs.declared.Walked.{Walked}
use Rattle.model.specs.declared.Walked.TheVariants.{Next, Shut}
use Rattle.reading.specs.Reading.{record_at, read_with, onward, block_with, instr_at, block_at, blocks_at, function_at, functions_at}
use Rattle.reading.specs.theory.Steps.{Closing, Forward, ForwardBlock, instr_ok, block_at_ok, else_whole, endwhile_whole}

-- an instruction by its record
pub instr_is : (d cur : ℕ) (z : Sizes) (t : List ℕ) (c at : ℕ) → instr_at d cur z t c at ≡ then (record_at z t c at) (read_with (blocks_at d cur z t at) cur t at)
unfolding instr_at block_at
instr_is zero cur z t c at = refl
instr_is (suc d) cur z t c at = refl

-- the blocks of a record, where a nesting is left
pub blocks_is : (d cur : ℕ) (z : Sizes) (t : List ℕ) (at c from : ℕ) → (d ≡ 0 → ⊥) → blocks_at d cur z t at c from ≡ block_at (d - 1) cur z t c from
blocks_is zero cur z t at c from h = absurd (h refl)
blocks_is (suc d) cur z t at c from h = rw sub-one refl

module _ (d cur : ℕ) (z : Sizes) (t : List ℕ) (c : ℕ) where
  abbrev step : ℕ → Result Walked Refusal
  step = instr_at d cur z t c

  -- past the end an instruction is cut
  instr_end : (at : ℕ) → length t ≤ at → step at ≡ Err (refusal TableCut at)
  unfolding record_at
  instr_end at le = rw (instr_is d cur z t c at) (simp le-leb)

  -- the bound of a block's records does not count, once it is that of the bytes left
  enough : (k j at : ℕ) → length t - at ≤ k → length t - at ≤ j → block_with step k at ≡ block_with step j at
  unfolding block_with
  enough zero zero at l m = refl
  enough zero (suc j) at l m = rw (instr_end at (omega arith)) refl
  enough (suc k) zero at l m = rw (instr_end at (omega arith)) refl
  enough (suc k) (suc j) at l m = go (step at) (instr_ok d cur z t c at) (λ p. enough k j p)
    where
      go : (w : Result Walked Refusal) → Forward z t c at w → ((p : ℕ) → length t - p ≤ k → length t - p ≤ j → block_with step k p ≡ block_with step j p)
          → then w (onward (block_with step k)) ≡ then w (onward (block_with step j))
      go (Ok (Next p)) f ih = ih p (omega (arith, f.0, f.1)) (omega (arith, f.0, f.1))
      go (Ok (Shut p)) f ih = refl
      go (Err _) f ih = refl

  -- a block by its first instruction
  pub block_is : (at : ℕ) → block_at d cur z t c at ≡ then (step at) (onward (block_at d cur z t c))
  unfolding block_at block_with
  block_is at = enough (length t) (suc (length t)) at (omega arith) (omega arith)

  -- an instruction goes on within the table
  pub next_falls : (at p : ℕ) → step at ≡ Ok (Next p) → length t - p < length t - at
  next_falls at p e = let f = subst (Forward z t c at) e (instr_ok d cur z t c at) in omega (arith, f.0, f.1)

  -- a block that is shut is shut in the table
  shut : (at : ℕ) {p : ℕ} → block_at d cur z t c at ≡ Ok p → Closing z t c p
  shut at e = (subst (ForwardBlock z t c at) e (block_at_ok d cur z t c at)).1

  pub shut_one : (at : ℕ) {p : ℕ} → block_at d cur z t c at ≡ Ok p → p + 1 ≤ length t
  shut_one at e = let k = shut at e in omega (arith, k.whole, length_pos k.with)

pub shut_else : (d cur : ℕ) (z : Sizes) (t : List ℕ) (at : ℕ) {p : ℕ} → block_at d cur z t 0x21 at ≡ Ok p → p + 3 ≤ length t
shut_else d cur z t at e = else_whole z t _ (shut d cur z t 0x21 at e)

pub shut_endwhile : (d cur : ℕ) (z : Sizes) (t : List ℕ) (at : ℕ) {p : ℕ} → block_at d cur z t 0x24 at ≡ Ok p → p + 3 ≤ length t
shut_endwhile d cur z t at e = endwhile_whole z t _ (shut d cur z t 0x24 at e)

-- one function read, one fewer left
pub functions_is : (z : Sizes) (t : List ℕ) (n at : ℕ) → (n ≡ 0 → ⊥) → functions_at z t n at ≡ then (function_at z t (z.functions - n) at) (functions_at z t (n - 1))
unfolding functions_at
functions_is z t zero at h = absurd (h refl)
functions_is z t (suc n) at h = rw sub-one

-- .. where i were read before
pub functions_next : (z : Sizes) (t : List ℕ) (i at p : ℕ) → i < z.functions → function_at z t i at ≡ Ok p → functions_at z t (z.functions - i) at ≡ functions_at z t (z.functions - (i + 1)) p
functions_next z t i at p l e =
    let k : z.functions - (z.functions - i) ≡ i = omega arith in
    let m : z.functions - i - 1 ≡ z.functions - (i + 1) = omega arith in
    functions_is z t (z.functions - i) at (λ q. omega arith) ∙ rw (k, e, m) refl
