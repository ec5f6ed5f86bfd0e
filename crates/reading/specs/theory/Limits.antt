-- The limits that a table keeps which reads: its length, and the numbers of its sizes record.
use Rattle.std.specs.Prelude.{ℕ, ◌-◌, ◌≤◌, ◌≡◌, refl, length, ltb, eqb, Result, Ok, Err}
use Rattle.std.proofs.Common.{subst}
use mathlib.Core.List.{List, [], ◌∷◌}
use Rattle.std.proofs.Math.Bool.{Bool}
use Rattle.std.proofs.Math.Dec.{leb}
use borrow.Author.Tests.{leb-true, ltb-false}
use Rattle.model.specs.Tests.{all, pick_ind, trues}
use Rattle.model.specs.Numbers.{then}
use Rattle.model.specs.declared.Refusal.{Refusal}
use Rattle.model.specs.declared.Sizes.{Sizes}
use Rattle.format.specs.Format.{byte}
use Rattle.format.specs.Head.{To, sizes_at}
use Rattle.format.specs.Layout.{sizes_of}
use Rattle.reading.specs.Reading.{parts_at, read_at}

pub record Limits (z : Sizes) : Type 0 where
  pub some_register : 1 ≤ z.registers
  pub registers : z.registers ≤ 16
  pub arrays : z.arrays ≤ 8
  pub some_function : 1 ≤ z.functions
  pub functions : z.functions ≤ 32

module _ (t : List ℕ) where
  abbrev Kept : To → Type 0
  Kept (Ok p) = Limits (sizes_of t)
  Kept (Err _) = Unit {0}

  sizes_kept : Kept (sizes_at t 0)
  unfolding sizes_at
  sizes_kept =
      let tests : List Bool = leb 1 (byte t 1) ∷ leb (byte t 1) 16 ∷ leb (byte t 2) 8 ∷ leb 1 (byte t 3) ∷ leb (byte t 3) 32 ∷ [] in
      pick_ind Kept (leb (length t) 0) (λ _. tt)
      (λ _. pick_ind Kept (eqb (byte t 0) 1)
      (λ _. pick_ind Kept (ltb (length t - 0) 4) (λ _. tt)
      (λ _. pick_ind Kept (all tests)
      (λ h. let w = trues tests h in record {
        some_register = leb-true 1 (byte t 1) w.0;
        registers = leb-true (byte t 1) 16 w.1.0;
        arrays = leb-true (byte t 2) 8 w.1.1.0;
        some_function = leb-true 1 (byte t 3) w.1.1.1.0;
        functions = leb-true (byte t 3) 32 w.1.1.1.1.0;
      })
      (λ _. tt)))
      (λ _. tt))

  kept_on : (w : To) → Limits (sizes_of t) → Kept w
  kept_on (Ok p) l = l
  kept_on (Err _) l = tt

  then_kept : (w : To) (g : ℕ → To) → Kept w → Kept (then w g)
  then_kept (Ok p) g l = kept_on (g p) l
  then_kept (Err _) g l = tt

  parts_kept : Kept (parts_at (sizes_of t) t)
  unfolding parts_at
  parts_kept = then_kept (sizes_at t 0) _ sizes_kept

  abbrev AnswerKept : Result Sizes Refusal → Type 0
  AnswerKept (Ok z) = (z ≡ sizes_of t) × Limits (sizes_of t) × (length t ≤ 32768)
  AnswerKept (Err _) = Unit {0}

  answered_kept : (w : To) → length t ≤ 32768 → Kept w → AnswerKept (then w (λ _. Ok (sizes_of t)))
  answered_kept (Ok p) l k = (refl, k, l)
  answered_kept (Err _) l k = tt

  answer_kept : AnswerKept (read_at t)
  unfolding read_at
  answer_kept = pick_ind AnswerKept (ltb 32768 (length t)) (λ _. tt) (λ e. answered_kept (parts_at (sizes_of t) t) (ltb-false 32768 (length t) e) parts_kept)

  -- what is known of the sizes and the length of a table that reads
  pub read_limits : (z : Sizes) → read_at t ≡ Ok z → (z ≡ sizes_of t) × Limits (sizes_of t) × (length t ≤ 32768)
  read_limits z e = subst AnswerKept e answer_kept
