-- Laws of the head's definitions, as its readers use them.
use Rattle.std.specs.Prelude.{ℕ, zero, suc, ◌+◌, ◌-◌, ◌<◌, ◌≡◌, refl, List, [], Bool, true, false, length, leb, eqb, ltb, Result, Ok, Err}
use Rattle.std.proofs.Common.{arith, sub-one, ◌∙◌}
use Rattle.model.specs.Tests.{pick, all}
use Rattle.model.specs.Numbers.{refusal, then}
use Rattle.model.specs.declared.Fault.TheVariants.{TableCut, WrongKind, OutOfRange}
use Rattle.model.specs.declared.Refusal.{Refusal}
use Rattle.model.specs.declared.Sizes.{Sizes}
use Rattle.format.specs.Format.{byte}
use Rattle.format.specs.Head.{due_at, array_at, signature_at, arrays_at, signatures_at}

-- a record is due, and once it stands there whole, its fields are tested
pub due_then : {A : Type 0} (k : ℕ) (t : List ℕ) (at n : ℕ) (tests : List Bool) (good : Result A Refusal)
    → due_at k t at n tests good ≡ then (due_at k t at n [] (Ok (tt {0}))) (λ _. pick (all tests) good (Err (refusal OutOfRange at)))
due_then {A = A} k t at n tests good = go (leb (length t) at) (eqb (byte t at) k) (ltb (length t - at) n)
  where
    short : Result A Refusal
    short = Err (refusal TableCut at)

    fields : Result A Refusal
    fields = pick (all tests) good (Err (refusal OutOfRange at))

    go : (a b c : Bool) → pick a short (pick b (pick c short fields) (Err (refusal WrongKind at)))
        ≡ then (pick a (Err (refusal TableCut at)) (pick b (pick c (Err (refusal TableCut at)) (Ok (tt {0}))) (Err (refusal WrongKind at)))) (λ _. fields)
    go true b c = refl
    go false false c = refl
    go false true true = refl
    go false true false = refl

-- the records before the code, one less
pub arrays_is : (t : List ℕ) (n at : ℕ) → (n ≡ 0 → ⊥) → arrays_at t n at ≡ then (array_at t at) (arrays_at t (n - 1))
unfolding arrays_at
arrays_is t zero at h = absurd (h refl)
arrays_is t (suc n) at h = rw sub-one

pub signatures_is : (z : Sizes) (t : List ℕ) (n at : ℕ) → (n ≡ 0 → ⊥) → signatures_at z t n at ≡ then (signature_at z t (n - 1) at) (signatures_at z t (n - 1))
unfolding signatures_at
signatures_is z t zero at h = absurd (h refl)
signatures_is z t (suc n) at h = rw sub-one

-- one array's record read, where k were read before
pub arrays_next : (t : List ℕ) (n k at p : ℕ) → k < n → array_at t at ≡ Ok p → arrays_at t (n - k) at ≡ arrays_at t (n - (k + 1)) p
arrays_next t n k at p h e =
    let m : n - k - 1 ≡ n - (k + 1) = omega arith in
    arrays_is t (n - k) at (λ q. omega arith) ∙ rw (e, m) refl
