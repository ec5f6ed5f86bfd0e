-- Order 3: "Tables that passed before still pass, and that is to be shown."
use Rattle.std.specs.Prelude.{ℕ, ◌≡◌, refl, List, length}
use Rattle.model.specs.Before.{TypedBefore}
use Rattle.model.proofs.Before.{still_typed}
use Rattle.format.specs.Layout.{sizes_of, table_of}
use Rattle.typing.specs.Check.{accepted, check_at}
use Rattle.typing.specs.Checked.{Readable, check_means, means_one}

-- what passing was (the right side of passes-exactly, under the rules of then): the table reads, and those rules type
-- every function of it
abbrev pub PassedBefore : List ℕ → Type 0
PassedBefore t = Readable t × TypedBefore (table_of t)

-- EVERY TABLE THAT PASSED BEFORE STILL PASSES, with the same line
pub still_passes : (t : List ℕ) → PassedBefore t → check_at t ≡ accepted (sizes_of t).functions (length t)
still_passes t b = means_one t (check_at t) (accepted (sizes_of t).functions (length t)) (check_means t) (b.0, still_typed (table_of t) b.1, refl, refl)
