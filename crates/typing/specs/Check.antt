-- The check of a table: number 1, a forward reading (2 to 9), then typing (10 to 14). Nothing but the table's bytes
-- goes into it.
use Rattle.std.specs.Prelude.{ℕ, suc, List, length, Result, Ok}
use Rattle.model.specs.Numbers.{then}
use Rattle.model.specs.Typing.{Typing, type_all}
use Rattle.model.specs.declared.Refusal.{Refusal}
use Rattle.model.specs.declared.Sizes.{Sizes}
use Rattle.format.specs.Layout.{table_with}
use Rattle.reading.specs.Reading.{read_at}
use Rattle.typing.specs.declared.Accepted.{Accepted}

-- what the check answers: what it accepts, or the first fault with its place
abbrev pub Verdict : Type 0
Verdict = Result Accepted Refusal

-- f functions in b bytes
abbrev pub accepted : ℕ → ℕ → Verdict
accepted f b = Ok (record { functions = f; bytes = b })

abbrev pub typed : Sizes → List ℕ → Typing → Verdict
typed z t w = then w (λ _. accepted z.functions (length t))

abbrev pub answered : List ℕ → Result Sizes Refusal → Verdict
answered t a = then a (λ z. typed z t (type_all (table_with z t) (suc (length t))))

unfoldable pub check_at : List ℕ → Verdict
check_at t = answered t (read_at t)
