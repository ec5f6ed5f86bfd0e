-- Return sites: the places that follow a CALL of a function, looked for in the list of the code.
use Rattle.std.specs.Prelude.{ℕ, zero, suc, ◌+◌, Bool, List, [], ◌∷◌, eqb, leb, Option, Some, None}
use Rattle.model.specs.Tests.{pick}
use Rattle.model.specs.Records.{by_single}
use Rattle.model.specs.Table.{Table}
use Rattle.model.specs.InOrder.{Placed, code}
use Rattle.model.specs.declared.Record.{Record}

-- the mark, if the record is a CALL of f
abbrev pub mark_of : Record → ℕ → Option Bool
mark_of i f = by_single (λ s. None) (λ g m. pick (eqb g f) (Some m) None) None i

-- the mark of the listed CALL of f that q follows
abbrev pub mark_in : List Placed → ℕ → ℕ → Option Bool
mark_in [] f q = None
mark_in (x ∷ xs) f q = pick (eqb q (x.0 + 3)) (mark_of x.1 f) (mark_in xs f q)

-- the last of the n first functions that starts at p or before it
unfoldable pub home_of : (ℕ → ℕ) → ℕ → ℕ → ℕ
home_of start zero p = 0
home_of start (suc n) p = pick (leb (start n) p) n (home_of start n p)

-- of a place in a function and a place q: the mark, if q follows a CALL of the function
unfoldable pub site : Table → ℕ → ℕ → Option Bool
site t p q = mark_in (code t) (home_of t.start t.functions p) q
