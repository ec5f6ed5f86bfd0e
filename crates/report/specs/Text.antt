-- Text as bytes: numbers in decimal, and fixed words.
use Rattle.std.specs.Prelude.{ℕ, zero, suc, ◌+◌, ◌/◌, ◌%◌, List, [], ◌∷◌, ◌++◌, true, false, ltb}

-- the digits of n, at most k of them
unfoldable pub digits_in : ℕ → ℕ → List ℕ
digits_in zero n = []
digits_in (suc k) n = elim (ltb n 10) [ true ↦ (n + 48) ∷ [] | false ↦ digits_in k (n / 10) ++ ((n % 10 + 48) ∷ []) ]

-- no number below 2^64 has more than 20
abbrev pub decimal : ℕ → List ℕ
decimal n = digits_in 20 n
