-- Document 01: the check program's one line, "accepted F functions B bytes" or "refused N at P".
use Rattle.std.specs.Prelude.{ℕ, List, [], ◌∷◌, ◌++◌, Result, Ok, Err}
use Rattle.model.specs.Numbers.{fault_number}
use Rattle.typing.specs.declared.Accepted.{Accepted}
use Rattle.typing.specs.Check.{Verdict}
use Rattle.report.specs.Text.{decimal}

-- "accepted ", " functions ", " bytes" and the end of the line
abbrev pub accepted : List ℕ
accepted = 97 ∷ 99 ∷ 99 ∷ 101 ∷ 112 ∷ 116 ∷ 101 ∷ 100 ∷ 32 ∷ []

abbrev pub functions : List ℕ
functions = 32 ∷ 102 ∷ 117 ∷ 110 ∷ 99 ∷ 116 ∷ 105 ∷ 111 ∷ 110 ∷ 115 ∷ 32 ∷ []

abbrev pub bytes : List ℕ
bytes = 32 ∷ 98 ∷ 121 ∷ 116 ∷ 101 ∷ 115 ∷ 10 ∷ []

abbrev pub refused : List ℕ
refused = 114 ∷ 101 ∷ 102 ∷ 117 ∷ 115 ∷ 101 ∷ 100 ∷ 32 ∷ []

abbrev pub at : List ℕ
at = 32 ∷ 97 ∷ 116 ∷ 32 ∷ []

abbrev pub end : List ℕ
end = 10 ∷ []

-- a verdict as its line says it: the fault by its number
abbrev pub Told : Type 0
Told = Result Accepted (ℕ × ℕ)

abbrev pub told : Verdict → Told
told (Ok a) = Ok a
told (Err e) = Err (fault_number e.fault, e.place)

abbrev pub line_of : Told → List ℕ
line_of (Ok a) = accepted ++ (decimal a.functions ++ (functions ++ (decimal a.bytes ++ bytes)))
line_of (Err (n, p)) = refused ++ (decimal n ++ (at ++ (decimal p ++ end)))
