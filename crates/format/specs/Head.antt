-- Document 01, "Table layout": the records before the code. Faults 2, 3, 4 and, at the entry's signature, 8.
use Rattle.std.specs.Prelude.{ℕ, zero, suc, ◌+◌, List, [], ◌∷◌, Bool, length, leb, eqb, Result, Ok, Err}
use Rattle.model.specs.Tests.{pick, all}
use Rattle.model.specs.Packing.{packed_in}
use Rattle.model.specs.declared.Sizes.{Sizes}
use Rattle.model.specs.Numbers.{refusal, then}
use Rattle.model.specs.declared.Fault.TheVariants.{TableCut, WrongKind, EntryUpdated}
use Rattle.model.specs.declared.Refusal.{Refusal}
use Rattle.format.specs.Format.{byte, word16, packed_at, shaped}

-- a record of kind k and n bytes is due at `at`
abbrev pub due_at : {A : Type 0} → ℕ → List ℕ → ℕ → ℕ → List Bool → Result A Refusal → Result A Refusal
due_at k t at n tests good = pick (leb (length t) at) (Err (refusal TableCut at)) (pick (eqb (byte t at) k) (shaped t at n tests good) (Err (refusal WrongKind at)))

-- where the next record is due
abbrev pub To : Type 0
To = Result ℕ Refusal

-- registers 1..16, arrays 0..8, functions 1..32
unfoldable pub sizes_at : List ℕ → ℕ → To
sizes_at t at =
    let b : ℕ → ℕ = λ i. byte t (at + i) in
    due_at 1 t at 4 (leb 1 (b 1) ∷ leb (b 1) 16 ∷ leb (b 2) 8 ∷ leb 1 (b 3) ∷ leb (b 3) 32 ∷ []) (Ok (at + 4))

-- words 1..1024
unfoldable pub array_at : List ℕ → ℕ → To
array_at t at = due_at 2 t at 3 (leb 1 (word16 t (at + 1)) ∷ leb (word16 t (at + 1)) 1024 ∷ []) (Ok (at + 3))

-- a signature that n others follow: the last is the entry's, and its in status is to be unknown
unfoldable pub signature_at : Sizes → List ℕ → ℕ → ℕ → To
signature_at z t n at =
    let fits : ℕ → Bool = λ p. packed_in z.registers z.arrays (packed_at t p) in
    due_at 3 t at 17 (fits (at + 3) ∷ fits (at + 10) ∷ []) (pick (all (eqb n 0 ∷ leb 1 (byte t (at + 3)) ∷ [])) (Err (refusal EntryUpdated at)) (Ok (at + 17)))

unfoldable pub arrays_at : List ℕ → ℕ → ℕ → To
arrays_at t zero at = Ok at
arrays_at t (suc n) at = then (array_at t at) (arrays_at t n)

unfoldable pub signatures_at : Sizes → List ℕ → ℕ → ℕ → To
signatures_at z t zero at = Ok at
signatures_at z t (suc n) at = then (signature_at z t n at) (signatures_at z t n)
