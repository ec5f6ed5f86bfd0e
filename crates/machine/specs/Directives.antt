-- Document 01, "The machine": directives and observations as bytes, and number 16.
use Rattle.std.specs.Prelude.{ℕ, zero, suc, ◌+◌, ◌-◌, ◌/◌, ◌%◌, List, [], ◌∷◌, ◌++◌, length, eqb, leb, ltb, Option, Some, None, Result, Ok, Err}
use Rattle.model.specs.Tests.{pick}
use Rattle.model.specs.Numbers.{refusal}
use Rattle.model.specs.declared.Fault.TheVariants.{BadList}
use Rattle.model.specs.declared.Refusal.{Refusal}
use Rattle.model.specs.declared.Directive.{Directive}
use Rattle.model.specs.declared.Directive.TheVariants.{Plain, Branch, Stray, Back}
use Rattle.model.specs.declared.Observation.{Observation}
use Rattle.model.specs.declared.Observation.TheVariants.{Nothing, Way, Address}
use Rattle.format.specs.Format.{byte, word16, find}

-- a directive and the place after it in the list; nothing where there is a bad one
abbrev pub Told : Type 0
Told = Option (Directive × ℕ)

-- a list without fault, or 16 and where the first bad directive begins
abbrev pub Listed : Type 0
Listed = Result (Unit {0}) Refusal

-- 61 branch, 1 byte 0/1; 62 stray access, array 1, index 2; 63 return, place 2. Cut short, or a branch byte over 1,
-- is bad
unfoldable pub branch_at : List ℕ → ℕ → Told
branch_at d at = pick (ltb (length d - at) 2) None (pick (ltb (byte d (at + 1)) 2) (Some (Branch (eqb (byte d (at + 1)) 1), at + 2)) None)

unfoldable pub stray_at : List ℕ → ℕ → Told
stray_at d at = pick (ltb (length d - at) 4) None (Some (Stray (byte d (at + 1)) (word16 d (at + 2)), at + 4))

unfoldable pub back_at : List ℕ → ℕ → Told
back_at d at = pick (ltb (length d - at) 3) None (Some (Back (word16 d (at + 1)), at + 3))

-- 60 is plain; an unknown kind is bad
unfoldable pub directive_at : List ℕ → ℕ → Told
directive_at d at = find (byte d at) None ((0x60, Some (Plain, at + 1)) ∷ (0x61, branch_at d at) ∷ (0x62, stray_at d at) ∷ (0x63, back_at d at) ∷ [])

abbrev pub on_told : {A : Type 0} → Told → (Directive → ℕ → A) → A → A
on_told (Some (d, next)) g b = g d next
on_told None g b = b

-- the first bad directive from `at` on; k bounds their number
unfoldable pub list_from : ℕ → List ℕ → ℕ → Listed
list_from zero d at = Ok tt
list_from (suc k) d at = pick (leb (length d) at) (Ok tt) (on_told (directive_at d at) (λ _ next. list_from k d next) (Err (refusal BadList at)))

-- 16: over 16,384 bytes (place 0, tested first); else the first bad directive
unfoldable pub list_at : List ℕ → Listed
list_at d = pick (ltb 16384 (length d)) (Err (refusal BadList 0)) (list_from (length d) d 0)

-- the directives from `at` on
unfoldable pub directives_from : ℕ → List ℕ → ℕ → List Directive
directives_from zero d at = []
directives_from (suc k) d at = pick (leb (length d) at) [] (on_told (directive_at d at) (λ x next. x ∷ directives_from k d next) [])

abbrev pub directives_of : List ℕ → List Directive
directives_of d = directives_from (length d) d 0

-- 70 nothing; 71 branch, 1 byte; 72 address, array 1, index 4
abbrev pub bytes_of : Observation → List ℕ
bytes_of Nothing = 0x70 ∷ []
bytes_of (Way b) = 0x71 ∷ pick b 1 0 ∷ []
bytes_of (Address a i) = 0x72 ∷ a ∷ i % 256 ∷ i / 256 % 256 ∷ i / 65536 % 256 ∷ i / 16777216 % 256 ∷ []

unfoldable pub all_bytes : List Observation → List ℕ
all_bytes [] = []
all_bytes (o ∷ os) = bytes_of o ++ all_bytes os
