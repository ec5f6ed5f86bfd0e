-- Document 01, "Numbers given back": what a fault message shows, "the record's own bytes, a part of the table or of the
-- directive list, whichever holds it".
use Rattle.std.specs.Prelude.{ℕ, ◌+◌, ◌-◌, ◌≤◌, min, List, [], ◌∷◌, length, leb, eqb}
use Rattle.std.proofs.Common.{arith}
use Rattle.model.specs.Tests.{pick, all, pick_ind}
use Rattle.format.specs.Format.{byte, find, code_length}
use Rattle.message.specs.declared.Part.{Part}
use Rattle.message.specs.declared.Part.TheVariants.{Table}

-- the length of a record, by its kind: of the head, or of code
abbrev pub kind_length : ℕ → ℕ
kind_length k = find k (code_length k) ((1, 4) ∷ (2, 3) ∷ (3, 17) ∷ [])

-- the bytes of a directive, by its kind: 60 plain, 61 branch, 62 stray access, 63 return. Of an unknown one only the
-- kind shows
abbrev pub directive_length : ℕ → ℕ
directive_length k = find k 1 ((0x60, 1) ∷ (0x61, 2) ∷ (0x62, 4) ∷ (0x63, 3) ∷ [])

-- fault n at p, of the table: the kind byte only for 3; the rest for a cut record or 9; else the record
abbrev pub table_count : List ℕ → ℕ → ℕ → ℕ
table_count t n p = find n (kind_length (byte t p)) ((2, length t - p) ∷ (3, 1) ∷ (9, length t - p) ∷ [])

-- the part of s from p on, of at most k bytes
abbrev pub clipped : (ℕ → ℕ → Part) → List ℕ → ℕ → ℕ → Part
clipped in-which s p k = in-which (min p (length s)) (min k (length s - p))

-- number n at place p: 2 to 14 lie in the table, 16 in the list unless it is over-long. All else (1, 15, a pass, a
-- stop) shows the empty part at the table's start
unfoldable pub part_of : List ℕ → List ℕ → ℕ → ℕ → Part
part_of t d n p =
    pick (all (leb 2 n ∷ leb n 14 ∷ [])) (clipped Table t p (table_count t n p))
    (pick (all (eqb n 16 ∷ leb (length d) 16384 ∷ [])) (clipped Part.List d p (directive_length (byte d p))) (Table 0 0))

-- a part lies in its slice
abbrev pub Lies : List ℕ → List ℕ → Part → Type 0
Lies t d (Table a k) = a + k ≤ length t
Lies t d (Part.List a k) = a + k ≤ length d

pub part_lies : (t d : List ℕ) (n p : ℕ) → Lies t d (part_of t d n p)
unfolding part_of
part_lies t d n p =
    pick_ind (Lies t d) (all (leb 2 n ∷ leb n 14 ∷ [])) (λ _. omega arith)
    (λ _. pick_ind (Lies t d) (all (eqb n 16 ∷ leb (length d) 16384 ∷ [])) (λ _. omega arith) (λ _. omega arith))
