-- Document 01, "Table layout": one record of code, over the bytes of a table; and the words of its arrays, against
-- which an index is tested.
use Rattle.std.specs.Prelude.{ℕ, zero, suc, ◌+◌, ◌-◌, ◌*◌, List, [], ◌∷◌, Bool, length, get_or, ltb, leb, eqb, Result, Ok, Err}
use Rattle.model.specs.Tests.{pick, all}
use Rattle.model.specs.Packing.{packed_in}
use Rattle.model.specs.Records.{length_of}
use Rattle.model.specs.Numbers.{refusal, operation_of}
use Rattle.model.specs.declared.Fault.TheVariants.{TableCut, WrongKind, OutOfRange}
use Rattle.model.specs.declared.Refusal.{Refusal}
use Rattle.model.specs.declared.Sizes.{Sizes}
use Rattle.model.specs.declared.Packed.{Packed}
use Rattle.model.specs.declared.Simple.TheVariants.{Const, Op, Select, Load, Store, Init, Update, Protect, LoadFixed, StoreFixed}
use Rattle.model.specs.declared.Record.{Record}
use Rattle.model.specs.declared.Record.TheVariants.{Do, Call, If, Else, Endif, While, Endwhile, Return}

-- byte p; numbers are unsigned, low byte first
abbrev pub byte : List ℕ → ℕ → ℕ
byte t p = get_or t p 0

abbrev pub word16 : List ℕ → ℕ → ℕ
word16 t p = byte t p + byte t (p + 1) * 256

abbrev pub word32 : List ℕ → ℕ → ℕ
word32 t p = byte t p + byte t (p + 1) * 256 + byte t (p + 2) * 65536 + byte t (p + 3) * 16777216

-- seven bytes: status, registers, arrays
abbrev pub packed_at : List ℕ → ℕ → Packed
packed_at t p = record { status = byte t p; registers = word32 t (p + 1); arrays = word16 t (p + 5) }

-- where the record of array a stands, after the sizes; the words of array a; of the n arrays from a on
abbrev pub array_place : Sizes → ℕ → ℕ
array_place z a = 4 + 3 * a

abbrev pub words_at : Sizes → List ℕ → ℕ → ℕ
words_at z t a = word16 t (array_place z a + 1)

unfoldable pub words_from : Sizes → List ℕ → ℕ → ℕ → List ℕ
words_from z t zero a = []
words_from z t (suc n) a = words_at z t a ∷ words_from z t n (suc a)

-- the first row with key k
abbrev pub find : {A : Type 0} → ℕ → A → List (ℕ × A) → A
find k d [] = d
find k d (r ∷ rs) = pick (eqb k r.0) r.1 (find k d rs)

-- a record of n bytes at `at`, the kind byte counted: cut short is 2, a field out of range 4
abbrev pub shaped : {A : Type 0} → List ℕ → ℕ → ℕ → List Bool → Result A Refusal → Result A Refusal
shaped t at n tests good = pick (ltb (length t - at) n) (Err (refusal TableCut at)) (pick (all tests) good (Err (refusal OutOfRange at)))

-- a row: kind, tests of the fields, the record
abbrev pub Row : Type 0
Row = ℕ × List Bool × Record

-- THE KINDS OF CODE, for the bytes from `at` on: b i is byte i of the record, the kind being byte 0
abbrev pub rows_of : Sizes → List ℕ → ℕ → List Row
rows_of z t at =
    let b : ℕ → ℕ = λ i. byte t (at + i) in
    let reg : ℕ → Bool = λ i. ltb (byte t (at + i)) z.registers in
    let arr : ℕ → Bool = λ i. ltb (byte t (at + i)) z.arrays in
    let bit : ℕ → Bool = λ i. ltb (byte t (at + i)) 2 in
    -- byte i names the array, bytes j and j + 1 the word
    let word : ℕ → ℕ → Bool = λ i j. ltb (word16 t (at + j)) (words_at z t (byte t (at + i))) in
    (0x10, reg 1 ∷ [], Do (Const (b 1) (word32 t (at + 2)))) ∷
    (0x11, reg 1 ∷ ltb (b 2) 8 ∷ reg 3 ∷ reg 4 ∷ [], Do (Op (b 1) (operation_of (b 2)) (b 3) (b 4))) ∷
    (0x12, reg 1 ∷ reg 2 ∷ reg 3 ∷ reg 4 ∷ [], Do (Select (b 1) (b 2) (b 3) (b 4))) ∷
    (0x13, reg 1 ∷ arr 2 ∷ reg 3 ∷ [], Do (Load (b 1) (b 2) (b 3))) ∷
    (0x14, arr 1 ∷ reg 2 ∷ reg 3 ∷ [], Do (Store (b 1) (b 2) (b 3))) ∷
    (0x15, [], Do Init) ∷
    (0x16, reg 1 ∷ bit 2 ∷ [], Do (Update (b 1) (eqb (b 2) 1))) ∷
    (0x17, reg 1 ∷ reg 2 ∷ [], Do (Protect (b 1) (b 2))) ∷
    (0x18, ltb (b 1) z.functions ∷ bit 2 ∷ [], Call (b 1) (eqb (b 2) 1)) ∷
    (0x1B, reg 1 ∷ arr 2 ∷ word 2 3 ∷ [], Do (LoadFixed (b 1) (b 2) (word16 t (at + 3)))) ∷
    (0x1C, arr 1 ∷ word 1 2 ∷ reg 4 ∷ [], Do (StoreFixed (b 1) (word16 t (at + 2)) (b 4))) ∷
    (0x20, reg 1 ∷ [], If (b 1) (word16 t (at + 2))) ∷
    (0x21, [], Else (word16 t (at + 1))) ∷
    (0x22, [], Endif) ∷
    (0x23, reg 1 ∷ packed_in z.registers z.arrays (packed_at t (at + 4)) ∷ [], While (b 1) (word16 t (at + 2)) (packed_at t (at + 4))) ∷
    (0x24, [], Endwhile (word16 t (at + 1))) ∷
    (0x25, [], Return) ∷ []

-- what is read off as a record of code: the record, and the place after it
abbrev pub Decoded : Type 0
Decoded = Result (Record × ℕ) Refusal

-- the record of kind k at `at`, by its row; no row is 3
abbrev pub by_row : List ℕ → ℕ → ℕ → List Row → Decoded
by_row t at k [] = Err (refusal WrongKind at)
by_row t at k (r ∷ rs) = pick (eqb k r.0) (shaped t at (length_of r.2) r.1 (Ok (r.2, at + length_of r.2))) (by_row t at k rs)

unfoldable pub row_at : ℕ → Sizes → List ℕ → ℕ → Decoded
row_at k z t at = by_row t at k (rows_of z t at)

-- a record is due at `at`
unfoldable pub decode_at : Sizes → List ℕ → ℕ → Decoded
decode_at z t at = pick (leb (length t) at) (Err (refusal TableCut at)) (row_at (byte t at) z t at)

-- the length of a record of kind k, by the same rows (what bytes they are over does not count); 0 where there is none
abbrev pub length_in : ℕ → List Row → ℕ
length_in k [] = 0
length_in k (r ∷ rs) = pick (eqb k r.0) (length_of r.2) (length_in k rs)

unfoldable pub code_length : ℕ → ℕ
code_length k = length_in k (rows_of (record { registers = 0; arrays = 0; functions = 0 }) [] 0)
