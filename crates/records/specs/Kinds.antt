-- Document 01, "Table layout": the kinds of code, and what a record of each kind says once all its bytes are there.
use Rattle.std.specs.Prelude.{ℕ, ◌+◌, Bool, List, [], ◌∷◌, eqb, ltb, Result, Ok, Err}
use Rattle.model.specs.Tests.{pick, all}
use Rattle.model.specs.Numbers.{refusal, operation_of}
use Rattle.model.specs.declared.Fault.TheVariants.{WrongKind, OutOfRange}
use Rattle.model.specs.declared.Operation.{Operation}
use Rattle.model.specs.declared.Refusal.{Refusal}
use Rattle.model.specs.declared.Sizes.{Sizes}
use Rattle.model.specs.declared.Record.{Record}
use Rattle.format.specs.Format.{byte, word16, words_at, Row, rows_of}
use Rattle.records.specs.declared.Kind.{Kind}
use Rattle.records.specs.declared.Kind.TheVariants.{Const, Op, Select, Load, Store, Init, Update, Protect, Call, LoadFixed, StoreFixed, If, Else, Endif, While, Endwhile, Return}

-- the kind byte of a kind
abbrev pub kind_byte : Kind → ℕ
kind_byte Const = 0x10
kind_byte Op = 0x11
kind_byte Select = 0x12
kind_byte Load = 0x13
kind_byte Store = 0x14
kind_byte Init = 0x15
kind_byte Update = 0x16
kind_byte Protect = 0x17
kind_byte Call = 0x18
kind_byte LoadFixed = 0x1B
kind_byte StoreFixed = 0x1C
kind_byte If = 0x20
kind_byte Else = 0x21
kind_byte Endif = 0x22
kind_byte While = 0x23
kind_byte Endwhile = 0x24
kind_byte Return = 0x25

-- what a test lets through of the record at `at`
abbrev pub tested : {A : Type 0} → ℕ → Bool → A → Result A Refusal
tested at b x = pick b (Ok x) (Err (refusal OutOfRange at))

-- byte i of the record at `at`: below n; a bit; an operation; and bytes i and i + 1, the index of a word of array a
abbrev pub byte_below : List ℕ → ℕ → ℕ → ℕ → Result ℕ Refusal
byte_below t at i n = tested at (ltb (byte t (at + i)) n) (byte t (at + i))

abbrev pub bit_at : List ℕ → ℕ → ℕ → Result Bool Refusal
bit_at t at i = tested at (ltb (byte t (at + i)) 2) (eqb (byte t (at + i)) 1)

abbrev pub operation_at : List ℕ → ℕ → ℕ → Result Operation Refusal
operation_at t at i = tested at (ltb (byte t (at + i)) 8) (operation_of (byte t (at + i)))

abbrev pub index_at : Sizes → List ℕ → ℕ → ℕ → ℕ → Result ℕ Refusal
index_at z t at a i = tested at (ltb (word16 t (at + i)) (words_at z t a)) (word16 t (at + i))

-- the record of kind k at `at`, by its row, with no look at its length
abbrev pub fields_in : ℕ → ℕ → List Row → Result Record Refusal
fields_in at k [] = Err (refusal WrongKind at)
fields_in at k (r ∷ rs) = pick (eqb k r.0) (tested at (all r.1) r.2) (fields_in at k rs)

unfoldable pub fields_of : ℕ → Sizes → List ℕ → ℕ → Result Record Refusal
fields_of k z t at = fields_in at k (rows_of z t at)
