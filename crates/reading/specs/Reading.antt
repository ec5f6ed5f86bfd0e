-- Document 01, "Numbers given back", 1 to 9: number 1, then a forward reading that ends at the first fault.
use Rattle.std.specs.Prelude.{ℕ, zero, suc, ◌+◌, ◌-◌, List, [], ◌∷◌, Bool, true, length, ltb, leb, eqb, Result, Ok, Err}
use Rattle.model.specs.Tests.{pick}
use Rattle.model.specs.Numbers.{refusal, then}
use Rattle.model.specs.declared.Fault.TheVariants.{TableTooLong, TableCut, WrongKind, WrongPlace, TooDeep, CallNotLower, BytesAfterEnd}
use Rattle.model.specs.declared.Refusal.{Refusal}
use Rattle.model.specs.declared.Sizes.{Sizes}
use Rattle.model.specs.declared.Record.{Record}
use Rattle.model.specs.declared.Record.TheVariants.{Do, Call, If, Else, Endif, While, Endwhile, Return}
use Rattle.model.specs.declared.Walked.{Walked}
use Rattle.model.specs.declared.Walked.TheVariants.{Next, Shut}
use Rattle.format.specs.Format.{Decoded, byte, word16, find, decode_at}
use Rattle.format.specs.Layout.{sizes_of, start_of}
use Rattle.format.specs.Head.{To, sizes_at, arrays_at, signatures_at}
use Rattle.reading.specs.declared.code.Closing.{Closing}

-- ---- THE CODE. The closing kinds
abbrev pub closing_byte : Closing → ℕ
closing_byte Closing.Else = 0x21
closing_byte Closing.Endif = 0x22
closing_byte Closing.Endwhile = 0x24
closing_byte Closing.Return = 0x25

-- a closing kind is allowed only where it is the closing kind c that is awaited
unfoldable pub allowed : ℕ → ℕ → Bool
allowed c k = find k true ((0x21, eqb c 0x21) ∷ (0x22, eqb c 0x22) ∷ (0x24, eqb c 0x24) ∷ (0x25, eqb c 0x25) ∷ [])

unfoldable pub record_at : Sizes → List ℕ → ℕ → ℕ → Decoded
record_at z t c at = pick (leb (length t) at) (Err (refusal TableCut at)) (pick (allowed c (byte t at)) (decode_at z t at) (Err (refusal WrongKind at)))

-- a CALL of f in function `cur`: only of a lower one
unfoldable pub call_at : ℕ → ℕ → ℕ → ℕ → Result Walked Refusal
call_at cur at next f = pick (ltb f cur) (Ok (Next next)) (Err (refusal CallNotLower at))

-- the place met is the place named; else the later record, at p, is at fault
abbrev pub met : {A : Type 0} → ℕ → ℕ → ℕ → Result A Refusal → Result A Refusal
met a b p w = pick (eqb a b) w (Err (refusal WrongPlace p))

-- IF, whose ELSE is to stand at e. B reads a block, given the closing kind that it awaits and where it begins
unfoldable pub if_with : (ℕ → ℕ → To) → List ℕ → ℕ → ℕ → Result Walked Refusal
if_with B t next e = then (B 0x21 next) λ p. met p e p (then (B 0x22 (p + 3)) λ q. met q (word16 t (p + 1)) q (Ok (Next (q + 1))))

-- the WHILE at `at`, whose ENDWHILE is to stand at e
unfoldable pub while_with : (ℕ → ℕ → To) → List ℕ → ℕ → ℕ → ℕ → Result Walked Refusal
while_with B t at next e = then (B 0x24 next) λ p. met p e p (met (word16 t (p + 1)) at p (Ok (Next (p + 3))))

-- the record at `at`, with the place after it
abbrev pub read_with : (ℕ → ℕ → To) → ℕ → List ℕ → ℕ → Record × ℕ → Result Walked Refusal
read_with B cur t at (Do s, next) = Ok (Next next)
read_with B cur t at (Call f m, next) = call_at cur at next f
read_with B cur t at (If r e, next) = if_with B t next e
read_with B cur t at (Else n, next) = Ok (Shut at)
read_with B cur t at (Endif, next) = Ok (Shut at)
read_with B cur t at (While r e L, next) = while_with B t at next e
read_with B cur t at (Endwhile w, next) = Ok (Shut at)
read_with B cur t at (Return, next) = Ok (Shut at)

-- past a record by g; a record that closes ends the block
abbrev pub onward : (ℕ → To) → Walked → To
onward g (Next p) = g p
onward g (Shut p) = Ok p

-- records by f until one shuts the block; k bounds their number
unfoldable pub block_with : (ℕ → Result Walked Refusal) → ℕ → ℕ → To
block_with f zero at = Err (refusal TableCut at)
block_with f (suc k) at = then (f at) (onward (block_with f k))

-- an instruction of function `cur` with d nestings left, c being the closing kind awaited
unfoldable pub instr_at : ℕ → ℕ → Sizes → List ℕ → ℕ → ℕ → Result Walked Refusal
instr_at zero cur z t c at = then (record_at z t c at) (read_with (λ _ _. Err (refusal TooDeep at)) cur t at)
instr_at (suc d) cur z t c at = then (record_at z t c at) (read_with (λ k. block_with (instr_at d cur z t k) (length t)) cur t at)

unfoldable pub block_at : ℕ → ℕ → Sizes → List ℕ → ℕ → ℕ → To
block_at d cur z t c = block_with (instr_at d cur z t c) (length t)

-- the blocks of the record at `at`, with d nestings left
abbrev pub blocks_at : ℕ → ℕ → Sizes → List ℕ → ℕ → ℕ → ℕ → To
blocks_at zero cur z t at c x = Err (refusal TooDeep at)
blocks_at (suc d) cur z t at c x = block_at d cur z t c x

-- function i begins at `at`: its first record's 3, 2, 4, then its start place, then all of it up to its RETURN
unfoldable pub function_at : Sizes → List ℕ → ℕ → ℕ → To
function_at z t i at = then (record_at z t 0x25 at) λ _. met at (start_of z t i) at (then (block_at 16 i z t 0x25 at) λ p. Ok (p + 1))

-- the last n functions, and nothing after them
unfoldable pub functions_at : Sizes → List ℕ → ℕ → ℕ → To
functions_at z t zero at = pick (eqb at (length t)) (Ok at) (Err (refusal BytesAfterEnd at))
functions_at z t (suc n) at = then (function_at z t (z.functions - suc n) at) (functions_at z t n)

-- ---- THE TABLE
unfoldable pub parts_at : Sizes → List ℕ → To
parts_at z t = then (sizes_at t 0) (λ p. then (arrays_at t z.arrays p) (λ q. then (signatures_at z t z.functions q) (functions_at z t z.functions)))

unfoldable pub read_at : List ℕ → Result Sizes Refusal
read_at t = pick (ltb 32768 (length t)) (Err (refusal TableTooLong 0)) (then (parts_at (sizes_of t) t) (λ _. Ok (sizes_of t)))
