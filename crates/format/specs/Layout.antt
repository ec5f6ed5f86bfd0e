-- Document 01, "Table layout": the whole table. Sizes, the arrays, the signatures, then the functions in order,
-- touching.
use Rattle.std.specs.Prelude.{ℕ, zero, suc, ◌+◌, ◌-◌, ◌*◌, ◌<◌, ◌≤◌, ◌≡◌, refl, List, length, eqb, ltb, Ok, Err}
use Rattle.std.proofs.Common.{ap, lt-ltb, le-ltb}
use Rattle.model.specs.Tests.{pick}
use Rattle.model.specs.Packing.{env_of}
use Rattle.model.specs.Records.{length_of, Fits, Reaches, Keeps}
use Rattle.model.specs.Table.{Table}
use Rattle.model.specs.declared.Refusal.{Refusal}
use Rattle.model.specs.declared.Sizes.{Sizes}
use Rattle.model.specs.declared.Packed.{Packed}
use Rattle.model.specs.declared.Record.{Record}
use Rattle.model.specs.declared.Record.TheVariants.{Return}
use Rattle.format.specs.Format.{Decoded, byte, word16, packed_at, array_place, words_from, decode_at}
use Rattle.format.specs.Laws.{good}

-- bytes 1 to 3
abbrev pub sizes_of : List ℕ → Sizes
sizes_of t = record { registers = byte t 1; arrays = byte t 2; functions = byte t 3 }

-- where function f's signature stands, after the arrays: kind, start place, in, out
abbrev pub signature_place : Sizes → ℕ → ℕ
signature_place z f = array_place z z.arrays + 17 * f

abbrev pub start_of : Sizes → List ℕ → ℕ → ℕ
start_of z t f = word16 t (signature_place z f + 1)

abbrev pub in_of : Sizes → List ℕ → ℕ → Packed
in_of z t f = packed_at t (signature_place z f + 3)

abbrev pub out_of : Sizes → List ℕ → ℕ → Packed
out_of z t f = packed_at t (signature_place z f + 10)

-- the record at p; where none can be read, RETURN stands for it
abbrev pub record_from : Decoded → Record
record_from (Ok (r, n)) = r
record_from (Err e) = Return

unfoldable pub record_of : Sizes → List ℕ → ℕ → Record
record_of z t p = record_from (decode_at z t p)

-- where the record after the one at p is due; from the table's end on, no further
unfoldable pub next_of : Sizes → List ℕ → ℕ → ℕ
next_of z t p = pick (ltb p (length t)) (p + length_of (record_of z t p)) p

-- function f ends one byte before the next begins; the last, with the table
unfoldable pub return_of : Sizes → List ℕ → ℕ → ℕ
return_of z t f = pick (eqb (f + 1) z.functions) (length t) (start_of z t (f + 1)) - 1

pub words_count : (z : Sizes) (t : List ℕ) (n a : ℕ) → length (words_from z t n a) ≡ n
unfolding words_from
words_count z t zero a = refl
words_count z t (suc n) a = rw (words_count z t n (suc a))

-- the record at p by what is decoded there
pub record_got : (z : Sizes) (t : List ℕ) (p : ℕ) {r : Record} {n : ℕ} → decode_at z t p ≡ Ok (r, n) → record_of z t p ≡ r
unfolding record_of
record_got z t p e = ap record_from e

pub record_bad : (z : Sizes) (t : List ℕ) (p : ℕ) {x : Refusal} → decode_at z t p ≡ Err x → record_of z t p ≡ Return
unfolding record_of
record_bad z t p e = ap record_from e

-- a loop over the code goes on by it
pub next_on : (z : Sizes) (t : List ℕ) (p : ℕ) → p < length t → next_of z t p ≡ p + length_of (record_of z t p)
unfolding next_of
next_on z t p l = rw (lt-ltb p (length t) l) refl

pub next_end : (z : Sizes) (t : List ℕ) (p : ℕ) → length t ≤ p → next_of z t p ≡ p
unfolding next_of
next_end z t p l = rw (le-ltb p (length t) l) refl

-- what holds of RETURN, and of whatever is decoded at p, holds of the record there
pub record_by : (P : Record → Type 0) (z : Sizes) (t : List ℕ) (p : ℕ) → P Return → ((r : Record) (n : ℕ) → decode_at z t p ≡ Ok (r, n) → P r) → P (record_of z t p)
unfolding record_of
record_by P z t p h g = go (decode_at z t p) refl
  where
    go : (d : Decoded) → decode_at z t p ≡ d → P (record_from d)
    go (Ok (r, n)) e = g r n e
    go (Err x) e = h

pub record_fits : (z : Sizes) (t : List ℕ) (p : ℕ) → Fits z.registers z.arrays (record_of z t p)
record_fits z t p = record_by (Fits z.registers z.arrays) z t p tt (λ r n e. (good z t p e).fits)

pub record_reaches : (z : Sizes) (t : List ℕ) (p : ℕ) → Reaches (words_from z t z.arrays 0) (record_of z t p)
record_reaches z t p = record_by (Reaches (words_from z t z.arrays 0)) z t p tt (λ r n e. (good z t p e).reaches)

pub record_keeps : (z : Sizes) (t : List ℕ) (p : ℕ) → Keeps z.registers z.arrays z.functions (record_of z t p)
record_keeps z t p = record_by (Keeps z.registers z.arrays z.functions) z t p tt (λ r n e. (good z t p e).keeps)

-- THE TABLE that bytes stand for, by the sizes z; and by their own sizes
abbrev pub table_with : Sizes → List ℕ → Table
table_with z t = record {
  rec = record_of z t;
  registers = z.registers;
  arrays = z.arrays;
  words = words_from z t z.arrays 0;
  counted = words_count z t z.arrays 0;
  fits = record_fits z t;
  reaches = record_reaches z t;
  functions = z.functions;
  keeps = record_keeps z t;
  start = start_of z t;
  ret = return_of z t;
  enter = λ f. env_of (in_of z t f);
  leave = λ f. env_of (out_of z t f);
  size = length t;
}

abbrev pub table_of : List ℕ → Table
table_of t = table_with (sizes_of t) t
