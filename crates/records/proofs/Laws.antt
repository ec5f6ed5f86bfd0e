-- What the rows say of a record that is due, in the order in which it is tested.
use Rattle.std.specs.Prelude.{ℕ, ◌+◌, ◌-◌, ◌<◌, ◌≤◌, ◌≡◌, refl, Bool, true, false, List, [], ◌∷◌, length, eqb, ltb, leb, Result, Ok, Err}
use Rattle.std.proofs.Common.{arith, sym, le-leb}
use Rattle.std.proofs.lemmas.Bool.{ne_eqb}
use Rattle.model.specs.Tests.{pick, all, test}
use Rattle.model.specs.Numbers.{refusal, then}
use Rattle.model.specs.Records.{length_of, length_pos}
use Rattle.model.specs.declared.Fault.TheVariants.{TableCut, WrongKind, OutOfRange}
use Rattle.model.specs.declared.Refusal.{Refusal}
use Rattle.model.specs.declared.Sizes.{Sizes}
use Rattle.model.specs.declared.Record.{Record}
use Rattle.model.specs.declared.Record.TheVariants.{Return}
use Rattle.format.specs.Format.{byte, shaped, Decoded, Row, rows_of, by_row, row_at, decode_at, length_in, code_length}
use Rattle.format.specs.Laws.{good}
use Rattle.format.specs.Layout.{record_of, next_of, record_got, record_bad, next_on, next_end}
use Rattle.records.specs.Kinds.{tested, fields_in, fields_of}

-- a record of n bytes with these fields; 0 bytes where no kind is known
abbrev by_length : List ℕ → ℕ → ℕ → Result Record Refusal → Decoded
by_length t at n f = pick (eqb n 0) (Err (refusal WrongKind at)) (pick (ltb (length t - at) n) (Err (refusal TableCut at)) (then f (λ (r : Record). Ok (r, at + n))))

one_row : (t : List ℕ) (at n : ℕ) (b : Bool) (r : Record) → 1 ≤ n → pick (ltb (length t - at) n) (Err (refusal TableCut at)) (pick b (Ok (r, at + n)) (Err (refusal OutOfRange at))) ≡ by_length t at n (tested at b r)
one_row t at n true r p = rw (ne_eqb n 0 (λ e. omega arith)) refl
one_row t at n false r p = rw (ne_eqb n 0 (λ e. omega arith)) refl

rows : (t : List ℕ) (at k : ℕ) (rs : List Row) → by_row t at k rs ≡ by_length t at (length_in k rs) (fields_in at k rs)
rows t at k [] = refl
rows t at k (r ∷ rs) =
    test (eqb k r.0)
    (λ b. pick b (shaped t at (length_of r.2) r.1 (Ok (r.2, at + length_of r.2))) (by_row t at k rs) ≡ by_length t at (pick b (length_of r.2) (length_in k rs)) (pick b (tested at (all r.1) r.2) (fields_in at k rs)))
    (λ _. one_row t at (length_of r.2) (all r.1) r.2 (length_pos r.2))
    (λ _. rows t at k rs)

pub decode_by : (z : Sizes) (t : List ℕ) (at : ℕ) → decode_at z t at ≡ pick (leb (length t) at) (Err (refusal TableCut at)) (by_length t at (code_length (byte t at)) (fields_of (byte t at) z t at))
unfolding code_length row_at decode_at fields_of
decode_by z t at = rw (rows t at (byte t at) (rows_of z t at)) refl

-- the record that is read, and where the next one is due
pub record_past : (z : Sizes) (t : List ℕ) (at : ℕ) → length t ≤ at → record_of z t at ≡ Return
unfolding decode_at
record_past z t at l = record_bad z t at {x = refusal TableCut at} (rw (le-leb (length t) at l) refl)

pub next_got : (z : Sizes) (t : List ℕ) (at : ℕ) (r : Record) (n : ℕ) → at < length t → decode_at z t at ≡ Ok (r, n) → next_of z t at ≡ n
next_got z t at r n l h = rw (next_on z t at l, record_got z t at h) (sym (good z t at h).next)

pub ruleset met = (record_past, next_got, record_got, record_bad, next_on, next_end)
