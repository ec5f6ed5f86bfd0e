-- An OP that is read has one of the eight operations: its byte is 0 to 7.
use Rattle.std.specs.Prelude.{ℕ, ◌+◌, ◌-◌, ◌<◌, ◌≡◌, List, [], ◌∷◌, length, ltb, leb, eqb, Ok, Err}
use Rattle.std.proofs.Common.{subst, ltb-true}
use Rattle.model.specs.Tests.{all, Trues, trues, pick_ind}
use Rattle.model.specs.Records.{length_of}
use Rattle.model.specs.declared.Sizes.{Sizes}
use Rattle.model.specs.declared.Simple.TheVariants.{Op}
use Rattle.model.specs.declared.Record.{Record}
use Rattle.model.specs.declared.Record.TheVariants.{Do}
use Rattle.format.specs.Format.{Decoded, byte, Row, rows_of, by_row, row_at, decode_at}

-- the byte of an OP's operation is one of 0 to 7
abbrev pub Operates : List ℕ → ℕ → Record → Type 0
Operates t at (Do (Op d o l r)) = byte t (at + 2) < 8
Operates t at r = Unit {0}

abbrev AllOperate : List ℕ → ℕ → List Row → Type 0
AllOperate t at [] = Unit {0}
AllOperate t at (r ∷ rs) = (Trues r.1 → Operates t at r.2) × AllOperate t at rs

rows_operate : (z : Sizes) (t : List ℕ) (at : ℕ) → AllOperate t at (rows_of z t at)
rows_operate z t at =
    (λ _. tt, (λ w. ltb-true (byte t (at + 2)) 8 w.1.0, (λ _. tt, (λ _. tt, (λ _. tt, (λ _. tt, (λ _. tt, (λ _. tt, (λ _. tt, (λ _. tt, (λ _. tt, (λ _. tt, (λ _. tt, (λ _. tt, (λ _. tt, (λ _. tt, (λ _. tt, tt)))))))))))))))))

abbrev Held : List ℕ → ℕ → Decoded → Type 0
Held t at (Ok (r, n)) = Operates t at r
Held t at (Err e) = Unit {0}

held : (t : List ℕ) (at k : ℕ) (rs : List Row) → AllOperate t at rs → Held t at (by_row t at k rs)
held t at k [] f = tt
held t at k (r ∷ rs) f =
    pick_ind (Held t at) (eqb k r.0)
    (λ _. pick_ind (Held t at) (ltb (length t - at) (length_of r.2)) (λ _. tt)
    (λ _. pick_ind (Held t at) (all r.1) (λ h. f.0 (trues r.1 h)) (λ _. tt)))
    (λ _. held t at k rs f.1)

pub operates : (z : Sizes) (t : List ℕ) (at : ℕ) {r : Record} {n : ℕ} → decode_at z t at ≡ Ok (r, n) → Operates t at r
unfolding decode_at row_at
operates z t at e =
    subst (Held t at) e
    (pick_ind (Held t at) (leb (length t) at) (λ _. tt) (λ _. held t at (byte t at) (rows_of z t at) (rows_operate z t at)))
