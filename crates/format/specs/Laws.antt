-- What every decoded record is: of the kind that its byte says, in range, whole in the table.
use Rattle.std.specs.Prelude.{ℕ, zero, suc, ◌+◌, ◌-◌, ◌<◌, ◌≤◌, ◌≡◌, refl, List, [], ◌∷◌, true, length, get_or, ltb, leb, eqb, Ok, Err}
use Rattle.std.proofs.Common.{arith, zero-add, sym, ap, subst, ◌∙◌, ltb-true, ltb-false, leb-false, eqb-true}
use Rattle.model.specs.Tests.{all, Trues, trues, pick_ind}
use Rattle.model.specs.Records.{length_of, Fits, Reaches, Keeps}
use Rattle.model.specs.declared.Sizes.{Sizes}
use Rattle.model.specs.declared.Simple.{Simple}
use Rattle.model.specs.declared.Simple.TheVariants.{Const, Op, Select, Load, Store, Init, Update, Protect, LoadFixed, StoreFixed}
use Rattle.model.specs.declared.Record.{Record}
use Rattle.model.specs.declared.Record.TheVariants.{Do, Call, If, Else, Endif, While, Endwhile, Return}
use Rattle.format.specs.Format.{Decoded, byte, word16, words_at, words_from, Row, rows_of, by_row, row_at, decode_at}

-- the kind byte of a record
abbrev pub simple_kind : Simple → ℕ
simple_kind (Const d v) = 0x10
simple_kind (Op d o l r) = 0x11
simple_kind (Select d c y n) = 0x12
simple_kind (Load d a i) = 0x13
simple_kind (Store a i s) = 0x14
simple_kind Init = 0x15
simple_kind (Update r s) = 0x16
simple_kind (Protect d s) = 0x17
simple_kind (LoadFixed d a i) = 0x1B
simple_kind (StoreFixed a i s) = 0x1C

abbrev pub kind_of : Record → ℕ
kind_of (Do s) = simple_kind s
kind_of (Call f m) = 0x18
kind_of (If r e) = 0x20
kind_of (Else n) = 0x21
kind_of Endif = 0x22
kind_of (While r e L) = 0x23
kind_of (Endwhile w) = 0x24
kind_of Return = 0x25

-- the place that a record names stands in its two bytes
abbrev pub Names : List ℕ → ℕ → Record → Type 0
Names t at (Do s) = Unit {0}
Names t at (Call f m) = Unit {0}
Names t at (If r e) = e ≡ word16 t (at + 2)
Names t at (Else n) = n ≡ word16 t (at + 1)
Names t at Endif = Unit {0}
Names t at (While r e L) = e ≡ word16 t (at + 2)
Names t at (Endwhile w) = w ≡ word16 t (at + 1)
Names t at Return = Unit {0}

-- the words of one array
pub words_in : (z : Sizes) (t : List ℕ) (n b a : ℕ) → a < n → get_or (words_from z t n b) a 0 ≡ words_at z t (b + a)
unfolding words_from
words_in z t zero b a l = absurd (omega arith)
words_in z t (suc n) b zero l = let e : b + 0 ≡ b = omega arith in rw e
words_in z t (suc n) b (suc a) l = let e : b + suc a ≡ suc b + a = omega arith in rw e (words_in z t n (suc b) a (omega arith))

pub words_first : (z : Sizes) (t : List ℕ) (n a : ℕ) → a < n → get_or (words_from z t n 0) a 0 ≡ words_at z t a
words_first z t n a l = words_in z t n 0 a l ∙ ap (words_at z t) (zero-add a)

-- the fields are in range, by the table's sizes and its arrays' words
abbrev Ranged : Sizes → List ℕ → Record → Type 0
Ranged z t r = Fits z.registers z.arrays r × Reaches (words_from z t z.arrays 0) r × Keeps z.registers z.arrays z.functions r

-- a row has its kind, and where its tests hold its fields are in range
abbrev RowFits : Sizes → List ℕ → ℕ → Row → Type 0
RowFits z t at r = (Trues r.1 → Ranged z t r.2) × (kind_of r.2 ≡ r.0) × Names t at r.2

abbrev AllFit : Sizes → List ℕ → ℕ → List Row → Type 0
AllFit z t at [] = Unit {0}
AllFit z t at (r ∷ rs) = RowFits z t at r × AllFit z t at rs

rows_fit : (z : Sizes) (t : List ℕ) (at : ℕ) → AllFit z t at (rows_of z t at)
rows_fit z t at =
    let n = z.registers in
    let m = z.arrays in
    let lt : (i k : ℕ) → ltb (byte t (at + i)) k ≡ true → byte t (at + i) < k = λ i k. ltb-true (byte t (at + i)) k in
    let word : (i j : ℕ) → byte t (at + i) < m → ltb (word16 t (at + j)) (words_at z t (byte t (at + i))) ≡ true → word16 t (at + j) < get_or (words_from z t m 0) (byte t (at + i)) 0 =
    λ i j l h. rw (words_first z t m (byte t (at + i)) l) (ltb-true (word16 t (at + j)) (words_at z t (byte t (at + i))) h) in (
      (λ w. (lt 1 n w.0, tt, tt), refl, tt),
      (
        (λ w. ((lt 1 n w.0, lt 3 n w.1.1.0, lt 4 n w.1.1.1.0), tt, tt), refl, tt),
        (
          (λ w. ((lt 1 n w.0, lt 2 n w.1.0, lt 3 n w.1.1.0, lt 4 n w.1.1.1.0), tt, tt), refl, tt),
          (
            (λ w. ((lt 1 n w.0, lt 2 m w.1.0, lt 3 n w.1.1.0), tt, tt), refl, tt),
            (
              (λ w. ((lt 1 m w.0, lt 2 n w.1.0, lt 3 n w.1.1.0), tt, tt), refl, tt),
              (
                (λ w. (tt, tt, tt), refl, tt),
                (
                  (λ w. (lt 1 n w.0, tt, tt), refl, tt),
                  (
                    (λ w. ((lt 1 n w.0, lt 2 n w.1.0), tt, tt), refl, tt),
                    (
                      (λ w. (tt, tt, lt 1 z.functions w.0), refl, tt),
                      (
                        (λ w. ((lt 1 n w.0, lt 2 m w.1.0), word 2 3 (lt 2 m w.1.0) w.1.1.0, tt), refl, tt),
                        (
                          (λ w. ((lt 1 m w.0, lt 4 n w.1.1.0), word 1 2 (lt 1 m w.0) w.1.0, tt), refl, tt),
                          (
                            (λ w. (lt 1 n w.0, tt, tt), refl, refl),
                            (
                              (λ w. (tt, tt, tt), refl, refl),
                              (
                                (λ w. (tt, tt, tt), refl, tt),
                                (
                                  (λ w. (lt 1 n w.0, tt, w.1.0), refl, refl),
                                  (
                                    (λ w. (tt, tt, tt), refl, refl),
                                    (
                                      (λ w. (tt, tt, tt), refl, tt),
                                      tt,
                                    ),
                                  ),
                                ),
                              ),
                            ),
                          ),
                        ),
                      ),
                    ),
                  ),
                ),
              ),
            ),
          ),
        ),
      ),
    )

-- what is known of a decoded record: its kind, that it is in range and whole in the table, and where the next one is
-- due
pub record Good (z : Sizes) (t : List ℕ) (at : ℕ) (r : Record) (n : ℕ) : Type 0 where
  pub kind : kind_of r ≡ byte t at
  pub fits : Fits z.registers z.arrays r
  pub reaches : Reaches (words_from z t z.arrays 0) r
  pub keeps : Keeps z.registers z.arrays z.functions r
  pub names : Names t at r
  pub next : n ≡ at + length_of r
  pub whole : n ≤ length t

abbrev pub Sound : Sizes → List ℕ → ℕ → Decoded → Type 0
Sound z t at (Ok (r, n)) = Good z t at r n
Sound z t at (Err e) = Unit {0}

rows_sound : (z : Sizes) (t : List ℕ) (at k : ℕ) (rs : List Row) → k ≡ byte t at → at < length t → AllFit z t at rs → Sound z t at (by_row t at k rs)
rows_sound z t at k [] e l f = tt
rows_sound z t at k (r ∷ rs) e l f =
    pick_ind (Sound z t at) (eqb k r.0)
    (λ q. pick_ind (Sound z t at) (ltb (length t - at) (length_of r.2)) (λ _. tt)
    (λ c. let c2 = ltb-false (length t - at) (length_of r.2) c in
    pick_ind (Sound z t at) (all r.1)
    (λ h. record { kind = f.0.1 ∙ sym (eqb-true k r.0 q) ∙ e; fits = (f.0.0 (trues r.1 h)).0; reaches = (f.0.0 (trues r.1 h)).1; keeps = (f.0.0 (trues r.1 h)).2; names = f.0.2; next = refl; whole = omega arith })
    (λ _. tt)))
    (λ _. rows_sound z t at k rs e l f.1)

pub decode_sound : (z : Sizes) (t : List ℕ) (at : ℕ) → Sound z t at (decode_at z t at)
unfolding decode_at row_at
decode_sound z t at =
    pick_ind (Sound z t at) (leb (length t) at) (λ _. tt)
    (λ e. rows_sound z t at (byte t at) (rows_of z t at) refl (leb-false (length t) at e) (rows_fit z t at))

pub good : (z : Sizes) (t : List ℕ) (at : ℕ) {r : Record} {n : ℕ} → decode_at z t at ≡ Ok (r, n) → Good z t at r n
good z t at e = subst (Sound z t at) e (decode_sound z t at)
