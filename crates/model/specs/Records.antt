-- Document 01, "Table layout": the records of code, decoded.
use Rattle.std.specs.Prelude.{ℕ, ◌≤◌, ◌<◌, ◌≡◌, Bool, true, List, get_or}
use Rattle.std.proofs.Common.{arith}
use Rattle.model.specs.Packing.{packed_in}
use Rattle.model.specs.declared.Simple.{Simple}
use Rattle.model.specs.declared.Simple.TheVariants.{Const, Op, Select, Load, Store, Init, Update, Protect, LoadFixed, StoreFixed}
use Rattle.model.specs.declared.Record.{Record}
use Rattle.model.specs.declared.Record.TheVariants.{Do, Call, If, Else, Endif, While, Endwhile, Return}

-- bytes of a record, the kind byte counted
abbrev pub simple_length : Simple → ℕ
simple_length (Const d v) = 6
simple_length (Op d o l r) = 5
simple_length (Select d c y n) = 5
simple_length (Load d a i) = 4
simple_length (Store a i s) = 4
simple_length Init = 1
simple_length (Update r s) = 3
simple_length (Protect d s) = 3
simple_length (LoadFixed d a i) = 5
simple_length (StoreFixed a i s) = 5

abbrev pub length_of : Record → ℕ
length_of (Do s) = simple_length s
length_of (Call f m) = 3
length_of (If r e) = 4
length_of (Else n) = 3
length_of Endif = 1
length_of (While r e L) = 11
length_of (Endwhile w) = 3
length_of Return = 1

-- a record has at least its kind byte
simple_pos : (s : Simple) → 1 ≤ simple_length s
simple_pos (Const d v) = omega arith
simple_pos (Op d o l r) = omega arith
simple_pos (Select d c y n) = omega arith
simple_pos (Load d a i) = omega arith
simple_pos (Store a i s) = omega arith
simple_pos Init = omega arith
simple_pos (Update r s) = omega arith
simple_pos (Protect d s) = omega arith
simple_pos (LoadFixed d a i) = omega arith
simple_pos (StoreFixed a i s) = omega arith

pub length_pos : (i : Record) → 1 ≤ length_of i
length_pos (Do s) = simple_pos s
length_pos (Call f m) = omega arith
length_pos (If r e) = omega arith
length_pos (Else n) = omega arith
length_pos Endif = omega arith
length_pos (While r e L) = omega arith
length_pos (Endwhile w) = omega arith
length_pos Return = omega arith

-- a record that opens or closes no block
abbrev pub Single : Record → Type 0
Single (Do s) = Unit {0}
Single (Call f m) = Unit {0}
Single (If r e) = ⊥
Single (Else n) = ⊥
Single Endif = ⊥
Single (While r e L) = ⊥
Single (Endwhile w) = ⊥
Single Return = ⊥

-- a record that closes a block, or the function
abbrev pub Closes : Record → Type 0
Closes (Do s) = ⊥
Closes (Call f m) = ⊥
Closes (If r e) = ⊥
Closes (Else n) = Unit {0}
Closes Endif = Unit {0}
Closes (While r e L) = ⊥
Closes (Endwhile w) = Unit {0}
Closes Return = Unit {0}

-- f of a simple record, g of a CALL, and a of any other: for what those alone have a say in
abbrev pub by_single {ℓ} : {A : Type ℓ} → (Simple → A) → (ℕ → Bool → A) → A → Record → A
by_single f g a (Do s) = f s
by_single f g a (Call c m) = g c m
by_single f g a (If r e) = a
by_single f g a (Else n) = a
by_single f g a Endif = a
by_single f g a (While r e L) = a
by_single f g a (Endwhile w) = a
by_single f g a Return = a

-- fields in range, for n registers, m arrays (fault 4)
abbrev pub SimpleFits : ℕ → ℕ → Simple → Type 0
SimpleFits n m (Const d v) = d < n
SimpleFits n m (Op d o l r) = (d < n) × (l < n) × (r < n)
SimpleFits n m (Select d c y k) = (d < n) × (c < n) × (y < n) × (k < n)
SimpleFits n m (Load d a i) = (d < n) × (a < m) × (i < n)
SimpleFits n m (Store a i s) = (a < m) × (i < n) × (s < n)
SimpleFits n m Init = Unit {0}
SimpleFits n m (Update r s) = r < n
SimpleFits n m (Protect d s) = (d < n) × (s < n)
SimpleFits n m (LoadFixed d a i) = (d < n) × (a < m)
SimpleFits n m (StoreFixed a i s) = (a < m) × (s < n)

abbrev pub Fits : ℕ → ℕ → Record → Type 0
Fits n m (Do s) = SimpleFits n m s
Fits n m (Call f k) = Unit {0}
Fits n m (If r e) = r < n
Fits n m (Else e) = Unit {0}
Fits n m Endif = Unit {0}
Fits n m (While r e L) = r < n
Fits n m (Endwhile w) = Unit {0}
Fits n m Return = Unit {0}

-- a CALL is of one of k functions, and a loop environment has levels in the table's slots and nothing beside them
-- (fault 4 too)
abbrev pub Keeps : ℕ → ℕ → ℕ → Record → Type 0
Keeps n m k (Do s) = Unit {0}
Keeps n m k (Call f b) = f < k
Keeps n m k (If r e) = Unit {0}
Keeps n m k (Else e) = Unit {0}
Keeps n m k Endif = Unit {0}
Keeps n m k (While r e L) = packed_in n m L ≡ true
Keeps n m k (Endwhile w) = Unit {0}
Keeps n m k Return = Unit {0}

-- an index that stands in the record is below its array's words (fault 4 too)
abbrev pub SimpleReaches : List ℕ → Simple → Type 0
SimpleReaches ws (Const d v) = Unit {0}
SimpleReaches ws (Op d o l r) = Unit {0}
SimpleReaches ws (Select d c y n) = Unit {0}
SimpleReaches ws (Load d a i) = Unit {0}
SimpleReaches ws (Store a i s) = Unit {0}
SimpleReaches ws Init = Unit {0}
SimpleReaches ws (Update r s) = Unit {0}
SimpleReaches ws (Protect d s) = Unit {0}
SimpleReaches ws (LoadFixed d a i) = i < get_or ws a 0
SimpleReaches ws (StoreFixed a i s) = i < get_or ws a 0

abbrev pub Reaches : List ℕ → Record → Type 0
Reaches ws = by_single (SimpleReaches ws) (λ f m. Unit {0}) (Unit {0})

-- ---- laws: by cases on a record that opens or closes no block; on one that closes a block or the function
pub of_single : (P : Record → Type 0) → ((s : Simple) → P (Do s)) → ((f : ℕ) (m : Bool) → P (Call f m)) → (i : Record) → Single i → P i
of_single P h k (Do s) c = h s
of_single P h k (Call f m) c = k f m
of_single P h k (If r e) c = absurd c
of_single P h k (Else n) c = absurd c
of_single P h k Endif c = absurd c
of_single P h k (While r e L) c = absurd c
of_single P h k (Endwhile w) c = absurd c
of_single P h k Return c = absurd c

pub of_closing : (P : Record → Type 0) → ((n : ℕ) → P (Else n)) → P Endif → ((w : ℕ) → P (Endwhile w)) → P Return → (i : Record) → Closes i → P i
of_closing P h k l m (Do s) c = absurd c
of_closing P h k l m (Call f b) c = absurd c
of_closing P h k l m (If r e) c = absurd c
of_closing P h k l m (Else n) c = h n
of_closing P h k l m Endif c = k
of_closing P h k l m (While r e L) c = absurd c
of_closing P h k l m (Endwhile w) c = l w
of_closing P h k l m Return c = m

-- what is said of two parts that go by by_single, and of one
pub by_singles {ℓ ℓ'} : {A : Type ℓ} {B : Type ℓ'} {f : Simple → A} {g : ℕ → Bool → A} {a : A} {f' : Simple → B} {g' : ℕ → Bool → B} {b : B} (P : Record → A → B → Type 0)
    → ((s : Simple) → P (Do s) (f s) (f' s)) → ((c : ℕ) (m : Bool) → P (Call c m) (g c m) (g' c m)) → ((i : Record) → P i a b) → (i : Record) → P i (by_single f g a i) (by_single f' g' b i)
by_singles P h k l (Do s) = h s
by_singles P h k l (Call c m) = k c m
by_singles P h k l (If r e) = l (If r e)
by_singles P h k l (Else n) = l (Else n)
by_singles P h k l Endif = l Endif
by_singles P h k l (While r e L) = l (While r e L)
by_singles P h k l (Endwhile w) = l (Endwhile w)
by_singles P h k l Return = l Return

pub by_single_lem {ℓ} : {A : Type ℓ} {f : Simple → A} {g : ℕ → Bool → A} {a : A} (P : Record → A → Type 0)
    → ((s : Simple) → P (Do s) (f s)) → ((c : ℕ) (m : Bool) → P (Call c m) (g c m)) → ((i : Record) → P i a) → (i : Record) → P i (by_single f g a i)
by_single_lem P h k l = by_singles {B = Unit {0}} {f' = λ _. tt} {g' = λ _ _. tt} {b = tt} (λ i x _. P i x) h k l
