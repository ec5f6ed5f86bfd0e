-- The laws of packed words (specs/theory/Words), for any width n.
use Prim.Native.Nat.{ℕ, zero, suc, ◌+◌, ◌-◌, ◌*◌, ◌/◌, ◌%◌, ◌^◌, ◌<◌, ◌≤◌, max}
use Rattle.std.proofs.Common.{arith, div-one, pow-suc, lt_of_le_of_lt, sym, ◌∙◌, true≢false, lt-ltb, ltb-false, le-leb, leb-true, eq-eqb, eqb-true}
use Rattle.std.proofs.Math.Nat.{div-div-eq-div-mul, pow-succ'}
use Rattle.std.proofs.Math.Decide.{dec_lt}
use Rattle.std.specs.Prelude.{◌≡◌, refl, Bool, true, false, eqb, leb, ltb}
use Rattle.std.proofs.Math.Path.{ap}
use Rattle.std.specs.Int.Bits.{bit_and, bit_or, bit_xor, xor_zero_r}
use Rattle.std.proofs.lemmas.Nat.{and_shr, or_shr, xor_shr, and_mod, or_mod, xor_mod, and_mask, and_le_l, or_lt, xor_lt}
use Rattle.std.proofs.Math.Arith.{digits_mod}
use Rattle.std.proofs.Math.Dec.{leb-suc-zero, leb-suc-suc, eqb-zero-suc, eqb-suc-zero, eqb-suc-suc}
use Rattle.model.specs.Tests.{pick, put, Decides, same, pick_ind, below_all, all_below}
use Rattle.model.specs.Levels.{levels_within}
use Rattle.model.specs.Packing.{slot, levels_in}
use Rattle.model.specs.Rules.{settle}
use Rattle.model.specs.theory.Words.{NoThree, Levelled, lows, join_words, within_words, settle_word, put_word}

-- ---- slots of a word

pub slot_is : (w i : ℕ) → slot w i ≡ w / 4 ^ i % 4
unfolding slot
slot_is w zero = ap (λ (x : ℕ). x % 4) (sym (div-one w))
slot_is w (suc i) = slot_is (w / 4) i ∙ ap (λ (x : ℕ). x % 4) (div-div-eq-div-mul w 4 (4 ^ i) ∙ ap (λ (x : ℕ). w / x) (sym (pow-succ' 4 i)))

pub slot_small : (w i : ℕ) → slot w i < 4
unfolding slot
slot_small w zero = omega arith
slot_small w (suc i) = slot_small (w / 4) i

slot_zero : (i : ℕ) → slot 0 i ≡ 0
unfolding slot
slot_zero zero = refl
slot_zero (suc i) = slot_zero i

pub slot_past : (n w i : ℕ) → w < 4 ^ n → n ≤ i → slot w i ≡ 0
unfolding slot
slot_past zero w i h l = let e : w ≡ 0 = omega arith in rw e (slot_zero i)
slot_past (suc n) w zero h l = absurd (omega arith)
slot_past (suc n) w (suc i) h l = slot_past n (w / 4) i (omega arith) (omega arith)

-- words that agree in every slot are equal
pub word_ext : (n a b : ℕ) → a < 4 ^ n → b < 4 ^ n → ((i : ℕ) → slot a i ≡ slot b i) → a ≡ b
unfolding slot
word_ext zero a b h l s = omega arith
word_ext (suc n) a b h l s = omega (arith, s 0, word_ext n (a / 4) (b / 4) (omega arith) (omega arith) (λ i. s (suc i)))

-- ---- slots under the bit operations

module _ (op : ℕ → ℕ → ℕ)
    (shr : (a b k : ℕ) → op a b / 2 ^ k ≡ op (a / 2 ^ k) (b / 2 ^ k))
    (low : (a b k : ℕ) → op a b % 2 ^ k ≡ op (a % 2 ^ k) (b % 2 ^ k)) where
  slot_op : (a b i : ℕ) → slot (op a b) i ≡ op (slot a i) (slot b i)
  unfolding slot
  slot_op a b zero = low a b 2
  slot_op a b (suc i) = ap (λ (x : ℕ). slot x i) (shr a b 2) ∙ slot_op (a / 4) (b / 4) i

pub slot_or : (a b i : ℕ) → slot (bit_or a b) i ≡ bit_or (slot a i) (slot b i)
slot_or = slot_op bit_or or_shr or_mod

pub slot_and : (a b i : ℕ) → slot (bit_and a b) i ≡ bit_and (slot a i) (slot b i)
slot_and = slot_op bit_and and_shr and_mod

pub slot_xor : (a b i : ℕ) → slot (bit_xor a b) i ≡ bit_xor (slot a i) (slot b i)
slot_xor = slot_op bit_xor xor_shr xor_mod

-- cases on a level: what holds of 0, 1 and 2
three : (P : ℕ → Type 0) → P 0 → P 1 → P 2 → (x : ℕ) → x < 3 → P x
three P a b c zero h = a
three P a b c (suc zero) h = b
three P a b c (suc (suc zero)) h = c
three P a b c (suc (suc (suc x))) h = absurd (omega arith)

-- cases on a slot
four : (P : ℕ → Type 0) → P 0 → P 1 → P 2 → P 3 → (x : ℕ) → x < 4 → P x
four P a b c d zero h = a
four P a b c d (suc x) h = three (λ y. P (suc y)) b c d x (omega arith)

-- a word of n slots is one of n + n bits, as lib.Bits counts
pub bits : (n : ℕ) → 4 ^ n ≡ 2 ^ (n + n)
bits zero = refl
bits (suc n) = let e : suc n + suc n ≡ suc (suc (n + n)) = omega arith in rw e (omega (arith, bits n))

-- ---- the low bits

pub lows_lt : (n : ℕ) → lows n < 4 ^ n
unfolding lows
lows_lt zero = omega arith
lows_lt (suc n) = omega (arith, lows_lt n)

-- v in each of n slots
slot_each : (v : ℕ) → v < 4 → (n i : ℕ) → slot (lows n * v) i ≡ pick (ltb i n) v 0
unfolding slot lows
slot_each v h zero i = let e : 0 * v ≡ 0 = omega arith in rw (e, leb-suc-zero i) (slot_zero i)
slot_each v h (suc n) zero = rw (lt-ltb 0 (suc n) (omega arith)) (omega arith)
slot_each v h (suc n) (suc i) =
    let e : (lows n * 4 + 1) * v / 4 ≡ lows n * v = omega arith in
    rw (e, leb-suc-suc (suc i) n) (slot_each v h n i)

pub slot_lows : (n i : ℕ) → slot (lows n) i ≡ pick (ltb i n) 1 0
slot_lows n i = let e : lows n ≡ lows n * 1 = omega arith in ap (λ (x : ℕ). slot x i) e ∙ slot_each 1 (omega arith) n i

-- the low m slots, and those above
lows_add : (k m : ℕ) → lows (k + m) ≡ lows k * 4 ^ m + lows m
unfolding lows
lows_add k zero = let e : k + 0 ≡ k = omega arith in rw e (omega arith)
lows_add k (suc m) = let e : k + suc m ≡ suc (k + m) = omega arith in rw (e, pow-suc 4 m) (omega (arith, lows_add k m))

pub mask_lows : (n m : ℕ) → m ≤ n → bit_and (lows n) (4 ^ m - 1) ≡ lows m
mask_lows n m l =
    let e : n ≡ (n - m) + m = omega arith in
    ap (λ (x : ℕ). bit_and (lows n) (x - 1)) (bits m) ∙ and_mask (lows n) (m + m) ∙ ap (λ (x : ℕ). lows n % x) (sym (bits m))
    ∙ ap (λ (x : ℕ). x % 4 ^ m) (ap lows e ∙ lows_add (n - m) m) ∙ digits_mod (lows (n - m)) (lows_lt m)

pub lows_levels : (n : ℕ) → NoThree (slot (lows n))
lows_levels n i = rw (slot_lows n i) (pick_ind (λ (x : ℕ). x < 3) (ltb i n) (λ _. omega arith) (λ _. omega arith))

-- ---- join

pub join_words_lt : (n a b : ℕ) → a < 4 ^ n → b < 4 ^ n → join_words n a b < 4 ^ n
unfolding join_words
join_words_lt n a b h l =
    let m = bit_or a b in
    let k : m < 2 ^ (n + n) = or_lt (n + n) a b (omega (arith, bits n)) (omega (arith, bits n)) in
    rw (bits n) (xor_lt (n + n) m _ k (lt_of_le_of_lt (and_le_l m _) k))

-- shifted by one, a slot's low bit is its high bit
high_bit : (w i : ℕ) → slot (w / 2) i % 2 ≡ slot w i / 2
unfolding slot
high_bit w zero = omega arith
high_bit w (suc i) = let e : w / 2 / 4 ≡ w / 4 / 2 = omega arith in rw e (high_bit (w / 4) i)

-- the form in one slot
abbrev join_slot : ℕ → ℕ → ℕ
join_slot x y =
    let m = bit_or x y in
    bit_xor m (bit_and m (m / 2))

join_slot_lem : (x : ℕ) → x < 3 → (y : ℕ) → y < 3 → join_slot x y ≡ max x y
join_slot_lem = three (λ x. (y : ℕ) → y < 3 → join_slot x y ≡ max x y)
    (three (λ y. join_slot 0 y ≡ max 0 y) refl refl refl)
    (three (λ y. join_slot 1 y ≡ max 1 y) refl refl refl)
    (three (λ y. join_slot 2 y ≡ max 2 y) refl refl refl)

pub join_words_lem : (n a b : ℕ) → a < 4 ^ n → b < 4 ^ n → NoThree (slot a) → NoThree (slot b) → (i : ℕ) → slot (join_words n a b) i ≡ max (slot a i) (slot b i)
unfolding join_words
join_words_lem n a b h l p q i = slots ∙ go (ltb i n) refl
  where
    m : ℕ
    m = bit_or a b

    s : ℕ
    s = bit_or (slot a i) (slot b i)

    slots : slot (join_words n a b) i ≡ bit_xor s (bit_and s (bit_and (slot (m / 2) i) (pick (ltb i n) 1 0)))
    slots =
        slot_xor m (bit_and m (bit_and (m / 2) (lows n))) i
        ∙ ap (bit_xor (slot m i)) (slot_and m (bit_and (m / 2) (lows n)) i ∙ ap (bit_and (slot m i)) (slot_and (m / 2) (lows n) i))
        ∙ rw (slot_or a b i, slot_lows n i)

    go : (t : Bool) → ltb i n ≡ t → bit_xor s (bit_and s (bit_and (slot (m / 2) i) (pick t 1 0))) ≡ max (slot a i) (slot b i)
    go true e =
        ap (λ (x : ℕ). bit_xor s (bit_and s x)) (and_mask (slot (m / 2) i) 1 ∙ high_bit m i ∙ ap (λ (x : ℕ). x / 2) (slot_or a b i))
        ∙ join_slot_lem (slot a i) (p i) (slot b i) (q i)
    go false e = rw (slot_past n a i h (ltb-false i n e), slot_past n b i l (ltb-false i n e))

-- ---- within

-- two tests that imply each other
agree : (b c : Bool) → (b ≡ true → c ≡ true) → (c ≡ true → b ≡ true) → b ≡ c
agree true c f g = sym (f refl)
agree false true f g = g refl
agree false false f g = refl

pub within_words_lem : (k n a b : ℕ) → a < 4 ^ k → b < 4 ^ k → Levelled n (slot a) → Levelled n (slot b) → within_words k a b ≡ levels_within n (slot a) (slot b)
unfolding within_words
within_words_lem k n a b h l u v = agree (within_words k a b) (levels_within n (slot a) (slot b)) fwd back
  where
    joined : (i : ℕ) → slot (join_words k a b) i ≡ max (slot a i) (slot b i)
    joined = join_words_lem k a b h l u.known v.known

    fwd : within_words k a b ≡ true → levels_within n (slot a) (slot b) ≡ true
    fwd e = all_below n (λ i. leb (slot a i) (slot b i)) (λ i _. le-leb (slot a i) (slot b i) (omega (arith, joined i, ap (λ (w : ℕ). slot w i) (eqb-true (join_words k a b) b e))))

    back : levels_within n (slot a) (slot b) ≡ true → within_words k a b ≡ true
    back e = eq-eqb (join_words k a b) b (word_ext k (join_words k a b) b (join_words_lt k a b h l) l (λ i. joined i ∙ at i (dec_lt i n)))
      where
        at : (i : ℕ) → Dec (i < n) → max (slot a i) (slot b i) ≡ slot b i
        at i (yes j) = omega (arith, leb-true (slot a i) (slot b i) (below_all n (λ j. leb (slot a j) (slot b j)) e i j))
        at i (no j) = omega (arith, u.unused i (omega arith), v.unused i (omega arith))

-- ---- settling

pub settle_word_lem : (n a : ℕ) → a < 4 ^ n → NoThree (slot a) → (i : ℕ) → slot (settle_word n a) i ≡ settle (slot a i)
unfolding settle_word settle
settle_word_lem n a h p i = slot_and a (lows n * 2) i ∙ ap (bit_and (slot a i)) (slot_each 2 (omega arith) n i) ∙ go (ltb i n) refl
  where
    go : (t : Bool) → ltb i n ≡ t → bit_and (slot a i) (pick t 2 0) ≡ settle (slot a i)
    go true e = three (λ x. bit_and x 2 ≡ settle x) refl refl refl (slot a i) (p i)
    go false e = rw (slot_past n a i h (ltb-false i n e))

-- ---- one slot

-- x in slot i alone
slot_alone : (x : ℕ) → x < 4 → (i k : ℕ) → slot (x * 4 ^ i) k ≡ pick (eqb k i) x 0
unfolding slot
slot_alone x h zero zero = omega arith
slot_alone x h zero (suc k) = let e : x * 1 / 4 ≡ 0 = omega arith in rw (e, eqb-suc-zero k) (slot_zero k)
slot_alone x h (suc i) zero = rw (pow-suc 4 i, eqb-zero-suc i) (omega arith)
slot_alone x h (suc i) (suc k) = let e : x * (4 ^ i * 4) / 4 ≡ x * 4 ^ i = omega arith in rw (pow-suc 4 i, e, eqb-suc-suc k i) (slot_alone x h i k)

-- what x differs by from v makes x into v
flip : (x : ℕ) → x < 4 → (v : ℕ) → v < 4 → bit_xor x (bit_xor x v) ≡ v
flip = four (λ x. (v : ℕ) → v < 4 → bit_xor x (bit_xor x v) ≡ v)
    (λ v h. refl)
    (four (λ v. bit_xor 1 (bit_xor 1 v) ≡ v) refl refl refl refl)
    (four (λ v. bit_xor 2 (bit_xor 2 v) ≡ v) refl refl refl refl)
    (four (λ v. bit_xor 3 (bit_xor 3 v) ≡ v) refl refl refl refl)

pub put_word_lem : (a i v : ℕ) → v < 4 → (k : ℕ) → slot (put_word a i v) k ≡ put (slot a) i v k
unfolding put_word
put_word_lem a i v h k =
    let x = bit_xor (slot a i) v in
    slot_xor a (x * 4 ^ i) k ∙ ap (bit_xor (slot a k)) (slot_alone x (xor_lt 2 (slot a i) v (slot_small a i) h) i k)
    ∙ same k i (λ b. bit_xor (slot a k) (pick b x 0) ≡ pick b v (slot a k))
    (λ e. ap (λ (j : ℕ). bit_xor (slot a j) x) e ∙ flip (slot a i) (slot_small a i) v h)
    (λ _. xor_zero_r (slot a k))

-- ---- what the reader tests

-- w slots are enough for the number w
room : (w : ℕ) → w < 4 ^ w
room zero = omega arith
room (suc w) = omega (arith, room w)

pub levels_in_lem : (n w : ℕ) → Decides (Levelled n (slot w)) (levels_in n w)
unfolding slot levels_in
levels_in_lem zero w = (
  λ e. let z = eqb-true w 0 e in record { known = λ i. rw (z, slot_zero i) (omega arith); unused = λ i _. rw z (slot_zero i) },
  λ h. eq-eqb w 0 (word_ext w w 0 (room w) (omega (arith, room w)) (λ i. h.unused i (omega arith) ∙ sym (slot_zero i))),
)
levels_in_lem (suc n) w = same (w % 4) 3 (λ b. Decides (Levelled (suc n) (slot w)) (pick b false (levels_in n (w / 4))))
    (λ e. (λ f. absurd (true≢false (sym f)), λ h. absurd (omega (arith, h.known 0))))
    (λ m. (λ e. up m ((levels_in_lem n (w / 4)).0 e), λ h. (levels_in_lem n (w / 4)).1 (record { known = λ i. h.known (suc i); unused = λ i l. h.unused (suc i) (omega arith) })))
  where
    known : (w % 4 ≡ 3 → ⊥) → NoThree (slot (w / 4)) → NoThree (slot w)
    known m r zero = omega (arith, m)
    known m r (suc i) = r i

    unused : ((i : ℕ) → n ≤ i → slot (w / 4) i ≡ 0) → (i : ℕ) → suc n ≤ i → slot w i ≡ 0
    unused r zero l = absurd (omega arith)
    unused r (suc i) l = r i (omega arith)

    up : (w % 4 ≡ 3 → ⊥) → Levelled n (slot (w / 4)) → Levelled (suc n) (slot w)
    up m r = record { known = known m r.known; unused = unused r.unused }
