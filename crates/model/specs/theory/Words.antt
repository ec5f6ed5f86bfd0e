-- Order 2: packed words. A word of n slots, below 4 ^ n, holds two bits a slot, slot 0 lowest (Packing). What levels
-- are, within and the join stand in Levels; here are the forms that work on a whole word at once; the laws that say
-- what they mean stand in proofs/theory/Words. They ask two things of a word: no slot is 3, and the slots that a table
-- does not use are 0. They hold for any width n.
use Prim.Native.Nat.{ℕ, zero, suc, ◌+◌, ◌*◌, ◌/◌, ◌^◌, ◌<◌, ◌≤◌}
use Rattle.std.specs.Prelude.{◌≡◌, Bool, eqb}
use Rattle.std.specs.Int.Bits.{bit_and, bit_or, bit_xor}
use Rattle.model.specs.Packing.{slot}

-- no level is 3
abbrev pub NoThree : (ℕ → ℕ) → Type 0
NoThree f = (i : ℕ) → f i < 3

-- .. and the slots from n on are 0
pub record Levelled (n : ℕ) (f : ℕ → ℕ) : Type 0 where
  pub known : NoThree f
  pub unused : (i : ℕ) → n ≤ i → f i ≡ 0

-- the low bit of each of n slots
unfoldable pub lows : ℕ → ℕ
lows zero = 0
lows (suc n) = lows n * 4 + 1

-- ---- the forms, for words of n slots

-- the bits of both words, less the low bit of each slot whose high bit is set
unfoldable pub join_words : ℕ → ℕ → ℕ → ℕ
join_words n a b =
    let m = bit_or a b in
    bit_xor m (bit_and m (bit_and (m / 2) (lows n)))

-- nothing rises where a is joined into b
unfoldable pub within_words : ℕ → ℕ → ℕ → Bool
within_words n a b = eqb (join_words n a b) b

-- the high bits alone
unfoldable pub settle_word : ℕ → ℕ → ℕ
settle_word n a = bit_and a (lows n * 2)

-- slot i made v
unfoldable pub put_word : ℕ → ℕ → ℕ → ℕ
put_word a i v = bit_xor a (bit_xor (slot a i) v * 4 ^ i)
