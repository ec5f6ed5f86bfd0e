-- A shift by 2 * i goes past i slots.
use Prim.Native.Nat.{ℕ, ◌+◌, ◌-◌, ◌*◌, ◌/◌, ◌%◌, ◌^◌, ◌<◌}
use native.Mathlib.Omega.{arith}
use mathlib.Core.Path.{◌≡◌, sym, ap, ◌∙◌}
use lib.Bits.{bit_and, bit_xor, xor_lt}
use lib.Pow.{shl_exact}
use Rattle.model.specs.Packing.{slot}
use Rattle.model.specs.theory.Words.{lows, put_word}
use Rattle.model.proofs.theory.Words.{slot_is, slot_small, bits, mask_lows}

slots : (i : ℕ) → 2 ^ (2 * i) ≡ 4 ^ i
slots i = let e : 2 * i ≡ i + i = omega arith in ap (λ (k : ℕ). 2 ^ k) e ∙ sym (bits i)

-- slot i, shifted down
pub shifted_down : (w i : ℕ) → w / 2 ^ (2 * i) % 4 ≡ slot w i
shifted_down w i = ap (λ (x : ℕ). w / x % 4) (slots i) ∙ sym (slot_is w i)

-- two bits, shifted up to slot i: none is lost
shifted_up : (x i : ℕ) → x < 4 → i < 16 → x * 2 ^ (2 * i) % 2 ^ 32 ≡ x * 4 ^ i
shifted_up x i h l = shl_exact 2 (2 * i) 32 h (omega arith) ∙ ap (λ (y : ℕ). x * y) (slots i)

pub put_shifted : (w i v : ℕ) → i < 16 → v < 4 → bit_xor w (bit_xor (slot w i) v * 2 ^ (2 * i) % 2 ^ 32) ≡ put_word w i v
unfolding put_word
put_shifted w i v l h = ap (bit_xor w) (shifted_up (bit_xor (slot w i) v) i (xor_lt 2 (slot w i) v (slot_small w i) h) l)

-- the bits of the first n slots
pub lows_shifted : (n : ℕ) → n < 16 → bit_and (lows 16) (1 * 2 ^ (2 * n) % 2 ^ 32 - 1) ≡ lows n
lows_shifted n l = ap (λ (x : ℕ). bit_and (lows 16) (x - 1)) (shifted_up 1 n (omega arith) l ∙ e) ∙ mask_lows 16 n (omega arith)
  where
    e : 1 * 4 ^ n ≡ 4 ^ n
    e = omega arith
