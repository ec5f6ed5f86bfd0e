-- How the reading goes on: always forward, always in the table; and what it closes a block at.
use Rattle.std.specs.Prelude.{ℕ, zero, suc, ◌+◌, ◌<◌, ◌≤◌, ◌≡◌, refl, List, true, length, ltb, leb, eqb, Result, Ok, Err}
use Rattle.std.proofs.Common.{arith, sym, ap, subst, ◌∙◌, eqb-true}
use Rattle.model.specs.Tests.{pick_ind}
use Rattle.model.specs.Numbers.{refusal, then}
use Rattle.model.specs.Records.{length_of, length_pos, Closes, of_closing}
use Rattle.model.specs.declared.Fault.TheVariants.{TooDeep}
use Rattle.model.specs.declared.Refusal.{Refusal}
use Rattle.model.specs.declared.Sizes.{Sizes}
use Rattle.model.specs.declared.Record.{Record}
use Rattle.model.specs.declared.Record.TheVariants.{Do, Call, If, Else, Endif, While, Endwhile, Return}
use Rattle.model.specs.declared.Walked.{Walked}
use Rattle.model.specs.declared.Walked.TheVariants.{Next, Shut}
use Rattle.format.specs.Format.{Decoded, byte, word16, decode_at}
use Rattle.format.specs.Head.{To}
use Rattle.format.specs.Laws.{kind_of, Names, good}
use Rattle.reading.specs.Reading.{allowed, record_at, call_at, met, if_with, while_with, read_with, onward, block_with, instr_at, block_at}

-- the record r, which closes a block, stands at p; c is its kind
pub record Closing (z : Sizes) (t : List ℕ) (c p : ℕ) : Type 0 where
  pub with : Record
  pub is : decode_at z t p ≡ Ok (with, p + length_of with)
  pub closes : Closes with
  pub kind : kind_of with ≡ c
  pub names : Names t p with
  pub whole : p + length_of with ≤ length t

-- a record that was read: decoded, allowed
abbrev pub GoodAt : Sizes → List ℕ → ℕ → ℕ → Decoded → Type 0
GoodAt z t c at (Ok (r, n)) = (decode_at z t at ≡ Ok (r, n)) × (allowed c (byte t at) ≡ true)
GoodAt z t c at (Err _) = Unit {0}

same_decoded : (z : Sizes) (t : List ℕ) (c at : ℕ) (d : Decoded) → decode_at z t at ≡ d → allowed c (byte t at) ≡ true → GoodAt z t c at d
same_decoded z t c at (Ok (r, n)) e a = (e, a)
same_decoded z t c at (Err _) e a = tt

pub record_good : (z : Sizes) (t : List ℕ) (c at : ℕ) → GoodAt z t c at (record_at z t c at)
unfolding record_at
record_good z t c at =
    pick_ind (GoodAt z t c at) (leb (length t) at) (λ _. tt)
    (λ _. pick_ind (GoodAt z t c at) (allowed c (byte t at)) (same_decoded z t c at (decode_at z t at) refl) (λ _. tt))

-- of the closing kinds only c is allowed
closing_kind : (c : ℕ) (r : Record) → Closes r → allowed c (kind_of r) ≡ true → kind_of r ≡ c
unfolding allowed
closing_kind c = of_closing (λ r. allowed c (kind_of r) ≡ true → kind_of r ≡ c)
    (λ n a. sym (eqb-true c 0x21 a)) (λ a. sym (eqb-true c 0x22 a)) (λ w a. sym (eqb-true c 0x24 a)) (λ a. sym (eqb-true c 0x25 a))

pub closing : (z : Sizes) (t : List ℕ) (c at n : ℕ) (r : Record) → GoodAt z t c at (Ok (r, n)) → Closes r → Closing z t c at
closing z t c at n r (e, a) h =
    let g = good z t at e in
    record {
      with = r;
      is = e ∙ ap (λ (m : ℕ). Ok (r, m)) g.next;
      closes = h;
      kind = closing_kind c r h (subst (λ (k : ℕ). allowed c k ≡ true) (sym g.kind) a);
      names = g.names;
      whole = subst (λ (m : ℕ). m ≤ length t) g.next g.whole;
    }

-- forward, and in the table: a record, and a block
abbrev pub Forward : Sizes → List ℕ → ℕ → ℕ → Result Walked Refusal → Type 0
Forward z t c at (Ok (Next n)) = (at < n) × (n ≤ length t)
Forward z t c at (Ok (Shut p)) = (at ≤ p) × Closing z t c p
Forward z t c at (Err _) = Unit {0}

abbrev pub ForwardBlock : Sizes → List ℕ → ℕ → ℕ → To → Type 0
ForwardBlock z t c at (Ok p) = (at ≤ p) × Closing z t c p
ForwardBlock z t c at (Err _) = Unit {0}

closing_in : (z : Sizes) (t : List ℕ) (c p : ℕ) → Closing z t c p → p < length t
closing_in z t c p k = omega (arith, k.whole, length_pos k.with)

-- ELSE and ENDWHILE take three bytes
three : (c : ℕ) (r : Record) → Closes r → kind_of r ≡ c → (c ≡ 0x21 → length_of r ≡ 3) × (c ≡ 0x24 → length_of r ≡ 3)
three c = of_closing (λ r. kind_of r ≡ c → (c ≡ 0x21 → length_of r ≡ 3) × (c ≡ 0x24 → length_of r ≡ 3))
    (λ n k. (λ _. refl, λ _. refl)) (λ k. (λ e. absurd (omega arith), λ e. absurd (omega arith)))
    (λ w k. (λ _. refl, λ _. refl)) (λ k. (λ e. absurd (omega arith), λ e. absurd (omega arith)))

pub else_whole : (z : Sizes) (t : List ℕ) (p : ℕ) → Closing z t 0x21 p → p + 3 ≤ length t
else_whole z t p k = let e = (three 0x21 k.with k.closes k.kind).0 refl in omega (arith, k.whole, e)

pub endwhile_whole : (z : Sizes) (t : List ℕ) (p : ℕ) → Closing z t 0x24 p → p + 3 ≤ length t
endwhile_whole z t p k = let e = (three 0x24 k.with k.closes k.kind).1 refl in omega (arith, k.whole, e)

call_ok : (z : Sizes) (t : List ℕ) (c cur at next f : ℕ) → at < next → next ≤ length t → Forward z t c at (call_at cur at next f)
unfolding call_at
call_ok z t c cur at next f l k = pick_ind (Forward z t c at) (ltb f cur) (λ _. (l, k)) (λ _. tt)

shut_ok : (z : Sizes) (t : List ℕ) (c at d from : ℕ) (w : To) (g : ℕ → Result Walked Refusal) → ForwardBlock z t d from w → ((p : ℕ) → from ≤ p → Closing z t d p → Forward z t c at (g p)) → Forward z t c at (then w g)
shut_ok z t c at d from (Ok p) g h hg = hg p h.0 h.1
shut_ok z t c at d from (Err _) g h hg = tt

if_ok : (z : Sizes) (t : List ℕ) (c : ℕ) (B : ℕ → ℕ → To) → ((k x : ℕ) → ForwardBlock z t k x (B k x)) → (at next e : ℕ) → at < next → Forward z t c at (if_with B t next e)
unfolding if_with
if_ok z t c B hB at next e l =
    shut_ok z t c at 0x21 next (B 0x21 next) (λ p. met p e p (then (B 0x22 (p + 3)) λ q. met q (word16 t (p + 1)) q (Ok (Next (q + 1))))) (hB 0x21 next)
    (λ p lp kp. pick_ind (Forward z t c at) (eqb p e)
    (λ _. shut_ok z t c at 0x22 (p + 3) (B 0x22 (p + 3)) (λ q. met q (word16 t (p + 1)) q (Ok (Next (q + 1)))) (hB 0x22 (p + 3))
    (λ q lq kq. pick_ind (Forward z t c at) (eqb q (word16 t (p + 1))) (λ _. (omega arith, omega (arith, closing_in z t 0x22 q kq))) (λ _. tt)))
    (λ _. tt))

while_ok : (z : Sizes) (t : List ℕ) (c : ℕ) (B : ℕ → ℕ → To) → ((k x : ℕ) → ForwardBlock z t k x (B k x)) → (at next e : ℕ) → at < next → Forward z t c at (while_with B t at next e)
unfolding while_with
while_ok z t c B hB at next e l =
    shut_ok z t c at 0x24 next (B 0x24 next) (λ p. met p e p (met (word16 t (p + 1)) at p (Ok (Next (p + 3))))) (hB 0x24 next)
    (λ p lp kp. pick_ind (Forward z t c at) (eqb p e)
    (λ _. pick_ind (Forward z t c at) (eqb (word16 t (p + 1)) at) (λ _. (omega arith, endwhile_whole z t p kp)) (λ _. tt))
    (λ _. tt))

read_ok : (z : Sizes) (t : List ℕ) (c cur : ℕ) (B : ℕ → ℕ → To) → ((k x : ℕ) → ForwardBlock z t k x (B k x)) → (at next : ℕ) → at < next → next ≤ length t
    → (r : Record) → GoodAt z t c at (Ok (r, next)) → Forward z t c at (read_with B cur t at (r, next))
read_ok z t c cur B hB at next l k (Do s) g = (l, k)
read_ok z t c cur B hB at next l k (Call f m) g = call_ok z t c cur at next f l k
read_ok z t c cur B hB at next l k (If r e) g = if_ok z t c B hB at next e l
read_ok z t c cur B hB at next l k (Else n) g = (omega arith, closing z t c at next (Else n) g tt)
read_ok z t c cur B hB at next l k Endif g = (omega arith, closing z t c at next Endif g tt)
read_ok z t c cur B hB at next l k (While r e L) g = while_ok z t c B hB at next e l
read_ok z t c cur B hB at next l k (Endwhile w) g = (omega arith, closing z t c at next (Endwhile w) g tt)
read_ok z t c cur B hB at next l k Return g = (omega arith, closing z t c at next Return g tt)

decoded_ok : (z : Sizes) (t : List ℕ) (c cur : ℕ) (B : ℕ → ℕ → To) → ((k x : ℕ) → ForwardBlock z t k x (B k x)) → (at : ℕ) (d : Decoded) → GoodAt z t c at d → Forward z t c at (then d (read_with B cur t at))
decoded_ok z t c cur B hB at (Ok (r, n)) g =
    let w = good z t at g.0 in read_ok z t c cur B hB at n (omega (arith, w.next, length_pos r)) w.whole r g
decoded_ok z t c cur B hB at (Err _) g = tt

weaken : (z : Sizes) (t : List ℕ) (c : ℕ) (w : To) (at n : ℕ) → at ≤ n → ForwardBlock z t c n w → ForwardBlock z t c at w
weaken z t c (Ok p) at n h k = (omega (arith, k.0), k.1)
weaken z t c (Err _) at n h k = tt

after_ok : (z : Sizes) (t : List ℕ) (c at : ℕ) (w : Result Walked Refusal) (g : ℕ → To) → Forward z t c at w → ((n : ℕ) → ForwardBlock z t c n (g n)) → ForwardBlock z t c at (then w (onward g))
after_ok z t c at (Ok (Next n)) g h hg = weaken z t c (g n) at n (omega (arith, h.0)) (hg n)
after_ok z t c at (Ok (Shut p)) g h hg = h
after_ok z t c at (Err _) g h hg = tt

block_ok : (z : Sizes) (t : List ℕ) (c : ℕ) (f : ℕ → Result Walked Refusal) → ((x : ℕ) → Forward z t c x (f x)) → (k at : ℕ) → ForwardBlock z t c at (block_with f k at)
unfolding block_with
block_ok z t c f h zero at = tt
block_ok z t c f h (suc k) at = after_ok z t c at (f at) (block_with f k) (h at) (block_ok z t c f h k)

pub instr_ok : (d cur : ℕ) (z : Sizes) (t : List ℕ) (c at : ℕ) → Forward z t c at (instr_at d cur z t c at)
unfolding instr_at
instr_ok zero cur z t c at = decoded_ok z t c cur (λ _ _. Err (refusal TooDeep at)) (λ k x. tt) at (record_at z t c at) (record_good z t c at)
instr_ok (suc d) cur z t c at = decoded_ok z t c cur (λ k. block_with (instr_at d cur z t k) (length t)) (λ k x. block_ok z t k (instr_at d cur z t k) (instr_ok d cur z t k) (length t) x) at (record_at z t c at) (record_good z t c at)

pub block_at_ok : (d cur : ℕ) (z : Sizes) (t : List ℕ) (c at : ℕ) → ForwardBlock z t c at (block_at d cur z t c at)
unfolding block_at
block_at_ok d cur z t c at = block_ok z t c (instr_at d cur z t c) (instr_ok d cur z t c) (length t) at
