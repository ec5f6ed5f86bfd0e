-- Laws of digits, and of texts added to a line one after another.
use Rattle.std.proofs.Common.{ℕ, zero, suc, ◌+◌, ◌/◌, ◌%◌, ◌^◌, ◌<◌, ◌≤◌, ◌≡◌, refl, sym, ap, ◌∙◌, List, [], ◌∷◌, ◌++◌, length, arith, rules, lt-ltb, le-ltb, length-append}
use native.Mathlib.Decide.{dec_lt}
use Rattle.std.proofs.lemmas.Fmt.{AppendsLastDigit, decimal_from_appends, decimal_step, decimal_digit, length-decimal-le}
use Rattle.std.specs.Fmt.{decimal as std_decimal}
use Rattle.model.specs.Memory.{sets_append}
use Rattle.report.specs.Added.{Adds}
use Rattle.report.specs.Text.{digits_in, decimal}
use Rattle.report.specs.declared.text.Line.{Line}

appends : AppendsLastDigit digits_in
unfolding digits_in
appends = record {
  one = λ k n l. rw (lt-ltb n 10 l, digits_in) (search rules);
  more = λ k n l. rw (le-ltb n 10 l, digits_in) (search rules);
}

as_in_std : (n : ℕ) → n < 2 ^ 64 → decimal n ≡ std_decimal n
as_in_std n h = decimal_from_appends digits_in appends 20 n h (length-decimal-le 20 n (omega arith) (omega arith) h)

pub decimal_last : (n : ℕ) → n < 10 → decimal n ≡ (48 + n % 10) ∷ []
decimal_last n l = let e : n % 10 ≡ n = omega arith in as_in_std n (omega arith) ∙ decimal_digit n l ∙ rw e refl

pub decimal_more : (n : ℕ) → 10 ≤ n → n < 2 ^ 64 → decimal n ≡ decimal (n / 10) ++ ((48 + n % 10) ∷ [])
decimal_more n l h = as_in_std n h ∙ decimal_step n l h ∙ ap (λ (ds : List ℕ). ds ++ ((48 + n % 10) ∷ [])) (sym (as_in_std (n / 10) (omega arith)))

-- no more digits than are asked for
pub digits_few : (k n : ℕ) → length (digits_in k n) ≤ k
unfolding digits_in
digits_few zero n = omega arith
digits_few (suc k) n = go (dec_lt n 10) (digits_few k (n / 10))
  where
    go : Dec (n < 10) → length (digits_in k (n / 10)) ≤ k → length (digits_in (suc k) n) ≤ suc k
    go (yes l) h = rw (appends.one k n l) (omega arith)
    go (no l) h = rw (appends.more k n (omega arith), length-append) (omega (arith, h))

pub decimal_few : (n : ℕ) → length (decimal n) ≤ 20
decimal_few n = digits_few 20 n

pub adds_both : (k l m : Line) (a b : List ℕ) → Adds k a l → Adds l b m → Adds k (a ++ b) m
adds_both k l m a b x y = record {
  same_buffer = y.same_buffer ∙ x.same_buffer;
  counted = rw length-append (omega (arith, x.counted, y.counted));
  written = y.written ∙ rw (x.written, x.counted) (sym (sets_append a b k.space.now k.length));
}
