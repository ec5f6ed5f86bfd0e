-- Demand 2 for checking: what the check's answer means. The rules (Rattle.model.specs.Rules, Blocks) and the first
-- fault (Rattle.model.specs.Faults) are stated there by themselves; here the check is held to them.
use Rattle.std.specs.Prelude.{ℕ, suc, ◌≡◌, ◌↔◌, List, length, Result, Ok, Err}
use Rattle.std.proofs.Math.Path.{refl}
use Rattle.std.proofs.Common.{ap, ◌∙◌}
use Rattle.model.specs.Rules.{typing, Typed}
use Rattle.model.specs.Faults.{FirstFault}
use Rattle.model.proofs.theory.OneFault.{one_fault, typed_faultless}
use Rattle.model.specs.Decide.{record_fault}
use Rattle.model.specs.Numbers.{refusal}
use Rattle.model.specs.Typing.{Typing, type_all, Says}
use Rattle.model.proofs.WholeTable.{type_says, passes_typed}
use Rattle.model.specs.declared.Sizes.{Sizes}
use Rattle.model.specs.declared.Fault.{Fault}
use Rattle.model.specs.declared.Refusal.{Refusal}
use Rattle.format.specs.Layout.{sizes_of, table_of}
use Rattle.reading.specs.Reading.{read_at}
use Rattle.reading.specs.theory.Linked.{sizes_read, all_read}
use Rattle.typing.specs.Check.{Verdict, typed, answered, check_at}

-- the table reads, by its sizes
abbrev pub Readable : List ℕ → Type 0
Readable t = read_at t ≡ Ok (sizes_of t)

-- 01's words for each case of a verdict. Ok (accepted F B), "accepted F functions B bytes": it reads, the rules type
-- every function, F and B are its functions and its length. Err (refusal N P), "refused N at P": it does not read, and
-- N at P is the reading's fault; or it reads, and N at P is the first fault of typing
pub data Refused (t : List ℕ) (n : Fault) (p : ℕ) : Type 0 where
  unread : read_at t ≡ Err (refusal n p) → Refused t n p
  untyped : Readable t → FirstFault (table_of t) (typing (table_of t)) record_fault n p → Refused t n p

abbrev pub Means : List ℕ → Verdict → Type 0
Means t (Ok a) = Readable t × Typed (table_of t) × (a.functions ≡ (sizes_of t).functions) × (a.bytes ≡ length t)
Means t (Err e) = Refused t e.fault e.place

module _ (t : List ℕ) where
  typed_means : Readable t → (w : Typing) → Says (table_of t) (suc (length t)) w → Means t (typed (sizes_of t) t w)
  typed_means r (Ok x) s = (r, s, refl, refl)
  typed_means r (Err e) s = untyped r s

  answered_means : (a : Result Sizes Refusal) → read_at t ≡ a → Means t (answered t a)
  answered_means (Err x) e = unread e
  answered_means (Ok z) e =
      let s : z ≡ sizes_of t = sizes_read t z e in
      let r : Readable t = e ∙ ap (λ (y : Sizes). Ok y) s in
      rw s (typed_means r (type_all (table_of t) (suc (length t))) (type_says (table_of t) (suc (length t)) (all_read t (sizes_of t) r)))

  -- EVERY VERDICT MEANS WHAT IT SAYS
  pub check_means : Means t (check_at t)
  unfolding check_at
  check_means = answered_means (read_at t) refl

  abbrev pub Pass : Verdict → Type 0
  Pass (Ok a) = Unit {0}
  Pass (Err e) = ⊥

  pass_means : (v : Verdict) → Means t v → Pass v → Readable t × Typed (table_of t)
  pass_means (Ok a) m h = (m.0, m.1)
  pass_means (Err e) m h = absurd h

  pass_all : Readable t → Typed (table_of t) → Pass (check_at t)
  unfolding check_at
  pass_all r d = rw (r, (passes_typed (table_of t) (suc (length t)) (all_read t (sizes_of t) r)).1 d) tt

  -- A TABLE PASSES EXACTLY WHEN IT READS AND THE RULES TYPE EVERY FUNCTION OF IT
  pub passes_exactly : Pass (check_at t) ↔ (Readable t × Typed (table_of t))
  passes_exactly = (λ h. pass_means (check_at t) check_means h, λ w. pass_all w.0 w.1)

  not_both : (n : Fault) (p : ℕ) → Readable t → read_at t ≡ Err (refusal n p) → ⊥
  not_both n p r e = cc

  refused_one : (n : Fault) (p : ℕ) (m : Fault) (q : ℕ) → Refused t n p → Refused t m q → (n ≡ m) × (p ≡ q)
  refused_one n p m q (unread e) (unread f) = let h : refusal n p ≡ refusal m q = cc in (ap (λ (x : Refusal). x.fault) h, ap (λ (x : Refusal). x.place) h)
  refused_one n p m q (unread e) (untyped r f) = absurd (not_both n p r e)
  refused_one n p m q (untyped r f) (unread e) = absurd (not_both m q r e)
  refused_one n p m q (untyped r f) (untyped _ h) = one_fault (table_of t) (suc (length t)) (all_read t (sizes_of t) r) n p m q f h

  accepted_or_refused : (n : Fault) (p : ℕ) → Readable t → Typed (table_of t) → Refused t n p → ⊥
  accepted_or_refused n p r d (unread e) = not_both n p r e
  accepted_or_refused n p r d (untyped _ f) = typed_faultless (table_of t) (suc (length t)) (all_read t (sizes_of t) r) n p d f

  -- ONLY ONE VERDICT MEANS WHAT IT SAYS: the words above fix number and place, without the checker
  pub means_one : (v w : Verdict) → Means t v → Means t w → v ≡ w
  means_one (Ok a) (Ok b) (_, _, e₁, e₂) (_, _, h₁, h₂) = rw (e₁, e₂, h₁, h₂) refl
  means_one (Ok a) (Err e) (r, d, _, _) h = absurd (accepted_or_refused e.fault e.place r d h)
  means_one (Err e) (Ok a) h (r, d, _, _) = absurd (accepted_or_refused e.fault e.place r d h)
  means_one (Err e) (Err f) h k = let q = refused_one e.fault e.place f.fault f.place h k in rw (q.0, q.1) refl
