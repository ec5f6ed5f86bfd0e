-- The functions of a table in order: they fill the code, and a function's return sites are exactly the places after
-- its CALLs.
use Prim.Native.Nat.{ℕ, zero, suc, ◌+◌, ◌-◌, ◌<◌, ◌≤◌}
use Rattle.std.proofs.Common.{arith, sym, ap, subst, ◌∙◌, inl, inr, true≢false, le-leb}
use Rattle.std.specs.Prelude.{◌≡◌, refl, ◌⊎◌, Bool, leb, Some}
use Rattle.std.proofs.lemmas.Bool.{lt-leb}
use Rattle.std.proofs.Math.Decide.{ℕ_discrete, dec_lt}
use Rattle.model.specs.Tests.{pick, same}
use Rattle.model.specs.Table.{Table}
use Rattle.model.specs.InOrder.{Chain, stay, on, chain_le, chain_trans, past, meet, In, Touch, code, listed, listed_met, touching}
use Rattle.model.specs.Sites.{home_of, mark_in, site}
use Rattle.model.proofs.Sites.{mark_listed, call_marked}
use Rattle.model.specs.declared.Record.{Record}
use Rattle.model.specs.declared.Record.TheVariants.{Call, Return}
use Rattle.model.specs.Rules.{reading}
use Rattle.model.specs.Blocks.{Every}
use Rattle.model.proofs.theory.Places.{spans, covers, look, between}
use Rattle.model.specs.theory.Places.{Log}
use Rattle.model.specs.theory.Functions.{Called, edge, InFunction}

module _ (t : Table) where
  edge_start : (g : ℕ) → g < t.functions → edge t g ≡ t.start g
  edge_start g l = same g t.functions (λ b. pick b t.size (t.start g) ≡ t.start g) (λ e. absurd (omega arith)) (λ _. refl)

  edge_end : (g : ℕ) → g ≡ t.functions → edge t g ≡ t.size
  edge_end g q = same g t.functions (λ b. pick b t.size (t.start g) ≡ t.size) (λ _. refl) (λ n. absurd (n q))

  -- of a table that reads: its functions touch, and the last one ends it
  module _ (blocks : Every t reading) (touch : (g : ℕ) → g < t.functions → edge t (suc g) ≡ t.ret g + 1) where
    -- whatever is met from function g on is met in one of the functions
    locate : (n g c : ℕ) → g + n ≡ t.functions → Chain t (edge t g) c → c < t.size → InFunction t c
    locate zero g c e w l =
        let same_g : g ≡ t.functions = omega arith in
        absurd (omega (arith, chain_le t (subst (λ (x : ℕ). Chain t x c) (edge_end g same_g) w)))
    locate (suc n) g c e w l = go (covers t reading (blocks g lg).body c wg) (λ v. locate n (suc g) c (omega arith) v l)
      where
        lg : g < t.functions
        lg = omega arith

        wg : Chain t (t.start g) c
        wg = subst (λ (x : ℕ). Chain t x c) (edge_start g lg) w

        go : ((G : Unit {0}) × Log t reading (blocks g lg).body c G) ⊎ Chain t (t.ret g) c → (Chain t (edge t (suc g)) c → InFunction t c) → InFunction t c
        go (inl (G, k)) rest = (g, lg, wg, omega (arith, chain_le t (look t reading _ (blocks g lg).body (between t reading (blocks g lg).body) c G k).1))
        go (inr v) rest = last (meet t (t.ret g) Return (blocks g lg).returns v)
          where
            last : (c ≡ t.ret g) ⊎ Chain t (t.ret g + 1) c → InFunction t c
            last (inl u) = (g, lg, wg, omega arith)
            last (inr u) = rest (subst (λ (x : ℕ). Chain t x c) (sym (touch g lg)) u)

    -- the code goes on to the table's end
    reaches_end : (n g : ℕ) → g + n ≡ t.functions → Chain t (edge t g) t.size
    reaches_end zero g e = rw (edge_end g (omega arith)) stay
    reaches_end (suc n) g e =
        let lg : g < t.functions = omega arith in
        let rest : Chain t (t.ret g + 1) t.size = subst (λ (x : ℕ). Chain t x t.size) (touch g lg) (reaches_end n (suc g) (omega arith)) in
        rw (edge_start g lg) (chain_trans t (spans t reading (blocks g lg).body) (on (past t (t.ret g) Return (blocks g lg).returns rest)))

    to_start : (g : ℕ) → g < t.functions → Chain t (t.start 0) (t.start g)
    to_start zero l = stay
    to_start (suc g) l =
        let lg : g < t.functions = omega arith in
        let next : t.ret g + 1 ≡ t.start (suc g) = sym (touch g lg) ∙ edge_start (suc g) l in
        chain_trans t (to_start g lg) (chain_trans t (spans t reading (blocks g lg).body) (on (past t (t.ret g) Return (blocks g lg).returns (subst (Chain t (t.ret g + 1)) next stay))))

    -- the list has whatever is met in one of the functions
    pub met_listed : (c : ℕ) → InFunction t c → In c (t.rec c) (code t)
    met_listed c (g, l, w, k) =
        let end : edge t (suc g) ≤ t.size = chain_le t (reaches_end (t.functions - suc g) (suc g) (omega arith)) in
        listed t (chain_trans t (to_start g l) w) (omega (arith, end, touch g l))

    -- every function's RETURN is listed, and the last one's is the table's last byte
    pub return_listed : (f : ℕ) → f < t.functions → In (t.ret f) Return (code t)
    return_listed f l = subst (λ (i : Record). In (t.ret f) i (code t)) (blocks f l).returns (met_listed (t.ret f) (f, l, spans t reading (blocks f l).body, omega arith))

    pub ends_the_table : (f : ℕ) → suc f ≡ t.functions → t.size ≡ t.ret f + 1
    ends_the_table f e = sym (edge_end (suc f) e) ∙ touch f (omega arith)

    -- the records fill the code, from the first function's start to the table's end
    pub code_touches : 0 < t.functions → Touch (t.start 0) t.size (code t)
    code_touches l = touching t (subst (λ (x : ℕ). Chain t x t.size) (edge_start 0 l) (reaches_end t.functions 0 (omega arith))) refl

    -- a listed CALL is met in one of the functions
    call_met : (c f : ℕ) (m : Bool) → 0 < t.functions → In c (Call f m) (code t) → Called t f (c + 3) m
    call_met c f m some_function h =
        let (w, l, i) = listed_met t (t.start 0) c (Call f m) h in
        let (g, lg, v, le) = locate t.functions 0 c (omega arith) (subst (λ (x : ℕ). Chain t x c) (sym (edge_start 0 some_function)) w) l in
        record { caller = g; call = c; function = lg; met = v; inside = before g lg c le i; is = i; follows = refl }
      where
        before : (g : ℕ) (lg : g < t.functions) (c : ℕ) → c ≤ t.ret g → t.rec c ≡ Call f m → c < t.ret g
        before g lg c l i = go (ℕ_discrete c (t.ret g))
          where
            go : Dec (c ≡ t.ret g) → c < t.ret g
            go (yes x) = absurd (true≢false (cc (sym i, ap t.rec x, (blocks g lg).returns)))
            go (no x) = omega arith

    -- functions lie in order
    starts_before : (g : ℕ) (l : g < t.functions) → t.start g ≤ t.ret g
    starts_before g l = chain_le t (spans t reading (blocks g l).body)

    ret_below : (n f : ℕ) → f < n → n < t.functions → t.ret f < t.start n
    ret_below zero f l k = absurd (omega arith)
    ret_below (suc n) f l k =
        let e : t.start (suc n) ≡ t.ret n + 1 = sym (edge_start (suc n) k) ∙ touch n (omega arith) in
        go e (ℕ_discrete f n) (λ m. ret_below n f m (omega arith))
      where
        go : t.start (suc n) ≡ t.ret n + 1 → Dec (f ≡ n) → (f < n → t.ret f < t.start n) → t.ret f < t.start (suc n)
        go e (yes q) ih = rw q (omega (arith, e))
        go e (no q) ih = omega (arith, e, ih (omega arith), starts_before n (omega arith))

    -- no two functions share a RETURN
    pub ret_alone : (f g : ℕ) → f < t.functions → g < t.functions → t.ret f ≡ t.ret g → f ≡ g
    ret_alone f g lf lg e = go (dec_lt f g) (dec_lt g f)
      where
        go : Dec (f < g) → Dec (g < f) → f ≡ g
        go (yes l) y = absurd (omega (arith, ret_below g f l lg, starts_before g lg))
        go (no n) (yes l) = absurd (omega (arith, ret_below f g l lf, starts_before f lf))
        go (no n) (no m) = omega arith

    -- the function that a RETURN lies in is its own
    pub home_own : (n f : ℕ) → f < n → n ≤ t.functions → home_of t.start n (t.ret f) ≡ f
    unfolding home_of
    home_own zero f l k = absurd (omega arith)
    home_own (suc n) f l k = go (ℕ_discrete f n) (λ m. home_own n f m (omega arith))
      where
        go : Dec (f ≡ n) → (f < n → home_of t.start n (t.ret f) ≡ f) → pick (leb (t.start n) (t.ret f)) n (home_of t.start n (t.ret f)) ≡ f
        go (yes q) ih = rw (le-leb (t.start n) (t.ret f) (rw q (starts_before n (omega arith)))) (sym q)
        go (no q) ih = rw (lt-leb (t.start n) (t.ret f) (ret_below n f (omega arith) (omega arith))) (ih (omega arith))

    -- where a function's RETURN may go back to, that follows one of its CALLs
    pub site_called : (f q : ℕ) (m : Bool) → f < t.functions → site t (t.ret f) q ≡ Some m → Called t f q m
    unfolding site
    site_called f q m l e =
        let (c, h, u) = mark_listed (code t) f q m (subst (λ (g : ℕ). mark_in (code t) g q ≡ Some m) (home_own t.functions f l (omega arith)) e) in
        rw u (call_met c f m (omega arith) h)

    -- and it may go back to each place that follows one, by that CALL's mark
    pub called_site : (f q : ℕ) (m : Bool) → f < t.functions → Called t f q m → site t (t.ret f) q ≡ Some m
    unfolding site
    called_site f q m l s =
        let h = met_listed s.call (s.caller, s.function, s.met, omega (arith, s.inside)) in
        rw (s.follows, home_own t.functions f l (omega arith)) (call_marked t (t.start 0) s.call f m (subst (λ (i : Record). In s.call i (code t)) s.is h))
