-- The places of a table whose functions all read, or all type: where each stands, what is at it, how deep the stack
-- gets.
use Rattle.std.specs.Prelude.{ℕ, ◌+◌, ◌<◌, ◌≡◌, refl, ◌⊎◌, Bool, List, [], ◌∷◌, length}
use Rattle.std.proofs.Common.{arith, sym, ◌∙◌, subst, inl, inr, true≢false}
use Rattle.model.specs.Records.{length_pos}
use Rattle.model.specs.InOrder.{Chain, chain_le}
use Rattle.model.specs.Table.{Table, entry}
use Rattle.model.specs.declared.Record.{Record}
use Rattle.model.specs.declared.Record.TheVariants.{Call, Return}
use Rattle.model.specs.Blocks.{Rules, Laws, Every}
use Rattle.model.specs.Rules.{reading, Lower}
use Rattle.model.specs.theory.Flow.{To, Site, Flow, Flows, Frames}
use Rattle.model.specs.theory.Functions.{Called}
use Rattle.model.proofs.theory.Functions.{site_called, ret_alone}
use Rattle.model.specs.theory.Places.{Log}
use Rattle.model.proofs.theory.Places.{All, here, covers, needs, no_return, between, look, each, first, flows, Enters, FlowsAt}
use Rattle.model.specs.theory.Code.{Known, At}

no_call : (i : Record) (f : ℕ) (m : Bool) → i ≡ Return → i ≡ Call f m → ⊥
no_call i f m p q = true≢false (cc)

-- a CALL that is met in g is of a lower function
lower : (t : Table) → Known t → (g c f : ℕ) (m : Bool) → g < t.functions → Chain t (t.start g) c → c < t.ret g → t.rec c ≡ Call f m → f < g
lower t reads g c f m l h k e = go (covers t reading (reads.blocks g l).body c h)
  where
    go : ((G : Unit {0}) × Log t reading (reads.blocks g l).body c G) ⊎ Chain t (t.ret g) c → f < g
    go (inl w) = subst (Lower g) e (look t reading _ (reads.blocks g l).body (needs t reading (reads.blocks g l).body) c w.0 w.1 (rw e tt))
    go (inr w) = absurd (omega (arith, chain_le t w))

module _ (t : Table) (reads : Known t) (R : Rules) (typed : Every t R) where
  abbrev logged : (f : ℕ) (l : f < t.functions) → All t R (At t reads R typed f) (typed f l).body
  logged f l = each t R (At t reads R typed f) (typed f l).body (λ c G k. (l, inl k))

  pub enters_at : Laws R → (f : ℕ) → f < t.functions → To t R (At t reads R typed) f (t.start f) (R.enter f)
  enters_at laws f l = first t R (At t reads R typed) f laws (typed f l).body (logged f l) (l, inr (refl, refl))

  pub lower_at : (g c f : ℕ) (m : Bool) (E : R.Env) → At t reads R typed g c E → t.rec c ≡ Call f m → f < g
  lower_at g c f m E (l, inl k) e =
      let w = look t R _ (typed g l).body (between t R (typed g l).body) c E k in
      lower t reads g c f m l w.0 (omega (arith, chain_le t w.1, length_pos (t.rec c))) e
  lower_at g c f m E (l, inr (p, q)) e = absurd (no_call (t.rec c) f m (rw p (typed g l).returns) e)

  site_at : (f q : ℕ) (m : Bool) → Called t f q m → Site t R (At t reads R typed) f q m
  site_at f q m s = go (covers t R (typed s.caller s.function).body s.call s.met)
    where
      go : ((G : R.Env) × Log t R (typed s.caller s.function).body s.call G) ⊎ Chain t (t.ret s.caller) s.call → Site t R (At t reads R typed) f q m
      go (inl w) = record { caller = s.caller; call = s.call; env = w.0; here = (s.function, inl w.1); is = s.is; follows = s.follows }
      go (inr h) = absurd (omega (arith, chain_le t h, s.inside))

  pub flows_at : Laws R → Flows t R (At t reads R typed)
  flows_at laws f p E (l, inl k) =
      look t R (FlowsAt t R (At t reads R typed) f) (typed f l).body (flows t R (At t reads R typed) f laws (typed f l).body (logged f l)
      (each t R (Enters t R (At t reads R typed) f) (typed f l).body (λ c G j g m e. enters_at laws g (omega (arith, lower_at f c g m G (l, inl j) e)))) (l, inr (refl, refl))) p E k
  flows_at laws f p E (l, inr h) = here (λ c G. Flow t R (At t reads R typed) f c G (t.rec c)) (t.ret f) p (typed f l).last E
      (rw (typed f l).returns ((typed f l).fits, λ q m e. site_at f q m (site_called t reads.blocks reads.touch f q m l e))) h

  -- the stack never needs more places than there are functions below the entry
  pub depth : (f : ℕ) (st : List ℕ) → f < t.functions → Frames t R (At t reads R typed) f st → length st + f < t.functions
  depth f [] l g = omega arith
  depth f (q ∷ qs) l (m, s, g) = omega (arith, depth s.caller qs s.here.0 g, lower_at s.caller s.call f m s.env s.here s.is)

  -- at the entry's RETURN the environment is within the entry's out
  pub ends_within : (f p : ℕ) (E : R.Env) → At t reads R typed f p E → p ≡ t.ret ((entry t)) → R.Within E (R.leave ((entry t)))
  ends_within f p E (l, inl k) e = absurd (look t R _ (typed f l).body (no_return t R (typed f l).body) p E k (rw e (typed ((entry t)) reads.some_function).returns))
  ends_within f p E (l, inr (u, v)) e = rw (v, ← (ret_alone t reads.blocks reads.touch f (entry t) l reads.some_function (sym u ∙ e))) (typed f l).fits
