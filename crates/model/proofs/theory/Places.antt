-- From derivations to places: every record of a typed table has an environment, and the flow facts hold there.
use Rattle.std.specs.Prelude.{ℕ, ◌+◌, ◌≡◌, refl, ◌⊎◌, Bool}
use Rattle.std.proofs.Common.{subst, inl, inr, true≢false}
use Rattle.model.specs.Records.{length_of, Single, of_single}
use Rattle.model.specs.Table.{Table}
use Rattle.model.specs.declared.Record.{Record}
use Rattle.model.specs.declared.Record.TheVariants.{Call, If, Else, Endif, While, Endwhile, Return}
use Rattle.model.specs.Blocks.{Rules, Laws, Types, done, one, branch, loop}
use Rattle.model.specs.InOrder.{Chain, stay, on, chain_trans, past, meet}
use Rattle.model.specs.theory.Flow.{To, Flow}
use Rattle.model.specs.theory.Places.{Here, Log}

either : {X Y Z : Type 0} → X ⊎ Y → (X → Z) → (Y → Z) → Z
either (inl x) f g = f x
either (inr y) f g = g y

pub here : {X : Type 0} (P : ℕ → X → Type 0) (p c : ℕ) (E G : X) → P p E → Here p E c G → P c G
here P p c E G h (u, v) = rw (u, v) h

module _ (t : Table) (R : Rules) where
  pub spans : {g p q : ℕ} {E F : R.Env} → Types t R g p E q F → Chain t p q
  spans done = stay
  spans (one s n d) = on (spans d)
  spans (branch {p = p} {e = e} {n = n} {r = r} i g a j b k z) =
      on (past t p (If r e) i (chain_trans t (spans a) (on (past t e (Else n) j (chain_trans t (spans b) (on (past t n Endif k (spans z))))))))
  spans (loop {p = p} {e = e} {r = r} {L = L} i v g a j u z) =
      on (past t p (While r e L) i (chain_trans t (spans a) (on (past t e (Endwhile p) j (spans z)))))

  -- every record met from p on is in the log, or met from q on
  pub covers : {g p q : ℕ} {E F : R.Env} (d : Types t R g p E q F) (c : ℕ) → Chain t p c → ((G : R.Env) × Log t R d c G) ⊎ Chain t q c
  covers done c h = inr h
  covers (one {p = p} {E = E} s n d) c h =
      either (meet t p (t.rec p) refl h) (λ x. inl (E, inl (x, refl))) λ h₁.
      either (covers d c h₁) (λ w. inl (w.0, inr w.1)) inr
  covers (branch {p = p} {e = e} {n = n} {r = r} {E = E} {E₁ = E₁} {E₂ = E₂} i g a j b k z) c h =
      either (meet t p (If r e) i h) (λ x. inl (E, inl (x, refl))) λ h₁.
      either (covers a c h₁) (λ w. inl (w.0, inr (inl w.1))) λ h₂.
      either (meet t e (Else n) j h₂) (λ x. inl (E₁, inr (inr (inl (x, refl))))) λ h₃.
      either (covers b c h₃) (λ w. inl (w.0, inr (inr (inr (inl w.1))))) λ h₄.
      either (meet t n Endif k h₄) (λ x. inl (E₂, inr (inr (inr (inr (inl (x, refl))))))) λ h₅.
      either (covers z c h₅) (λ w. inl (w.0, inr (inr (inr (inr (inr w.1)))))) inr
  covers (loop {p = p} {e = e} {r = r} {E₁ = E₁} {L = L} i v g a j u z) c h =
      either (meet t p (While r e L) i h) (λ x. inl (R.loop L, inl (x, refl))) λ h₁.
      either (covers a c h₁) (λ w. inl (w.0, inr (inl w.1))) λ h₂.
      either (meet t e (Endwhile p) j h₂) (λ x. inl (E₁, inr (inr (inl (x, refl))))) λ h₃.
      either (covers z c h₃) (λ w. inl (w.0, inr (inr (inr w.1)))) inr

  -- P at each record of a derivation; this and the log say the same
  abbrev pub All : (P : ℕ → R.Env → Type 0) {g p q : ℕ} {E F : R.Env} → Types t R g p E q F → Type 0
  All P done = Unit {0}
  All P (one {p = p} {E = E} s n d) = P p E × All P d
  All P (branch {p = p} {e = e} {n = n} {E = E} {E₁ = E₁} {E₂ = E₂} i g a j b k z) = P p E × All P a × P e E₁ × All P b × P n E₂ × All P z
  All P (loop {p = p} {e = e} {E₁ = E₁} {L = L} i v g a j u z) = P p (R.loop L) × All P a × P e E₁ × All P z

  pub look : (P : ℕ → R.Env → Type 0) {g p q : ℕ} {E F : R.Env} (d : Types t R g p E q F) → All P d → (c : ℕ) (G : R.Env) → Log t R d c G → P c G
  look P done h c G l = absurd l
  look P (one {p = p} {E = E} s n d) h c G l = either l (here P p c E G h.0) λ l. look P d h.1 c G l
  look P (branch {p = p} {e = e} {n = n} {E = E} {E₁ = E₁} {E₂ = E₂} i g a j b k z) h c G l =
      either l (here P p c E G h.0) λ l. either l (look P a h.1 c G) λ l. either l (here P e c E₁ G h.2) λ l.
      either l (look P b h.3 c G) λ l. either l (here P n c E₂ G h.4) (look P z h.5 c G)
  look P (loop {p = p} {e = e} {E₁ = E₁} {L = L} i v g a j u z) h c G l =
      either l (here P p c (R.loop L) G h.0) λ l. either l (look P a h.1 c G) λ l. either l (here P e c E₁ G h.2) (look P z h.3 c G)

  pub each : (P : ℕ → R.Env → Type 0) {g p q : ℕ} {E F : R.Env} (d : Types t R g p E q F) → ((c : ℕ) (G : R.Env) → Log t R d c G → P c G) → All P d
  each P done f = tt
  each P (one {p = p} {E = E} s n d) f = (f p E (inl (refl, refl)), each P d (λ c G l. f c G (inr l)))
  each P (branch {p = p} {e = e} {n = n} {E = E} {E₁ = E₁} {E₂ = E₂} i g a j b k z) f = (
    f p E (inl (refl, refl)),
    each P a (λ c G l. f c G (inr (inl l))),
    f e E₁ (inr (inr (inl (refl, refl)))),
    each P b (λ c G l. f c G (inr (inr (inr (inl l))))),
    f n E₂ (inr (inr (inr (inr (inl (refl, refl)))))),
    each P z (λ c G l. f c G (inr (inr (inr (inr (inr l)))))),
  )
  each P (loop {p = p} {e = e} {E₁ = E₁} {L = L} i v g a j u z) f =
      (f p (R.loop L) (inl (refl, refl)), each P a (λ c G l. f c G (inr (inl l))), f e E₁ (inr (inr (inl (refl, refl)))), each P z (λ c G l. f c G (inr (inr (inr l)))))

  pub map : (P Q : ℕ → R.Env → Type 0) {g p q : ℕ} {E F : R.Env} (d : Types t R g p E q F) → ((c : ℕ) (G : R.Env) → P c G → Q c G) → All P d → All Q d
  map P Q d f h = each Q d (λ c G l. f c G (look P d h c G l))

  -- each single record's needs are met
  clash : (i j : Record) → i ≡ j → (Single j → ⊥) → Single i → ⊥
  clash i j e h s = h (subst Single e s)

  pub needs : {g p q : ℕ} {E F : R.Env} (d : Types t R g p E q F) → All (λ c G. Single (t.rec c) → R.Needs g (t.rec c) G) d
  needs done = tt
  needs (one s n d) = (λ _. n, needs d)
  needs (branch {p = p} {e = e} {n = n} {r = r} i g a j b k z) =
      (λ s. absurd (clash (t.rec p) (If r e) i (λ x. x) s), needs a, λ s. absurd (clash (t.rec e) (Else n) j (λ x. x) s), needs b, λ s. absurd (clash (t.rec n) Endif k (λ x. x) s), needs z)
  needs (loop {p = p} {e = e} {r = r} {L = L} i v g a j u z) =
      (λ s. absurd (clash (t.rec p) (While r e L) i (λ x. x) s), needs a, λ s. absurd (clash (t.rec e) (Endwhile p) j (λ x. x) s), needs z)

  -- no RETURN is in the log
  pub no_return : {g p q : ℕ} {E F : R.Env} (d : Types t R g p E q F) → All (λ c G. t.rec c ≡ Return → ⊥) d
  no_return done = tt
  no_return (one s n d) = (λ e. subst Single e s, no_return d)
  no_return (branch {p = p} {e = e} {n = n} {r = r} i g a j b k z) =
      (λ x. true≢false (cc (i, x)), no_return a, λ x. true≢false (cc (j, x)), no_return b, λ x. true≢false (cc (k, x)), no_return z)
  no_return (loop i v g a j u z) = (λ x. true≢false (cc (i, x)), no_return a, λ x. true≢false (cc (j, x)), no_return z)

  -- a record met between p and q
  abbrev pub Between : ℕ → ℕ → ℕ → R.Env → Type 0
  Between p q c G = Chain t p c × Chain t (c + length_of (t.rec c)) q

  inner : {g p p' q' q : ℕ} {E F : R.Env} (d : Types t R g p' E q' F) → Chain t p p' → Chain t q' q → All (Between p' q') d → All (Between p q) d
  inner {p = p} {p' = p'} {q' = q'} {q = q} d h k = map (Between p' q') (Between p q) d (λ c G w. (chain_trans t h w.0, chain_trans t w.1 k))

  pub between : {g p q : ℕ} {E F : R.Env} (d : Types t R g p E q F) → All (Between p q) d
  between done = tt
  between (one s n d) = ((stay, spans d), inner d (on stay) stay (between d))
  between {q = q} (branch {p = p} {e = e} {n = n} {r = r} i g a j b k z) =
      let in₁ : Chain t p (p + 4) = on (past t p (If r e) i stay) in
      let in₂ : Chain t p e = chain_trans t in₁ (spans a) in
      let in₃ : Chain t p (e + 3) = chain_trans t in₂ (on (past t e (Else n) j stay)) in
      let in₄ : Chain t p n = chain_trans t in₃ (spans b) in
      let in₅ : Chain t p (n + 1) = chain_trans t in₄ (on (past t n Endif k stay)) in
      let out₄ : Chain t n q = on (past t n Endif k (spans z)) in
      let out₃ : Chain t (e + 3) q = chain_trans t (spans b) out₄ in
      let out₂ : Chain t e q = on (past t e (Else n) j out₃) in (
        (stay, past t p (If r e) i (chain_trans t (spans a) out₂)),
        inner a in₁ out₂ (between a),
        (in₂, past t e (Else n) j out₃),
        inner b in₃ out₄ (between b),
        (in₄, past t n Endif k (spans z)),
        inner z in₅ stay (between z),
      )
  between {q = q} (loop {p = p} {e = e} {r = r} {L = L} i v g a j u z) =
      let in₁ : Chain t p (p + 11) = on (past t p (While r e L) i stay) in
      let in₂ : Chain t p e = chain_trans t in₁ (spans a) in
      let in₃ : Chain t p (e + 3) = chain_trans t in₂ (on (past t e (Endwhile p) j stay)) in
      let out₂ : Chain t e q = on (past t e (Endwhile p) j (spans z)) in
      ((stay, past t p (While r e L) i (chain_trans t (spans a) out₂)), inner a in₁ out₂ (between a), (in₂, past t e (Endwhile p) j (spans z)), inner z in₃ stay (between z))

  module _ (at : ℕ → ℕ → R.Env → Type 0) (f : ℕ) where
    -- a derivation begins at its first place
    pub first : Laws R → {p q : ℕ} {E F : R.Env} (d : Types t R f p E q F) → All (at f) d → at f q F → To t R at f p E
    first laws {E = E} done h w = record { env = E; here = w; within = laws.within_refl E }
    first laws {E = E} (one s n d) h w = record { env = E; here = h.0; within = laws.within_refl E }
    first laws {E = E} (branch i g a j b k z) h w = record { env = E; here = h.0; within = laws.within_refl E }
    first laws (loop {L = L} i v g a j u z) h w = record { env = R.loop L; here = h.0; within = v }

    -- at each record, where its CALL goes
    abbrev pub Enters : ℕ → R.Env → Type 0
    Enters c G = (g : ℕ) (m : Bool) → t.rec c ≡ Call g m → To t R at g (t.start g) (R.enter g)

    abbrev pub FlowsAt : ℕ → R.Env → Type 0
    FlowsAt c G = Flow t R at f c G (t.rec c)

    single : (p : ℕ) (E : R.Env) (i : Record) → t.rec p ≡ i → Single i → R.Needs f i E → To t R at f (p + length_of i) (R.after i E) → Enters p E → Flow t R at f p E i
    single p E i e s n w x = of_single (λ i. t.rec p ≡ i → R.Needs f i E → To t R at f (p + length_of i) (R.after i E) → Flow t R at f p E i)
        (λ s e n w. (n, w)) (λ g m e n w. ((n, w), x g m e)) i s e n w

    -- the flow facts of every record of a derivation
    pub flows : Laws R → {p q : ℕ} {E F : R.Env} (d : Types t R f p E q F) → All (at f) d → All Enters d → at f q F → All FlowsAt d
    flows laws done h x w = tt
    flows laws (one {p = p} {E = E} s n d) h x w = (single p E (t.rec p) refl s n (first laws d h.1 w) x.0, flows laws d h.1 x.1 w)
    flows laws (branch {p = p} {e = e} {n = n} {E = E} {E₁ = E₁} {E₂ = E₂} i g a j b k z) h x w =
        let to : To t R at f (n + 1) (R.join E₁ E₂) = first laws z h.5 w in
        let after_left : To t R at f (n + 1) E₁ = record { env = to.env; here = to.here; within = laws.within_trans E₁ (R.join E₁ E₂) to.env (laws.join_left E₁ E₂) to.within } in
        let after_right : To t R at f (n + 1) E₂ = record { env = to.env; here = to.here; within = laws.within_trans E₂ (R.join E₁ E₂) to.env (laws.join_right E₁ E₂) to.within } in (
          rw i (g, first laws a h.1 h.2, first laws b h.3 h.4),
          flows laws a h.1 x.1 h.2,
          rw j after_left,
          flows laws b h.3 x.3 h.4,
          rw k after_right,
          flows laws z h.5 x.5 w,
        )
    flows laws (loop {p = p} {e = e} {E₁ = E₁} {L = L} i v g a j u z) h x w =
        (rw i (g, first laws a h.1 h.2, first laws z h.3 w), flows laws a h.1 x.1 h.2, rw j record { env = R.loop L; here = h.0; within = u }, flows laws z h.3 x.3 w)
