-- Each record's work on two data states that an environment allows side by side (specs/theory/Alike).
use Rattle.std.specs.Prelude.{ℕ, ◌≤◌, ◌<◌, max, ◌≡◌, Bool, true, false, ◌&&◌, List, length, set, T, ltb, Result, Ok, Err}
use Rattle.std.proofs.Common.{zero-le, arith, le_refl, le_trans, sym, ◌∙◌, subst, true≢false, length-set, get_or-set_other, ltb→lt, lt→ltb, not-suc-le-zero}
use Rattle.std.proofs.Math.Path.{refl}
use Rattle.std.proofs.Math.ListN.{get_or-eq_default}
use Rattle.std.proofs.Math.Decide.{dec_lt}
use Rattle.model.specs.Tests.{pick, put, same, put_same, test}
use Rattle.model.specs.Memory.{set_alike, disjoint}
use Rattle.model.specs.Levels.{Env, Covers, Within}
use Rattle.model.specs.Records.{SimpleReaches}
use Rattle.model.specs.Table.{Table}
use Rattle.model.specs.declared.Stop.TheVariants.{AccessOutOfRange, NoSuchTarget}
use Rattle.model.specs.declared.Status.{Status}
use Rattle.model.specs.declared.Status.TheVariants.{Unknown, Updated, Outdated}
use Rattle.model.specs.declared.Operation.{Operation}
use Rattle.model.specs.declared.Stop.{Stop}
use Rattle.model.specs.declared.Directive.{Directive}
use Rattle.model.specs.declared.Directive.TheVariants.{Plain, Branch, Stray, Back}
use Rattle.model.specs.declared.Observation.TheVariants.{Nothing, Address}
use Rattle.model.specs.declared.Simple.{Simple}
use Rattle.model.specs.declared.Simple.TheVariants.{Const, Op, Select, Load, Store, Init, Update, Protect, LoadFixed, StoreFixed}
use Rattle.model.specs.Rules.{kill, settle, written, raised, spilled, beside, Needs, after}
use Rattle.model.proofs.theory.Settled.{unsettled}
use Rattle.model.specs.Machine.{Data, words_of, address, Work, halt, did, reg, word_at, holds, wrote, stored, plain, by_access, in_range, strayed, access, work}
use Rattle.model.specs.theory.Alike.{top, Flag, Alike}

-- what the status says is kept where it is weakened, and where another register is written
flag_weaken : (s u : Status) (x : ℕ → ℕ) (mis m : Bool) → Covers s u → Flag s x mis m → Flag u x mis m
flag_weaken s Unknown x mis m c h = tt
flag_weaken s Updated x mis m c h = subst (λ (z : Status). Flag z x mis m) c h
flag_weaken s (Outdated r b) x mis m c h = subst (λ (z : Status). Flag z x mis m) c h

flag_kill : (s : Status) (x : Data) (d v : ℕ) (mis m : Bool) → Flag s (reg x) mis m → Flag (kill d s) (reg (wrote x d v)) mis m
unfolding kill
flag_kill Unknown x d v mis m h = tt
flag_kill Updated x d v mis m h = h
flag_kill (Outdated r s) x d v mis m h = same r d (λ b. Flag (pick b Unknown (Outdated r s)) (reg (wrote x d v)) mis m) (λ _. tt) (λ ne. rw (get_or-set_other x.regs d r v 0 ne) h)

module _ (t : Table) where
  -- the work of one record, in two runs: it ends alike, and what it leaves is alike
  abbrev pub Works : Env → Bool → Work → Work → Type 0
  Works E mis (halt j) (halt k) = j ≡ k
  Works E mis (halt j) (did y p) = ⊥
  Works E mis (did x o) (halt k) = ⊥
  Works E mis (did x o) (did y p) = (o ≡ p) × Alike t E mis x y

  -- past the registers there is nothing to tell apart
  beyond : (E : Env) (mis : Bool) (x y : Data) → Alike t E mis x y → (i : ℕ) → (i < t.registers → ⊥) → reg x i ≡ reg y i
  beyond E mis x y h i n =
      get_or-eq_default x.regs 0 (omega (arith, h.wide₁)) ∙ sym (get_or-eq_default y.regs 0 (omega (arith, h.wide₂)))

  -- an array with a word is one of the table's
  pub in_words : (b j : ℕ) → j < words_of t b → b < t.arrays
  in_words b j k = go (dec_lt b t.arrays)
    where
      go : Dec (b < t.arrays) → b < t.arrays
      go (yes h) = h
      go (no h) = absurd (not-suc-le-zero (subst (λ (n : ℕ). j < n) (get_or-eq_default t.words 0 (omega (arith, t.counted))) k))

  pub weaken : (E F : Env) (mis : Bool) (x y : Data) → Within t.registers t.arrays E F → Alike t E mis x y → Alike t F mis x y
  weaken E F mis x y w h = record {
    flag₁ = flag_weaken E.status F.status (reg x) mis x.masked w.status h.flag₁;
    flag₂ = flag_weaken E.status F.status (reg y) mis y.masked w.status h.flag₂;
    wide₁ = h.wide₁;
    wide₂ = h.wide₂;
    long = h.long;
    regs = λ i l. seen i l (dec_lt i t.registers);
    mem = λ a i k l. h.mem a i k (le_trans (w.arrays a (in_words a i k)) l);
  }
    where
      seen : (i : ℕ) → F.regs i ≤ top mis → Dec (i < t.registers) → reg x i ≡ reg y i
      seen i l (yes k) = h.regs i (le_trans (w.regs i k) l)
      seen i l (no n) = beyond E mis x y h i n

  -- a public register
  pub public : (E : Env) (mis : Bool) (x y : Data) → Alike t E mis x y → (i : ℕ) → E.regs i ≡ 0 → reg x i ≡ reg y i
  public E mis x y h i e = h.regs i (rw e zero-le)

  put_alike : (E : Env) (mis : Bool) (x y : Data) → Alike t E mis x y → (d l v w : ℕ) → (l ≤ top mis → v ≡ w)
      → (i : ℕ) → put E.regs d l i ≤ top mis → reg (wrote x d v) i ≡ reg (wrote y d w) i
  put_alike E mis x y h d l v w e i = same i d (λ b. pick b l (E.regs i) ≤ top mis → reg (wrote x d v) i ≡ reg (wrote y d w) i)
      (λ q k. set_alike x.regs y.regs d v w i (h.wide₁ ∙ sym h.wide₂) (λ _. e k) (λ n. absurd (n q)))
      (λ n k. set_alike x.regs y.regs d v w i (h.wide₁ ∙ sym h.wide₂) (λ q. absurd (n q)) (λ _. h.regs i k))

  same_length : (xs ys : List ℕ) (d v w : ℕ) → length xs ≡ length ys → length (set xs d v) ≡ length (set ys d w)
  same_length xs ys d v w e = length-set xs d v ∙ e ∙ sym (length-set ys d w)

  wrote_alike : (E : Env) (mis : Bool) (x y : Data) → Alike t E mis x y → (d l v w : ℕ) → (l ≤ top mis → v ≡ w) → Alike t (written E d l) mis (wrote x d v) (wrote y d w)
  wrote_alike E mis x y h d l v w e = record {
    flag₁ = flag_kill E.status x d v mis x.masked h.flag₁;
    flag₂ = flag_kill E.status y d w mis y.masked h.flag₂;
    wide₁ = length-set x.regs d v ∙ h.wide₁;
    wide₂ = length-set y.regs d w ∙ h.wide₂;
    long = h.long;
    regs = put_alike E mis x y h d l v w e;
    mem = h.mem;
  }

  pub plain_works : (E : Env) (mis : Bool) (dir : Directive) (w v : Work) → Works E mis w v → Works E mis (plain dir w) (plain dir v)
  plain_works E mis Plain w v h = h
  plain_works E mis (Branch b) w v h = refl
  plain_works E mis (Stray a i) w v h = refl
  plain_works E mis (Back q) w v h = refl

  write_works : (E : Env) (mis : Bool) (x y : Data) → Alike t E mis x y → (dir : Directive) (d l v w : ℕ) → (l ≤ top mis → v ≡ w)
      → Works (written E d l) mis (plain dir (did (wrote x d v) Nothing)) (plain dir (did (wrote y d w) Nothing))
  write_works E mis x y h dir d l v w e = plain_works (written E d l) mis dir _ _ (refl, wrote_alike E mis x y h d l v w e)

  -- word j of array b becomes register s, array a having been named and raised to l: the other arrays' levels do not
  -- fall, and the word is seen only if the register is
  stored_alike : (E : Env) (mis : Bool) (x y : Data) → Alike t E mis x y → (others : ℕ → ℕ) (a l s b j : ℕ) → ((c : ℕ) → E.arrays c ≤ others c) → j < words_of t b
      → (put others a (max (E.arrays a) l) b ≤ top mis → E.regs s ≤ top mis)
      → Alike t (raised E others a l) mis (stored t x b j (reg x s)) (stored t y b j (reg y s))
  stored_alike E mis x y h others a l s b j up g seen = record {
    flag₁ = h.flag₁;
    flag₂ = h.flag₂;
    wide₁ = h.wide₁;
    wide₂ = h.wide₂;
    long = same_length x.mem y.mem (address t b j) (reg x s) (reg y s) h.long;
    regs = h.regs;
    mem = λ c k m p. set_alike x.mem y.mem (address t b j) (reg x s) (reg y s) (address t c k) h.long
        (λ q. h.regs s (seen (rw (← (disjoint t.words c k b j m g q)) p))) (λ _. h.mem c k m (le_trans (kept c) p));
  }
    where
      kept : (c : ℕ) → E.arrays c ≤ put others a (max (E.arrays a) l) c
      kept c = same c a (λ z. E.arrays c ≤ pick z (max (E.arrays a) l) (others c)) (λ q. rw q (omega arith)) (λ _. up c)

-- ---- STORE and the other arrays
beside_kept : (m l b v : ℕ) → v ≤ beside m l b v
unfolding beside
beside_kept m l b v = test (ltb b m) (λ x. v ≤ pick x (max v (spilled l)) v) (λ _. omega arith) (λ _. le_refl v)

beside_source : (m l b v : ℕ) → b < m → beside m l b v ≤ 0 → l ≤ 0
unfolding beside
beside_source m l b v k = test (ltb b m) (λ x. pick x (max v (spilled l)) v ≤ 0 → l ≤ 0) (λ _ h. omega arith) (λ e. absurd (subst T e (lt→ltb b m k)))

-- ---- the records
module _ (t : Table) where
  -- an access touches a word in range; on the right path, of the array asked for
  abbrev pub Touches : ℕ → Bool → Result (ℕ × ℕ) Stop → Type 0
  Touches a mis (Ok (b, j)) = (mis ≡ false → b ≡ a) × (j < words_of t b)
  Touches a mis (Err k) = Unit {0}

  pub access_touches : (a i : ℕ) (mis : Bool) (dir : Directive) → Touches a mis (access t a i mis dir)
  unfolding access
  access_touches a i mis dir = test (ltb i (words_of t a)) (λ b. Touches a mis (pick b (in_range t a i dir) (pick mis (strayed t dir) (Err AccessOutOfRange)))) (λ e. near dir (ltb→lt i (words_of t a) (rw e tt))) (λ _. far mis dir)
    where
      near : (dir : Directive) → i < words_of t a → Touches a mis (in_range t a i dir)
      near Plain l = (λ _. refl, l)
      near (Branch b) l = tt
      near (Stray b j) l = tt
      near (Back q) l = tt

      far : (mis : Bool) (dir : Directive) → Touches a mis (pick mis (strayed t dir) (Err AccessOutOfRange))
      far false dir = tt
      far true Plain = tt
      far true (Branch b) = tt
      far true (Stray b j) = test (ltb b t.arrays) (λ z. Touches a true (pick (z && ltb j (words_of t b)) (Ok (b, j)) (Err NoSuchTarget)))
          (λ _. test (ltb j (words_of t b)) (λ z. Touches a true (pick z (Ok (b, j)) (Err NoSuchTarget))) (λ e. (λ q. absurd (true≢false q), ltb→lt j (words_of t b) (rw e tt))) (λ _. tt)) (λ _. tt)
      far true (Back q) = tt

  module _ (E : Env) (mis : Bool) (x y : Data) (h : Alike t E mis x y) (dir : Directive) where
    const_works : (d v : ℕ) → Works t (after t.arrays (Const d v) E) mis (work t (Const d v) dir mis x) (work t (Const d v) dir mis y)
    const_works d v = write_works t E mis x y h dir d 0 v v (λ _. refl)

    op_works : (d : ℕ) (o : Operation) (l r : ℕ) → Works t (after t.arrays (Op d o l r) E) mis (work t (Op d o l r) dir mis x) (work t (Op d o l r) dir mis y)
    op_works d o l r = write_works t E mis x y h dir d _ _ _ (λ q. rw (h.regs l (omega arith), h.regs r (omega arith)))

    select_works : (d c u v : ℕ) → Works t (after t.arrays (Select d c u v) E) mis (work t (Select d c u v) dir mis x) (work t (Select d c u v) dir mis y)
    select_works d c u v = write_works t E mis x y h dir d _ _ _ (λ q. rw (h.regs c (omega arith), h.regs u (omega arith), h.regs v (omega arith)))

    load_works : (d a i : ℕ) → E.regs i ≡ 0 → Works t (after t.arrays (Load d a i) E) mis (work t (Load d a i) dir mis x) (work t (Load d a i) dir mis y)
    load_works d a i e = rw (public t E mis x y h i e) (go (access t a (reg y i) mis dir) (access_touches a (reg y i) mis dir))
      where
        value : (b j : ℕ) (m : Bool) → m ≡ mis → (m ≡ false → b ≡ a) → j < words_of t b → max 1 (E.arrays a) ≤ top m → word_at t x b j ≡ word_at t y b j
        value b j true e f k l = absurd (no_way l)
          where
            no_way : max 1 (E.arrays a) ≤ 0 → ⊥
            no_way l = omega arith
        value b j false e f k l = h.mem b j k (rw (← e, f refl) (omega arith))

        go : (z : Result (ℕ × ℕ) Stop) → Touches a mis z → Works t (after t.arrays (Load d a i) E) mis
            (by_access z (λ b j. did (wrote x d (word_at t x b j)) (Address a (reg y i)))) (by_access z (λ b j. did (wrote y d (word_at t y b j)) (Address a (reg y i))))
        go (Ok (b, j)) f = (refl, wrote_alike t E mis x y h d _ _ _ (value b j mis refl f.0 f.1))
        go (Err k) f = refl

    store_works : (a i s : ℕ) → E.regs i ≡ 0 → Works t (after t.arrays (Store a i s) E) mis (work t (Store a i s) dir mis x) (work t (Store a i s) dir mis y)
    store_works a i s e = rw (public t E mis x y h i e) (go (access t a (reg y i) mis dir) (access_touches a (reg y i) mis dir))
      where
        others : ℕ → ℕ
        others = λ b. beside t.arrays (E.regs s) b (E.arrays b)

        -- what a store writes is seen only if the source is
        source : (b : ℕ) (m : Bool) → m ≡ mis → (m ≡ false → b ≡ a) → b < t.arrays → put others a (max (E.arrays a) (E.regs s)) b ≤ top m → E.regs s ≤ top m
        source b true e f k = same b a (λ z. pick z (max (E.arrays a) (E.regs s)) (beside t.arrays (E.regs s) b (E.arrays b)) ≤ 0 → E.regs s ≤ 0) (λ _ l. omega arith) (λ _. beside_source t.arrays (E.regs s) b (E.arrays b) k)
        source b false e f k = same b a (λ z. pick z (max (E.arrays a) (E.regs s)) (beside t.arrays (E.regs s) b (E.arrays b)) ≤ 1 → E.regs s ≤ 1) (λ _ l. omega arith) (λ n l. absurd (n (f refl)))

        go : (z : Result (ℕ × ℕ) Stop) → Touches a mis z → Works t (after t.arrays (Store a i s) E) mis
            (by_access z (λ b j. did (stored t x b j (reg x s)) (Address a (reg y i)))) (by_access z (λ b j. did (stored t y b j (reg y s)) (Address a (reg y i))))
        go (Ok (b, j)) f = (refl, stored_alike t E mis x y h others a (E.regs s) s b j (λ c. beside_kept t.arrays (E.regs s) c (E.arrays c)) f.1 (source b mis refl f.0 (in_words t b j f.1)))
        go (Err k) f = refl

    update_works : (r : ℕ) (s : Bool) → E.status ≡ Outdated r s → Works t (after t.arrays (Update r s) E) mis (work t (Update r s) dir mis x) (work t (Update r s) dir mis y)
    update_works r s e = plain_works t _ mis dir _ _ (
      refl,
      record {
        flag₁ = fresh (reg x) x.masked (subst (λ (z : Status). Flag z (reg x) mis x.masked) e h.flag₁);
        flag₂ = fresh (reg y) y.masked (subst (λ (z : Status). Flag z (reg y) mis y.masked) e h.flag₂);
        wide₁ = h.wide₁;
        wide₂ = h.wide₂;
        long = h.long;
        regs = h.regs;
        mem = h.mem;
      },
    )
      where
        fresh : (u : ℕ → ℕ) (m : Bool) → Flag (Outdated r s) u mis m → pick (holds (u r) s) m true ≡ mis
        fresh u m (f, g) = test (holds (u r) s) (λ z. pick z m true ≡ mis) f (λ q. sym (g q))

    protect_works : (d s : ℕ) → E.status ≡ Updated → Works t (after t.arrays (Protect d s) E) mis (work t (Protect d s) dir mis x) (work t (Protect d s) dir mis y)
    protect_works d s e = plain_works t _ mis dir _ _ (
      refl,
      record {
        flag₁ = f₁;
        flag₂ = f₂;
        wide₁ = length-set x.regs d _ ∙ h.wide₁;
        wide₂ = length-set y.regs d _ ∙ h.wide₂;
        long = h.long;
        regs = put_alike t E mis x y h d (settle (E.regs s)) _ _ shown;
        mem = h.mem;
      },
    )
      where
        f₁ : x.masked ≡ mis
        f₁ = subst (λ (z : Status). Flag z (reg x) mis x.masked) e h.flag₁

        f₂ : y.masked ≡ mis
        f₂ = subst (λ (z : Status). Flag z (reg y) mis y.masked) e h.flag₂

        value : (m : Bool) → m ≡ mis → settle (E.regs s) ≤ top m → pick m 4294967295 (reg x s) ≡ pick m 4294967295 (reg y s)
        value true q l = refl
        value false q l = h.regs s (rw (← q) (unsettled (E.regs s) l))

        shown : settle (E.regs s) ≤ top mis → pick x.masked 4294967295 (reg x s) ≡ pick y.masked 4294967295 (reg y s)
        shown l = rw (f₁, f₂) (value mis refl l)

    -- a fixed access touches the word that it names
    load_fixed_works : (d a i : ℕ) → i < words_of t a → Works t (after t.arrays (LoadFixed d a i) E) mis (work t (LoadFixed d a i) dir mis x) (work t (LoadFixed d a i) dir mis y)
    load_fixed_works d a i k = plain_works t _ mis dir _ _ (refl, wrote_alike t E mis x y h d _ _ _ (λ l. h.mem a i k (omega arith)))

    store_fixed_works : (a i s : ℕ) → i < words_of t a → Works t (after t.arrays (StoreFixed a i s) E) mis (work t (StoreFixed a i s) dir mis x) (work t (StoreFixed a i s) dir mis y)
    store_fixed_works a i s k = plain_works t _ mis dir _ _ (refl, stored_alike t E mis x y h E.arrays a _ s a i (λ c. le_refl (E.arrays c)) k seen)
      where
        seen : (after t.arrays (StoreFixed a i s) E).arrays a ≤ top mis → E.regs s ≤ top mis
        seen p = let q = subst (λ (l : ℕ). l ≤ top mis) (put_same E.arrays a _) p in omega arith

  init_works : (E : Env) (mis : Bool) (x y : Data) → Alike t E mis x y → (dir : Directive) → Works t (after t.arrays Init E) mis (work t Init dir mis x) (work t Init dir mis y)
  init_works E true x y h dir = refl
  init_works E false x y h dir = plain_works t (after t.arrays Init E) false dir _ _ (
    refl,
    record {
      flag₁ = refl;
      flag₂ = refl;
      wide₁ = h.wide₁;
      wide₂ = h.wide₂;
      long = h.long;
      regs = λ i l. h.regs i (unsettled (E.regs i) l);
      mem = λ a i k l. h.mem a i k (unsettled (E.arrays a) l);
    },
  )

  -- ONE LEMMA PER KIND OF RECORD, together: the work of a simple record in two runs
  pub simple_works : (E : Env) (mis : Bool) (x y : Data) → Alike t E mis x y → (dir : Directive) (s : Simple) → SimpleReaches t.words s → Needs s E → Works t (after t.arrays s E) mis (work t s dir mis x) (work t s dir mis y)
  simple_works E mis x y h dir (Const d v) k n = const_works E mis x y h dir d v
  simple_works E mis x y h dir (Op d o l r) k n = op_works E mis x y h dir d o l r
  simple_works E mis x y h dir (Select d c u v) k n = select_works E mis x y h dir d c u v
  simple_works E mis x y h dir (Load d a i) k n = load_works E mis x y h dir d a i n
  simple_works E mis x y h dir (Store a i s) k n = store_works E mis x y h dir a i s n
  simple_works E mis x y h dir Init k n = init_works E mis x y h dir
  simple_works E mis x y h dir (Update r s) k n = update_works E mis x y h dir r s n
  simple_works E mis x y h dir (Protect d s) k n = protect_works E mis x y h dir d s n
  simple_works E mis x y h dir (LoadFixed d a i) k n = load_fixed_works E mis x y h dir d a i k
  simple_works E mis x y h dir (StoreFixed a i s) k n = store_fixed_works E mis x y h dir a i s k
