-- Order 1, "access at a fixed place" (document 02), sentence by sentence, of the definitions in Rules and Machine.
use Rattle.std.specs.Prelude.{ℕ, ◌<◌, ◌≡◌, Bool}
use Rattle.std.proofs.Math.Path.{refl}
use Rattle.std.proofs.Common.{subst, lt-ltb, eq-eqb, ne_eqb}
use Rattle.model.specs.Levels.{Env}
use Rattle.model.specs.Table.{Table}
use Rattle.model.specs.Records.{Reaches}
use Rattle.model.specs.Rules.{kill, after}
use Rattle.model.specs.Machine.{Data, reg, words_of, word_at, wrote, stored, halt, did, access, work}
use Rattle.model.specs.declared.Stop.TheVariants.{WrongDirective}
use Rattle.model.specs.declared.Status.TheVariants.{Unknown, Outdated}
use Rattle.model.specs.declared.Directive.{Directive}
use Rattle.model.specs.declared.Directive.TheVariants.{Plain, Branch, Stray, Back}
use Rattle.model.specs.declared.Observation.TheVariants.{Address}
use Rattle.model.specs.declared.Simple.TheVariants.{Load, Store, LoadFixed, StoreFixed}
use Rattle.model.specs.declared.Record.TheVariants.{Do}

-- "LOAD FIXED gives dest the array's own level"
pub load_fixed_level : (m d a i : ℕ) (E : Env) → (after m (LoadFixed d a i) E).regs d ≡ E.arrays a
load_fixed_level m d a i E = rw (eq-eqb d d refl) refl

-- and it is a write (01, "Any other write to r turns outdated(r, s) into unknown")
pub load_fixed_ends : (m d a i : ℕ) (s : Bool) (E : Env) → E.status ≡ Outdated d s → (after m (LoadFixed d a i) E).status ≡ Unknown
unfolding kill
load_fixed_ends m d a i s E e = rw (e, eq-eqb d d refl) refl

-- "STORE FIXED raises only the named array as STORE does"
pub store_fixed_named : (m a i j s : ℕ) (E : Env) → (after m (StoreFixed a i s) E).arrays a ≡ (after m (Store a j s) E).arrays a
store_fixed_named m a i j s E = rw (eq-eqb a a refl) refl

-- "and no other"
pub store_fixed_others : (m a i s b : ℕ) (E : Env) → (b ≡ a → ⊥) → (after m (StoreFixed a i s) E).arrays b ≡ E.arrays b
store_fixed_others m a i s b E n = rw (ne_eqb b a n) refl

module _ (t : Table) where
  -- "Both take the plain directive and observe the address", of the word that they name
  pub load_fixed_plain : (d a i : ℕ) (mis : Bool) (x : Data) → work t (LoadFixed d a i) Plain mis x ≡ did (wrote x d (word_at t x a i)) (Address a i)
  load_fixed_plain d a i mis x = refl

  pub store_fixed_plain : (a i s : ℕ) (mis : Bool) (x : Data) → work t (StoreFixed a i s) Plain mis x ≡ did (stored t x a i (reg x s)) (Address a i)
  store_fixed_plain a i s mis x = refl

  -- "The index is checked at reading, so a stray access cannot occur": the word that a record of a table names lies
  -- in its array
  pub load_fixed_lies : (p d a i : ℕ) → t.rec p ≡ Do (LoadFixed d a i) → i < words_of t a
  load_fixed_lies p d a i e = subst (Reaches t.words) e (t.reaches p)

  pub store_fixed_lies : (p a i s : ℕ) → t.rec p ≡ Do (StoreFixed a i s) → i < words_of t a
  store_fixed_lies p a i s e = subst (Reaches t.words) e (t.reaches p)

  -- and any directive but 60 is the wrong kind, 62 too, whatever word it names
  pub load_fixed_else : (d a i : ℕ) (dir : Directive) (mis : Bool) (x : Data) → (dir ≡ Plain → ⊥) → work t (LoadFixed d a i) dir mis x ≡ halt WrongDirective
  load_fixed_else d a i Plain mis x n = absurd (n refl)
  load_fixed_else d a i (Branch b) mis x n = refl
  load_fixed_else d a i (Stray b j) mis x n = refl
  load_fixed_else d a i (Back q) mis x n = refl

  pub store_fixed_else : (a i s : ℕ) (dir : Directive) (mis : Bool) (x : Data) → (dir ≡ Plain → ⊥) → work t (StoreFixed a i s) dir mis x ≡ halt WrongDirective
  store_fixed_else a i s Plain mis x n = absurd (n refl)
  store_fixed_else a i s (Branch b) mis x n = refl
  store_fixed_else a i s (Stray b j) mis x n = refl
  store_fixed_else a i s (Back q) mis x n = refl

  -- a fixed access is LOAD or STORE of an index in range, under every directive
  pub load_fixed_is_load : (d a r : ℕ) (dir : Directive) (mis : Bool) (x : Data) → reg x r < words_of t a → work t (LoadFixed d a (reg x r)) dir mis x ≡ work t (Load d a r) dir mis x
  unfolding access
  load_fixed_is_load d a r Plain mis x l = rw (lt-ltb (reg x r) (words_of t a) l) refl
  load_fixed_is_load d a r (Branch b) mis x l = rw (lt-ltb (reg x r) (words_of t a) l) refl
  load_fixed_is_load d a r (Stray b j) mis x l = rw (lt-ltb (reg x r) (words_of t a) l) refl
  load_fixed_is_load d a r (Back q) mis x l = rw (lt-ltb (reg x r) (words_of t a) l) refl

  pub store_fixed_is_store : (a r s : ℕ) (dir : Directive) (mis : Bool) (x : Data) → reg x r < words_of t a → work t (StoreFixed a (reg x r) s) dir mis x ≡ work t (Store a r s) dir mis x
  unfolding access
  store_fixed_is_store a r s Plain mis x l = rw (lt-ltb (reg x r) (words_of t a) l) refl
  store_fixed_is_store a r s (Branch b) mis x l = rw (lt-ltb (reg x r) (words_of t a) l) refl
  store_fixed_is_store a r s (Stray b j) mis x l = rw (lt-ltb (reg x r) (words_of t a) l) refl
  store_fixed_is_store a r s (Back q) mis x l = rw (lt-ltb (reg x r) (words_of t a) l) refl
