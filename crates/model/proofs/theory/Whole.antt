-- Order 2: what the packed forms ask of an environment, for any slot count: no slot is 3, and unused slots are 0. The
-- rules keep it, so that it holds of every environment that the walk of a table meets, once it holds of the
-- signatures.
use Prim.Native.Nat.{ℕ, zero, suc, ◌+◌, ◌<◌, max}
use Rattle.std.proofs.Common.{arith, le-ltb}
use Rattle.std.specs.Prelude.{◌≡◌, refl, Bool, true, false, [], ◌∷◌, leb, ltb}
use Rattle.model.specs.Tests.{pick, put, same, pick_ind, trues}
use Rattle.model.specs.Levels.{Env, join}
use Rattle.model.specs.Packing.{env_of, levels_in, packed_in}
use Rattle.model.specs.Records.{SimpleFits, Fits, Keeps, by_single_lem}
use Rattle.model.specs.Table.{Table}
use Rattle.model.specs.Rules.{settle, beside, written, raised, guarded, after, after_of, typing}
use Rattle.model.specs.theory.Words.{Levelled}
use Rattle.model.proofs.theory.Words.{levels_in_lem}
use Rattle.model.specs.Decide.{typing_tests, meets_of}
use Rattle.model.specs.Walk.{Walking, Onward, Closed, Halt, Ending, Reached, Failed, on_next, on_shut, if_with, while_with, instr_with, type_block, type_instr}
use Rattle.model.specs.declared.Fault.TheVariants.{TooDeep}
use Rattle.model.specs.declared.Packed.{Packed}
use Rattle.model.specs.declared.Simple.{Simple}
use Rattle.model.specs.declared.Simple.TheVariants.{Const, Op, Select, Load, Store, Init, Update, Protect, LoadFixed, StoreFixed}
use Rattle.model.specs.declared.Record.{Record}
use Rattle.model.specs.declared.Record.TheVariants.{Do, Call, If, Else, Endif, While, Endwhile, Return}
use Rattle.model.specs.theory.Whole.{Whole, NoThrees, Where, WhereEnds}

pub no_threes : (n m : ℕ) (E : Env) → Whole n m E → NoThrees E
no_threes n m E w = (w.regs.known, w.arrays.known)

-- the seven bytes that the reader lets pass
pub packed_whole : (n m : ℕ) (e : Packed) → packed_in n m e ≡ true → Whole n m (env_of e)
unfolding packed_in
packed_whole n m e h =
    let w = trues (ltb e.status 2 ∷ levels_in n e.registers ∷ levels_in m e.arrays ∷ []) h in
    record { regs = (levels_in_lem n e.registers).0 w.1.0; arrays = (levels_in_lem m e.arrays).0 w.1.1.0 }

put_levelled : (n : ℕ) (f : ℕ → ℕ) (d v : ℕ) → Levelled n f → d < n → v < 3 → Levelled n (put f d v)
put_levelled n f d v w l h = record {
  known = λ i. same i d (λ b. pick b v (f i) < 3) (λ _. h) (λ _. w.known i);
  unused = λ i k. same i d (λ b. pick b v (f i) ≡ 0) (λ e. absurd (omega arith)) (λ _. w.unused i k);
}

join_levelled : (n : ℕ) (f g : ℕ → ℕ) → Levelled n f → Levelled n g → Levelled n (λ i. max (f i) (g i))
join_levelled n f g w v = record {
  known = λ i. omega (arith, w.known i, v.known i);
  unused = λ i k. omega (arith, w.unused i k, v.unused i k);
}

settle_known : (l : ℕ) → l < 3 → settle l < 3
unfolding settle
settle_known l h = pick_ind (λ x. x < 3) (leb l 1) (λ _. omega arith) (λ _. h)

settle_levelled : (n : ℕ) (f : ℕ → ℕ) → Levelled n f → Levelled n (λ i. settle (f i))
unfolding settle
settle_levelled n f w = record {
  known = λ i. settle_known (f i) (w.known i);
  unused = λ i k. rw (w.unused i k) refl;
}

beside_levelled : (m l : ℕ) (f : ℕ → ℕ) → Levelled m f → Levelled m (λ b. beside m l b (f b))
unfolding beside
beside_levelled m l f w = record {
  known = λ b. pick_ind (λ x. x < 3) (ltb b m) (λ _. omega (arith, w.known b)) (λ _. w.known b);
  unused = λ b k. rw (le-ltb b m k) (w.unused b k);
}

module _ (n m : ℕ) (E : Env) (w : Whole n m E) where
  written_whole : (d l : ℕ) → d < n → l < 3 → Whole n m (written E d l)
  written_whole d l h k = record { regs = put_levelled n E.regs d l w.regs h k; arrays = w.arrays }

  raised_whole : (others : ℕ → ℕ) (a l : ℕ) → Levelled m others → a < m → l < 3 → Whole n m (raised E others a l)
  raised_whole others a l o h k =
      let v : max (E.arrays a) l < 3 = omega (arith, w.arrays.known a) in
      record { regs = w.regs; arrays = put_levelled m others a (max (E.arrays a) l) o h v }

  pub guarded_whole : (r : ℕ) (s : Bool) → Whole n m (guarded E r s)
  guarded_whole r s = record { regs = w.regs; arrays = w.arrays }

  pub after_whole : (s : Simple) → SimpleFits n m s → Whole n m (after m s E)
  after_whole (Const d v) f = written_whole d 0 f (omega arith)
  after_whole (Op d o l r) f = written_whole d _ f.0 (omega (arith, w.regs.known l, w.regs.known r))
  after_whole (Select d c y k) f = written_whole d _ f.0 (omega (arith, w.regs.known c, w.regs.known y, w.regs.known k))
  after_whole (Load d a i) f = written_whole d _ f.0 (omega (arith, w.arrays.known a))
  after_whole (Store a i s) f = raised_whole _ a _ (beside_levelled m (E.regs s) E.arrays w.arrays) f.0 (w.regs.known s)
  after_whole Init f = record { regs = settle_levelled n E.regs w.regs; arrays = settle_levelled m _ w.arrays }
  after_whole (Update r s) f = record { regs = w.regs; arrays = w.arrays }
  after_whole (Protect d s) f = record { regs = put_levelled n E.regs d _ w.regs f.0 (settle_known (E.regs s) (w.regs.known s)); arrays = w.arrays }
  after_whole (LoadFixed d a i) f = written_whole d _ f.0 (w.arrays.known a)
  after_whole (StoreFixed a i s) f = raised_whole _ a _ w.arrays f.0 (w.regs.known s)

pub join_whole : (n m : ℕ) (E F : Env) → Whole n m E → Whole n m F → Whole n m (join E F)
join_whole n m E F w v = record { regs = join_levelled n E.regs F.regs w.regs v.regs; arrays = join_levelled m E.arrays F.arrays w.arrays v.arrays }

pub ends_map : (P Q : Env → Type 0) → ((E : Env) → P E → Q E) → (w : Ending Env) → WhereEnds P w → WhereEnds Q w
ends_map P Q f (Reached p E) h = f E h
ends_map P Q f (Failed n p) h = tt

-- the walk of a table whose signatures end whole
module _ (t : Table) (leaves : (f : ℕ) → f < t.functions → Whole t.registers t.arrays (t.leave f)) where
  abbrev W : Env → Type 0
  W = Whole t.registers t.arrays

  after_of_whole : (i : Record) (E : Env) → Fits t.registers t.arrays i → Keeps t.registers t.arrays t.functions i → W E → W (after_of t i E)
  after_of_whole i E = by_single_lem (λ i F. Fits t.registers t.arrays i → Keeps t.registers t.arrays t.functions i → W E → W F)
      (λ s f k w. after_whole t.registers t.arrays E w s f) (λ g b f k w. let o = leaves g k in record { regs = o.regs; arrays = o.arrays }) (λ _ f k w. w) i

  abbrev Kept : Walking Env → Type 0
  Kept = Where W

  abbrev KeptBlock : Ending Env → Type 0
  KeptBlock = WhereEnds W

  shut_kept : (w : Ending Env) (f : ℕ → Env → Walking Env) → KeptBlock w → ((p : ℕ) (E : Env) → W E → Kept (f p E)) → Kept (on_shut Halt w f)
  shut_kept (Reached p E) f h k = k p E h
  shut_kept (Failed n p) f h k = tt

  module _ (B : ℕ → Env → Ending Env) (hB : (p : ℕ) (E : Env) → W E → KeptBlock (B p E)) where
    if_kept : (p r : ℕ) (E : Env) → W E → Kept (if_with t (typing t) (typing_tests t) B p r E)
    if_kept p r E w =
        let into : (s : Bool) → W (guarded E r s) = guarded_whole t.registers t.arrays E w r in
        pick_ind Kept ((typing_tests t).public E r)
        (λ _. shut_kept (B (p + 4) (guarded E r true)) _ (hB (p + 4) _ (into true))
        (λ e E₁ w₁. shut_kept (B (e + 3) (guarded E r false)) _ (hB (e + 3) _ (into false)) (λ n E₂ w₂. join_whole t.registers t.arrays E₁ E₂ w₁ w₂)))
        (λ _. tt)

    while_kept : (p r : ℕ) (L E : Env) → W L → Kept (while_with t (typing t) (typing_tests t) B p r L E)
    while_kept p r L E w =
        let into : (s : Bool) → W (guarded L r s) = guarded_whole t.registers t.arrays L w r in
        pick_ind Kept ((typing_tests t).within E L)
        (λ _. pick_ind Kept ((typing_tests t).public L r)
        (λ _. shut_kept (B (p + 11) (guarded L r true)) _ (hB (p + 11) _ (into true)) (λ e E₁ w₁. pick_ind Kept ((typing_tests t).within E₁ L) (λ _. into false) (λ _. tt)))
        (λ _. tt))
        (λ _. tt)

    instr_kept : (i : Record) (p : ℕ) (E : Env) → Fits t.registers t.arrays i → Keeps t.registers t.arrays t.functions i → W E → Kept (instr_with t (typing t) (typing_tests t) B i p E)
    instr_kept (Do s) p E f k w = pick_ind Kept (meets_of t (Do s) E) (λ _. after_of_whole (Do s) E f k w) (λ _. tt)
    instr_kept (Call g b) p E f k w = pick_ind Kept (meets_of t (Call g b) E) (λ _. after_of_whole (Call g b) E f k w) (λ _. tt)
    instr_kept (If r e) p E f k w = if_kept p r E w
    instr_kept (Else n) p E f k w = w
    instr_kept Endif p E f k w = w
    instr_kept (While r e L) p E f k w = while_kept p r (env_of L) E (packed_whole t.registers t.arrays L k)
    instr_kept (Endwhile e) p E f k w = w
    instr_kept Return p E f k w = w

  block_kept : (f : ℕ → Env → Walking Env) → ((p : ℕ) (E : Env) → W E → Kept (f p E)) → (k p : ℕ) (E : Env) → W E → KeptBlock (type_block t (typing t) (typing_tests t) f k p E)
  unfolding type_block
  block_kept f h zero p E w = tt
  block_kept f h (suc k) p E w = go (f p E) (h p E w) (block_kept f h k)
    where
      go : (x : Walking Env) → Kept x → ((q : ℕ) (F : Env) → W F → KeptBlock (type_block t (typing t) (typing_tests t) f k q F)) → KeptBlock (on_next x (type_block t (typing t) (typing_tests t) f k))
      go (Onward q F) o ih = ih q F o
      go (Closed q F) o ih = o
      go (Halt n q) o ih = tt

  -- a record's walk, and a block's, from a whole environment
  pub record_whole : (d size p : ℕ) (E : Env) → Whole t.registers t.arrays E → Where (Whole t.registers t.arrays) (type_instr t (typing t) (typing_tests t) d size p E)
  unfolding type_instr
  record_whole zero size p E w = instr_kept (λ q F. Failed TooDeep p) (λ q F v. tt) (t.rec p) p E (t.fits p) (t.keeps p) w
  record_whole (suc d) size p E w = instr_kept (type_block t (typing t) (typing_tests t) (type_instr t (typing t) (typing_tests t) d size) size)
      (block_kept (type_instr t (typing t) (typing_tests t) d size) (record_whole d size) size) (t.rec p) p E (t.fits p) (t.keeps p) w

  pub block_whole : (d size k p : ℕ) (E : Env) → Whole t.registers t.arrays E → WhereEnds (Whole t.registers t.arrays) (type_block t (typing t) (typing_tests t) (type_instr t (typing t) (typing_tests t) d size) k p E)
  block_whole d size k p E w = block_kept (type_instr t (typing t) (typing_tests t) d size) (record_whole d size) k p E w
