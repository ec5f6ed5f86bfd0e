-- Order 2: the environments that the check of a table meets keep to the table's slots: no slot is 3, and unused slots
-- are 0. The packed forms of within and join (Rattle.model.specs.Words) ask for no more.
use Rattle.std.specs.Prelude.{ℕ, ◌^◌, ◌<◌, ◌≡◌, Bool, List}
use Rattle.std.proofs.Common.{subst, ap}
use Rattle.model.specs.Levels.{Env}
use Rattle.model.specs.Packing.{env_of}
use Rattle.model.specs.Records.{Keeps}
use Rattle.model.specs.Rules.{guarded}
use Rattle.model.specs.Table.{Table}
use Rattle.model.specs.theory.Whole.{Whole, Where}
use Rattle.model.proofs.theory.Whole.{packed_whole, guarded_whole, record_whole}
use Rattle.model.specs.declared.Packed.{Packed}
use Rattle.model.specs.declared.Record.TheVariants.{While}
use Rattle.format.specs.Layout.{sizes_of, table_of}
use Rattle.reading.specs.theory.Known.{signed}
use Rattle.typing.specs.Checked.{Readable}
use Rattle.model.proofs.theory.Words.{word_ext}
use Rattle.typing.specs.declared.environments.WordEnv.{WordEnv}
use Rattle.typing.specs.Envs.{view_env}
use Rattle.typing.specs.Walks.{record_walk}

module _ (t : List ℕ) (r : Readable t) where
  abbrev T : Table
  T = table_of t

  -- the signatures' environments
  pub enters : (f : ℕ) → f < T.functions → Whole T.registers T.arrays (T.enter f)
  enters f l = packed_whole T.registers T.arrays _ (signed t (sizes_of t) r f l).0

  pub leaves : (f : ℕ) → f < T.functions → Whole T.registers T.arrays (T.leave f)
  leaves f l = packed_whole T.registers T.arrays _ (signed t (sizes_of t) r f l).1

  -- a loop's
  pub loops : (p q e : ℕ) (L : Packed) → T.rec p ≡ While q e L → Whole T.registers T.arrays (env_of L)
  loops p q e L i = packed_whole T.registers T.arrays L (subst (Keeps T.registers T.arrays T.functions) i (T.keeps p))

  -- from one that keeps to the slots: the first of a block, and wherever the walk of a record comes
  pub opens : (E : Env) (q : ℕ) (s : Bool) → Whole T.registers T.arrays E → Whole T.registers T.arrays (guarded E q s)
  opens E q s w = guarded_whole T.registers T.arrays E w q s

  pub goes_on : (d p : ℕ) (E : Env) → Whole T.registers T.arrays E → Where (Whole T.registers T.arrays) (record_walk (sizes_of t) t d p E)
  goes_on d p E w = record_whole T leaves d _ p E w

-- two permitted answers of `WordEnv::from` are equal: words of 32 bits with the same levels are the same words
pub one_env : (e f : WordEnv) → e.registers.0 < 4 ^ 16 → f.registers.0 < 4 ^ 16 → e.arrays.0 < 4 ^ 16 → f.arrays.0 < 4 ^ 16 → view_env e ≡ view_env f → e ≡ f
one_env e f a b c d v =
    let status = ap (λ (E : Env). E.status) v in
    let registers = word_ext 16 e.registers.0 f.registers.0 a b (λ i. ap (λ (E : Env). E.regs i) v) in
    let arrays = word_ext 16 e.arrays.0 f.arrays.0 c d (λ i. ap (λ (E : Env). E.arrays i) v) in
    λ i. record { status = status i; registers = record { 0 = registers i }; arrays = record { 0 = arrays i } }
