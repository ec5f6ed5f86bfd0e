-- Order 1 and "A STORE that raises only the array it names" (01, "Plausible wrong programs"). LOAD FIXED takes its
-- array's own level, so a stray store into an array that is still called public would come back as a public value: of
-- such a rule demand 3 is false.
use Rattle.std.specs.Prelude.{ℕ, zero, suc, ◌<◌, ◌≤◌, ◌≡◌, refl, true, false, List, [], ◌∷◌, get_or, replicate, Ok, Err}
use Rattle.std.proofs.Common.{arith, sym, ap, ◌∙◌}
use Rattle.model.specs.Tests.{below}
use Rattle.model.specs.Levels.{Env, join, join_status, same_status, within}
use Rattle.model.proofs.Levels.{within_is}
use Rattle.model.specs.Packing.{slot, levels_in, packed_in}
use Rattle.model.specs.Table.{Table, entry}
use Rattle.model.specs.Blocks.{Rules, TypesFunction, Every, done, one, branch}
use Rattle.model.specs.Rules.{kill, guard_status, call_status, settle, beside, guarded, after, typing_by}
use Rattle.model.specs.Walk.{type_block, type_instr, type_function}
use Rattle.model.specs.Typing.{type_from}
use Rattle.model.specs.Memory.{offset_in}
use Rattle.model.specs.InOrder.{up_to, code_from}
use Rattle.model.specs.Sites.{home_of, site}
use Rattle.model.specs.Machine.{operate, access, step, run}
use Rattle.model.specs.declared.Fault.TheVariants.{NotPublic}
use Rattle.model.specs.declared.Stop.TheVariants.{Returned}
use Rattle.model.specs.declared.Simple.{Simple}
use Rattle.model.specs.declared.Simple.TheVariants.{Const, Op, Select, Load, Store, Init, Update, Protect, LoadFixed, StoreFixed}
use Rattle.format.specs.Format.{row_at, decode_at, words_from}
use Rattle.format.specs.Head.{sizes_at, array_at, signature_at, arrays_at, signatures_at}
use Rattle.format.specs.Layout.{record_of, return_of, table_of}
use Rattle.reading.specs.Reading.{allowed, record_at, call_at, if_with, while_with, block_with, instr_at, block_at, function_at, functions_at, parts_at, read_at}
use Rattle.typing.specs.Check.{check_at}
use Rattle.typing.specs.Checked.{Readable}
use Rattle.model.specs.Numbers.{refusal}
use Rattle.machine.specs.Directives.{branch_at, stray_at, back_at, directive_at, list_from, list_at, directives_from, all_bytes}
use Rattle.machine.specs.Runs.{Ran, ran, total, run_at}
use Rattle.secure.specs.Demand3.{Starts, SameRan, Demand3}

-- ---- THE WRONG RULE: 01's, but that a STORE is typed as STORE FIXED is
abbrev pub as_fixed : Simple → Simple
as_fixed (Const d v) = Const d v
as_fixed (Op d o l r) = Op d o l r
as_fixed (Select d c y n) = Select d c y n
as_fixed (Load d a i) = Load d a i
as_fixed (Store a i s) = StoreFixed a 0 s
as_fixed Init = Init
as_fixed (Update r s) = Update r s
as_fixed (Protect d s) = Protect d s
as_fixed (LoadFixed d a i) = LoadFixed d a i
as_fixed (StoreFixed a i s) = StoreFixed a i s

abbrev pub named_only : Table → Rules
named_only t = typing_by t (λ s. after t.arrays (as_fixed s))

abbrev pub NamedPasses : List ℕ → Type 0
NamedPasses t = Readable t × Every (table_of t) (named_only (table_of t))

-- ---- THE LEAK (tests/examples/store-leak.txt)
-- Register 0 public, register 1 secret; arrays 0 and 1 public, of one word each.
-- IF 0 ELSE / STORE 0 0 1 / LOAD FIXED 0 1 0 / LOAD 0 0 0 / ENDIF / RETURN
abbrev pub leak : List ℕ
leak = 1 ∷ 2 ∷ 2 ∷ 1 ∷ 2 ∷ 1 ∷ 0 ∷ 2 ∷ 1 ∷ 0 ∷ 3 ∷ 27 ∷ 0 ∷ 0 ∷ 8 ∷ 0 ∷ 0 ∷ 0 ∷ 0 ∷ 0 ∷ 0 ∷ 10 ∷ 0 ∷ 0 ∷ 0 ∷ 6 ∷ 0 ∷ 32 ∷ 0 ∷ 31 ∷ 0 ∷ 33 ∷ 47 ∷ 0 ∷ 20 ∷ 0 ∷ 0 ∷ 1 ∷ 27 ∷ 0 ∷ 1 ∷ 0 ∷ 0 ∷ 19 ∷ 0 ∷ 0 ∷ 0 ∷ 34 ∷ 37 ∷ []

-- the check refuses it: the LOAD's index is transient
pub refused : check_at leak ≡ Err (refusal NotPublic 43)
unfolding below slot levels_in packed_in join_status same_status within kill guard_status call_status settle beside row_at decode_at sizes_at array_at signature_at arrays_at signatures_at words_from record_of return_of allowed record_at call_at if_with while_with block_with instr_at block_at function_at functions_at parts_at read_at type_block type_instr type_function type_from check_at
refused = refl

-- register 0 is 1. Into the second block all the same; the STORE, out of range, goes to array 1; LOAD FIXED reads it
-- there; the address that the LOAD asks for is the secret
abbrev pub dirs : List ℕ
dirs = 97 ∷ 0 ∷ 98 ∷ 1 ∷ 0 ∷ 0 ∷ 96 ∷ 98 ∷ 0 ∷ 0 ∷ 0 ∷ 96 ∷ []

abbrev pub registers : ℕ → List ℕ
registers secret = 1 ∷ secret ∷ []

abbrev pub memory : List ℕ
memory = 0 ∷ 0 ∷ []

abbrev pub room : List ℕ
room = replicate 21 0

abbrev pub leaked : ℕ → Ran
leaked secret = run_at leak (registers secret) memory dirs room

abbrev pub Shows : ℕ → Type 0
Shows secret = leaked secret ≡ ran (Ok (record { stop = Returned; place = 48; steps = 5; mis = true; masked = false })) (0 ∷ secret ∷ []) (0 ∷ secret ∷ [])
    (113 ∷ 1 ∷ 114 ∷ 0 ∷ 1 ∷ 0 ∷ 0 ∷ 0 ∷ 114 ∷ 1 ∷ 0 ∷ 0 ∷ 0 ∷ 0 ∷ 114 ∷ 0 ∷ secret ∷ 0 ∷ 0 ∷ 0 ∷ 112 ∷ [])

pub both_show : Shows 5 × Shows 6
unfolding below slot levels_in packed_in row_at decode_at sizes_at array_at signature_at arrays_at signatures_at words_from record_of return_of allowed record_at call_at if_with while_with block_with instr_at block_at function_at functions_at parts_at read_at offset_in up_to code_from home_of site operate access step run directive_at branch_at stray_at back_at list_from list_at directives_from all_bytes total run_at
both_show = (refl, refl)

-- the two starts differ in the secret register alone
pub starts : Starts leak (registers 5) memory (registers 6) memory
unfolding total words_from slot
starts = record {
  wide₁ = refl;
  wide₂ = refl;
  long₁ = refl;
  long₂ = refl;
  regs = equal;
  mem = λ a i k l. refl;
}
  where
    equal : (i : ℕ) → i < 2 → ((table_of leak).enter (entry (table_of leak))).regs i ≤ 1 → get_or (registers 5) i 0 ≡ get_or (registers 6) i 0
    equal zero k l = refl
    equal (suc zero) k l = absurd (omega arith)
    equal (suc (suc i)) k l = refl

-- and what they observe differs
pub unlike : SameRan room room (leaked 5) (leaked 6) → ⊥
unlike = rw (both_show.0, both_show.1) (λ s. not (ap (λ (l : List ℕ). get_or l 16 0) (s.4.1 ∙ sym s.4.2)))
  where
    not : ◌≡◌ {A = ℕ} 5 6 → ⊥
    not e = absurd (omega arith)

-- NO NOTION OF PASSING OF WHICH DEMAND 3 HOLDS LETS IT PASS
pub shut_out : (Passes : List ℕ → Type 0) → Demand3 Passes → Passes leak → ⊥
shut_out Passes safe p = unlike (safe leak (registers 5) memory (registers 6) memory dirs room room p starts refl)

abbrev T : Table
T = table_of leak

-- the second block, by the wrong rule
abbrev second : Env
second = (named_only T).after (T.rec 43) ((named_only T).after (T.rec 38) ((named_only T).after (T.rec 34) (guarded (T.enter 0) 0 false)))

named_types : TypesFunction T (named_only T) 0
unfolding below slot join_status same_status within kill guard_status settle row_at decode_at words_from record_of return_of
named_types = record {
  last = join (guarded (T.enter 0) 0 true) second;
  body = branch {e = 31} {n = 47} {r = 0} {E₁ = guarded (T.enter 0) 0 true} {E₂ = second} refl refl done refl (one tt refl (one tt tt (one tt refl done))) refl done;
  returns = refl;
  fits = (within_is 2 2 (join (guarded (T.enter 0) 0 true) second) (T.leave 0)).0 refl;
}

-- BY THE WRONG RULE IT PASSES, so demand 3 is false of that rule
pub named_passes : NamedPasses leak
unfolding below slot levels_in packed_in row_at decode_at sizes_at array_at signature_at arrays_at signatures_at words_from record_of return_of allowed record_at call_at if_with while_with block_with instr_at block_at function_at functions_at parts_at read_at
named_passes = (refl, λ f k. only f k)
  where
    only : (f : ℕ) → f < 1 → TypesFunction T (named_only T) f
    only zero k = named_types
    only (suc f) k = absurd (omega arith)

pub named_store_leaks : Demand3 NamedPasses → ⊥
named_store_leaks safe = shut_out NamedPasses safe named_passes
