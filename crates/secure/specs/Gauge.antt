-- Order 3: a routine that sums two channels of a gauge. Which word each channel reads stands in an array that is
-- transient on the way in. With a PROTECT for each it passed before, and passes; without them it was refused before
-- (10 at 42), and passes now. tests/examples/gauge-protect.txt and gauge-init.txt have the tables in words.
use Rattle.std.specs.Prelude.{ℕ, zero, suc, ◌<◌, ◌≡◌, refl, List, [], ◌∷◌}
use Rattle.std.proofs.Common.{arith}
use Rattle.model.specs.Tests.{below}
use Rattle.model.specs.Levels.{Env, join_status, same_status, within}
use Rattle.model.proofs.Levels.{within_is}
use Rattle.model.specs.Packing.{slot, levels_in, packed_in}
use Rattle.model.specs.Table.{Table}
use Rattle.model.specs.Blocks.{TypesFunction, done, one}
use Rattle.model.specs.Rules.{kill, guard_status, call_status, settle, beside}
use Rattle.model.specs.Before.{typing_before}
use Rattle.model.specs.Faults.{FirstFault, on_the_way, past, fails}
use Rattle.model.specs.Walk.{type_block, type_instr, type_function}
use Rattle.model.proofs.theory.Passes.{past_single}
use Rattle.model.specs.Decide.{record_fault}
use Rattle.model.specs.Typing.{type_from}
use Rattle.model.specs.declared.Fault.TheVariants.{NotPublic}
use Rattle.format.specs.Format.{row_at, decode_at, words_from}
use Rattle.format.specs.Head.{sizes_at, array_at, signature_at, arrays_at, signatures_at}
use Rattle.format.specs.Layout.{record_of, return_of, table_of}
use Rattle.reading.specs.Reading.{allowed, record_at, call_at, if_with, while_with, block_with, instr_at, block_at, function_at, functions_at, parts_at, read_at}
use Rattle.typing.specs.Check.{accepted, check_at}
use Rattle.typing.specs.Before.{PassedBefore}

abbrev pub by_protect : List ℕ
by_protect = 1 ∷ 3 ∷ 3 ∷ 1 ∷ 2 ∷ 2 ∷ 0 ∷ 2 ∷ 4 ∷ 0 ∷ 2 ∷ 1 ∷ 0 ∷ 3 ∷ 30 ∷ 0 ∷ 0 ∷ 21 ∷ 0 ∷ 0 ∷ 0 ∷ 41 ∷ 0 ∷ 0 ∷ 40 ∷ 0 ∷ 0 ∷ 0 ∷ 41 ∷ 0 ∷ 21 ∷ 16 ∷ 2 ∷ 0 ∷ 0 ∷ 0 ∷ 0 ∷ 27 ∷ 0 ∷ 0 ∷ 0 ∷ 0 ∷ 23 ∷ 0 ∷ 0 ∷ 19 ∷ 1 ∷ 1 ∷ 0 ∷ 17 ∷ 2 ∷ 0 ∷ 2 ∷ 1 ∷ 27 ∷ 0 ∷ 0 ∷ 1 ∷ 0 ∷ 23 ∷ 0 ∷ 0 ∷ 19 ∷ 1 ∷ 1 ∷ 0 ∷ 17 ∷ 2 ∷ 0 ∷ 2 ∷ 1 ∷ 28 ∷ 2 ∷ 0 ∷ 0 ∷ 2 ∷ 37 ∷ []

abbrev pub by_init : List ℕ
by_init = 1 ∷ 3 ∷ 3 ∷ 1 ∷ 2 ∷ 2 ∷ 0 ∷ 2 ∷ 4 ∷ 0 ∷ 2 ∷ 1 ∷ 0 ∷ 3 ∷ 30 ∷ 0 ∷ 0 ∷ 21 ∷ 0 ∷ 0 ∷ 0 ∷ 41 ∷ 0 ∷ 0 ∷ 40 ∷ 0 ∷ 0 ∷ 0 ∷ 41 ∷ 0 ∷ 21 ∷ 16 ∷ 2 ∷ 0 ∷ 0 ∷ 0 ∷ 0 ∷ 27 ∷ 0 ∷ 0 ∷ 0 ∷ 0 ∷ 19 ∷ 1 ∷ 1 ∷ 0 ∷ 17 ∷ 2 ∷ 0 ∷ 2 ∷ 1 ∷ 27 ∷ 0 ∷ 0 ∷ 1 ∷ 0 ∷ 19 ∷ 1 ∷ 1 ∷ 0 ∷ 17 ∷ 2 ∷ 0 ∷ 2 ∷ 1 ∷ 28 ∷ 2 ∷ 0 ∷ 0 ∷ 2 ∷ 37 ∷ []

-- NOW both pass
pub passes : (check_at by_protect ≡ accepted 1 77) × (check_at by_init ≡ accepted 1 71)
unfolding below slot levels_in packed_in join_status same_status within kill guard_status call_status settle beside row_at decode_at sizes_at array_at signature_at arrays_at signatures_at words_from record_of return_of allowed record_at call_at if_with while_with block_with instr_at block_at function_at functions_at parts_at read_at type_block type_instr type_function type_from check_at
passes = (refl, refl)

-- BEFORE, with the PROTECTs it passed
protect_types : TypesFunction (table_of by_protect) (typing_before (table_of by_protect)) 0
unfolding below slot join_status same_status within kill guard_status settle beside row_at decode_at words_from record_of return_of
protect_types = record {
  last = _;
  body = one tt tt (one tt tt (one tt tt (one tt refl (one tt refl (one tt tt (one tt tt (one tt refl (one tt refl (one tt tt (one tt tt done))))))))));
  returns = refl;
  fits = (within_is 3 3 _ ((table_of by_protect).leave 0)).0 refl;
}

pub protect_before : PassedBefore by_protect
unfolding below slot levels_in packed_in row_at decode_at sizes_at array_at signature_at arrays_at signatures_at words_from record_of return_of allowed record_at call_at if_with while_with block_with instr_at block_at function_at functions_at parts_at read_at
protect_before = (refl, λ f k. only f k)
  where
    only : (f : ℕ) → f < 1 → TypesFunction (table_of by_protect) (typing_before (table_of by_protect)) f
    only zero k = protect_types
    only (suc f) k = absurd (omega arith)

abbrev T : Table
T = table_of by_init

-- BEFORE, without them, its first fault was the LOAD at 42: the index is transient
pub init_before : FirstFault T (typing_before T) record_fault NotPublic 42
unfolding below slot kill settle row_at decode_at words_from record_of return_of
init_before = record {
  function = 0;
  lies = omega arith;
  before = λ g l. absurd (omega arith);
  meets = on_the_way (past tt tt (past tt tt (past tt tt (fails {E = arrived} tt transient refl))));
}
  where
    arrived : Env
    arrived = (typing_before T).after (T.rec 37) ((typing_before T).after (T.rec 31) ((typing_before T).after (T.rec 30) (T.enter 0)))

    transient : arrived.regs 0 ≡ 0 → ⊥
    transient e = absurd (omega (arith, e))

-- so it did not pass
pub init_did_not_pass : PassedBefore by_init → ⊥
unfolding below slot kill settle row_at decode_at words_from record_of return_of
init_did_not_pass b =
    let f = b.1 0 (omega arith) in
    let x = past_single T (typing_before T) 0 f.body tt tt in
    let y = past_single T (typing_before T) 0 x.1 tt tt in
    let z = past_single T (typing_before T) 0 y.1 tt tt in
    let w = past_single T (typing_before T) 0 z.1 tt tt in
    absurd (omega (arith, w.0))
