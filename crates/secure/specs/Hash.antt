-- Order 1: a hash routine with a schedule and round constants, both public; the message is secret. A word of the
-- schedule says which word of the message comes next. With LOAD all that is loaded of them comes out transient: the
-- schedule's word is no index (10 at 49). With LOAD FIXED it is public. Neither table has an INIT, an UPDATE or a
-- PROTECT, and both have the same signature. tests/examples/hash-load.txt and hash-fixed.txt have them in words.
use Rattle.std.specs.Prelude.{ℕ, ◌≡◌, refl, List, [], ◌∷◌, Err}
use Rattle.model.specs.Tests.{below}
use Rattle.model.specs.Levels.{join_status, same_status, within}
use Rattle.model.specs.Packing.{slot, levels_in, packed_in}
use Rattle.model.specs.Rules.{kill, guard_status, call_status, settle, beside}
use Rattle.model.specs.Walk.{type_block, type_instr, type_function}
use Rattle.model.specs.Typing.{type_from}
use Rattle.model.specs.Numbers.{refusal}
use Rattle.model.specs.declared.Fault.TheVariants.{NotPublic}
use Rattle.format.specs.Format.{row_at, decode_at, words_from}
use Rattle.format.specs.Head.{sizes_at, array_at, signature_at, arrays_at, signatures_at}
use Rattle.format.specs.Layout.{record_of, return_of}
use Rattle.reading.specs.Reading.{allowed, record_at, call_at, if_with, while_with, block_with, instr_at, block_at, function_at, functions_at, parts_at, read_at}
use Rattle.typing.specs.Check.{accepted, check_at}

abbrev pub by_load : List ℕ
by_load = 1 ∷ 4 ∷ 4 ∷ 1 ∷ 2 ∷ 4 ∷ 0 ∷ 2 ∷ 4 ∷ 0 ∷ 2 ∷ 4 ∷ 0 ∷ 2 ∷ 1 ∷ 0 ∷ 3 ∷ 33 ∷ 0 ∷ 0 ∷ 0 ∷ 0 ∷ 0 ∷ 0 ∷ 160 ∷ 0 ∷ 0 ∷ 34 ∷ 0 ∷ 0 ∷ 0 ∷ 165 ∷ 0 ∷ 16 ∷ 0 ∷ 103 ∷ 230 ∷ 9 ∷ 106 ∷ 16 ∷ 1 ∷ 0 ∷ 0 ∷ 0 ∷ 0 ∷ 19 ∷ 1 ∷ 0 ∷ 1 ∷ 19 ∷ 2 ∷ 2 ∷ 1 ∷ 16 ∷ 3 ∷ 0 ∷ 0 ∷ 0 ∷ 0 ∷ 19 ∷ 3 ∷ 1 ∷ 3 ∷ 17 ∷ 0 ∷ 3 ∷ 0 ∷ 2 ∷ 17 ∷ 0 ∷ 2 ∷ 0 ∷ 3 ∷ 17 ∷ 0 ∷ 0 ∷ 0 ∷ 2 ∷ 16 ∷ 1 ∷ 1 ∷ 0 ∷ 0 ∷ 0 ∷ 19 ∷ 1 ∷ 0 ∷ 1 ∷ 19 ∷ 2 ∷ 2 ∷ 1 ∷ 16 ∷ 3 ∷ 1 ∷ 0 ∷ 0 ∷ 0 ∷ 19 ∷ 3 ∷ 1 ∷ 3 ∷ 17 ∷ 0 ∷ 3 ∷ 0 ∷ 2 ∷ 17 ∷ 0 ∷ 2 ∷ 0 ∷ 3 ∷ 17 ∷ 0 ∷ 0 ∷ 0 ∷ 2 ∷ 16 ∷ 1 ∷ 2 ∷ 0 ∷ 0 ∷ 0 ∷ 19 ∷ 1 ∷ 0 ∷ 1 ∷ 19 ∷ 2 ∷ 2 ∷ 1 ∷ 16 ∷ 3 ∷ 2 ∷ 0 ∷ 0 ∷ 0 ∷ 19 ∷ 3 ∷ 1 ∷ 3 ∷ 17 ∷ 0 ∷ 3 ∷ 0 ∷ 2 ∷ 17 ∷ 0 ∷ 2 ∷ 0 ∷ 3 ∷ 17 ∷ 0 ∷ 0 ∷ 0 ∷ 2 ∷ 16 ∷ 1 ∷ 3 ∷ 0 ∷ 0 ∷ 0 ∷ 19 ∷ 1 ∷ 0 ∷ 1 ∷ 19 ∷ 2 ∷ 2 ∷ 1 ∷ 16 ∷ 3 ∷ 3 ∷ 0 ∷ 0 ∷ 0 ∷ 19 ∷ 3 ∷ 1 ∷ 3 ∷ 17 ∷ 0 ∷ 3 ∷ 0 ∷ 2 ∷ 17 ∷ 0 ∷ 2 ∷ 0 ∷ 3 ∷ 17 ∷ 0 ∷ 0 ∷ 0 ∷ 2 ∷ 16 ∷ 1 ∷ 0 ∷ 0 ∷ 0 ∷ 0 ∷ 20 ∷ 3 ∷ 1 ∷ 0 ∷ 37 ∷ []

abbrev pub by_fixed : List ℕ
by_fixed = 1 ∷ 4 ∷ 4 ∷ 1 ∷ 2 ∷ 4 ∷ 0 ∷ 2 ∷ 4 ∷ 0 ∷ 2 ∷ 4 ∷ 0 ∷ 2 ∷ 1 ∷ 0 ∷ 3 ∷ 33 ∷ 0 ∷ 0 ∷ 0 ∷ 0 ∷ 0 ∷ 0 ∷ 160 ∷ 0 ∷ 0 ∷ 34 ∷ 0 ∷ 0 ∷ 0 ∷ 165 ∷ 0 ∷ 16 ∷ 0 ∷ 103 ∷ 230 ∷ 9 ∷ 106 ∷ 27 ∷ 1 ∷ 0 ∷ 0 ∷ 0 ∷ 19 ∷ 2 ∷ 2 ∷ 1 ∷ 27 ∷ 3 ∷ 1 ∷ 0 ∷ 0 ∷ 17 ∷ 0 ∷ 3 ∷ 0 ∷ 2 ∷ 17 ∷ 0 ∷ 2 ∷ 0 ∷ 3 ∷ 17 ∷ 0 ∷ 0 ∷ 0 ∷ 2 ∷ 27 ∷ 1 ∷ 0 ∷ 1 ∷ 0 ∷ 19 ∷ 2 ∷ 2 ∷ 1 ∷ 27 ∷ 3 ∷ 1 ∷ 1 ∷ 0 ∷ 17 ∷ 0 ∷ 3 ∷ 0 ∷ 2 ∷ 17 ∷ 0 ∷ 2 ∷ 0 ∷ 3 ∷ 17 ∷ 0 ∷ 0 ∷ 0 ∷ 2 ∷ 27 ∷ 1 ∷ 0 ∷ 2 ∷ 0 ∷ 19 ∷ 2 ∷ 2 ∷ 1 ∷ 27 ∷ 3 ∷ 1 ∷ 2 ∷ 0 ∷ 17 ∷ 0 ∷ 3 ∷ 0 ∷ 2 ∷ 17 ∷ 0 ∷ 2 ∷ 0 ∷ 3 ∷ 17 ∷ 0 ∷ 0 ∷ 0 ∷ 2 ∷ 27 ∷ 1 ∷ 0 ∷ 3 ∷ 0 ∷ 19 ∷ 2 ∷ 2 ∷ 1 ∷ 27 ∷ 3 ∷ 1 ∷ 3 ∷ 0 ∷ 17 ∷ 0 ∷ 3 ∷ 0 ∷ 2 ∷ 17 ∷ 0 ∷ 2 ∷ 0 ∷ 3 ∷ 17 ∷ 0 ∷ 0 ∷ 0 ∷ 2 ∷ 16 ∷ 1 ∷ 0 ∷ 0 ∷ 0 ∷ 0 ∷ 20 ∷ 3 ∷ 1 ∷ 0 ∷ 37 ∷ []

pub refused : check_at by_load ≡ Err (refusal NotPublic 49)
unfolding below slot levels_in packed_in join_status same_status within kill guard_status call_status settle beside row_at decode_at sizes_at array_at signature_at arrays_at signatures_at words_from record_of return_of allowed record_at call_at if_with while_with block_with instr_at block_at function_at functions_at parts_at read_at type_block type_instr type_function type_from check_at
refused = refl

pub passes : check_at by_fixed ≡ accepted 1 166
unfolding below slot levels_in packed_in join_status same_status within kill guard_status call_status settle beside row_at decode_at sizes_at array_at signature_at arrays_at signatures_at words_from record_of return_of allowed record_at call_at if_with while_with block_with instr_at block_at function_at functions_at parts_at read_at type_block type_instr type_function type_from check_at
passes = refl
