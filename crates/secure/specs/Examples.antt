-- Demand 3 is not empty: a table that passes and really speculates. A marked and an unmarked CALL, both blocks of an
-- IF, a loop, INIT, UPDATE, PROTECT; run under wrong branches, a wrong return into another caller, a stray load and a
-- stray store, each from two starts with different secrets. What is loaded astray is a secret, and differs; what is
-- observed does not.
use Rattle.std.specs.Prelude.{ℕ, ◌≡◌, refl, true, List, [], ◌∷◌, replicate, Ok}
use Rattle.model.specs.Tests.{below}
use Rattle.model.specs.Levels.{join_status, same_status, within}
use Rattle.model.specs.Packing.{slot, levels_in, packed_in}
use Rattle.model.specs.Rules.{kill, guard_status, call_status, settle, beside}
use Rattle.model.specs.Walk.{type_block, type_instr, type_function}
use Rattle.model.specs.Typing.{type_from}
use Rattle.model.specs.Memory.{offset_in}
use Rattle.model.specs.InOrder.{up_to, code_from}
use Rattle.model.specs.Sites.{home_of, site}
use Rattle.model.specs.Machine.{operate, access, step, run}
use Rattle.model.specs.declared.Stop.TheVariants.{ListUsedUp}
use Rattle.format.specs.Format.{row_at, decode_at, words_from}
use Rattle.format.specs.Head.{sizes_at, array_at, signature_at, arrays_at, signatures_at}
use Rattle.format.specs.Layout.{record_of, return_of}
use Rattle.reading.specs.Reading.{allowed, record_at, call_at, if_with, while_with, block_with, instr_at, block_at, function_at, functions_at, parts_at, read_at}
use Rattle.typing.specs.Check.{accepted, check_at}
use Rattle.machine.specs.Directives.{branch_at, stray_at, back_at, directive_at, list_from, list_at, directives_from, all_bytes}
use Rattle.machine.specs.Runs.{ran, total, run_at}
use Rattle.machine.specs.declared.End.{End}

-- registers: 0 public, 1 transient, 2 secret; array 0 public, array 1 secret, of four words each. function 0, at 44:
-- CONST 1 5 / RETURN. the entry, at 51: INIT / CALL 0 marked / IF 0 (UPDATE 0 1 / LOAD 1 0 0 / PROTECT 1 1) ELSE
-- (UPDATE 0 0 / STORE 0 0 1) ENDIF / WHILE 0 (UPDATE 0 1 / LOAD 1 0 0 / CONST 0 0) ENDWHILE / UPDATE 0 0 / CALL 0
-- unmarked / RETURN
abbrev pub table : List ℕ
table = 1 ∷ 3 ∷ 2 ∷ 2 ∷ 2 ∷ 4 ∷ 0 ∷ 2 ∷ 4 ∷ 0 ∷ 3 ∷ 44 ∷ 0 ∷ 1 ∷ 36 ∷ 0 ∷ 0 ∷ 0 ∷ 9 ∷ 0 ∷ 1 ∷ 32 ∷ 0 ∷ 0 ∷ 0 ∷ 9 ∷ 0 ∷ 3 ∷ 51 ∷ 0 ∷ 0 ∷ 36 ∷ 0 ∷ 0 ∷ 0 ∷ 8 ∷ 0 ∷ 0 ∷ 36 ∷ 0 ∷ 0 ∷ 0 ∷ 9 ∷ 0 ∷ 16 ∷ 1 ∷ 5 ∷ 0 ∷ 0 ∷ 0 ∷ 37 ∷ 21 ∷ 24 ∷ 0 ∷ 1 ∷ 32 ∷ 0 ∷ 69 ∷ 0 ∷ 22 ∷ 0 ∷ 1 ∷ 19 ∷ 1 ∷ 0 ∷ 0 ∷ 23 ∷ 1 ∷ 1 ∷ 33 ∷ 79 ∷ 0 ∷ 22 ∷ 0 ∷ 0 ∷ 20 ∷ 0 ∷ 0 ∷ 1 ∷ 34 ∷ 35 ∷ 0 ∷ 104 ∷ 0 ∷ 1 ∷ 36 ∷ 0 ∷ 0 ∷ 0 ∷ 9 ∷ 0 ∷ 22 ∷ 0 ∷ 1 ∷ 19 ∷ 1 ∷ 0 ∷ 0 ∷ 16 ∷ 0 ∷ 0 ∷ 0 ∷ 0 ∷ 0 ∷ 36 ∷ 80 ∷ 0 ∷ 22 ∷ 0 ∷ 0 ∷ 24 ∷ 0 ∷ 0 ∷ 37 ∷ []

pub passes : check_at table ≡ accepted 2 114
unfolding below slot levels_in packed_in join_status same_status within kill guard_status call_status settle beside row_at decode_at sizes_at array_at signature_at arrays_at signatures_at words_from record_of return_of allowed record_at call_at if_with while_with block_with instr_at block_at function_at functions_at parts_at read_at type_block type_instr type_function type_from check_at
passes = refl

-- register 0 is zero. Into the first block all the same, where UPDATE masks the flag and PROTECT hides what was
-- loaded; into the loop, and out; and from the second CALL back to the place after the first
abbrev pub astray : List ℕ
astray = 96 ∷ 96 ∷ 96 ∷ 99 ∷ 55 ∷ 0 ∷ 97 ∷ 1 ∷ 96 ∷ 96 ∷ 96 ∷ 96 ∷ 97 ∷ 1 ∷ 96 ∷ 96 ∷ 96 ∷ 96 ∷ 97 ∷ 0 ∷ 96 ∷ 96 ∷ 96 ∷ 99 ∷ 55 ∷ 0 ∷ []

-- register 0 is nine, no index of array 0. Into the second block, where the STORE goes to array 1; into the loop,
-- where the LOAD reads it
abbrev pub strays : List ℕ
strays = 96 ∷ 96 ∷ 96 ∷ 99 ∷ 55 ∷ 0 ∷ 97 ∷ 0 ∷ 96 ∷ 98 ∷ 1 ∷ 2 ∷ 0 ∷ 96 ∷ 97 ∷ 1 ∷ 96 ∷ 98 ∷ 1 ∷ 3 ∷ 0 ∷ 96 ∷ 96 ∷ 97 ∷ 1 ∷ []

pub record Run : Type 0 where
  pub regs : List ℕ
  pub mem : List ℕ
  pub dirs : List ℕ
  pub stop : End
  pub regs' : List ℕ
  pub mem' : List ℕ
  pub obs' : List ℕ

abbrev pub Right : List Run → Type 0
Right [] = Unit {0}
Right (r ∷ rs) = (run_at table r.regs r.mem r.dirs (replicate 60 0) ≡ ran (Ok r.stop) r.regs' r.mem' r.obs') × Right rs

-- two starts for each list; the answers were made by the second implementation
abbrev pub runs : List Run
runs =
    record {
      regs = 0 ∷ 7 ∷ 1111 ∷ [];
      mem = 1 ∷ 2 ∷ 3 ∷ 4 ∷ 101 ∷ 102 ∷ 103 ∷ 104 ∷ [];
      dirs = astray;
      stop = record { stop = ListUsedUp; place = 55; steps = 19; mis = true; masked = true };
      regs' = 0 ∷ 5 ∷ 1111 ∷ [];
      mem' = 1 ∷ 2 ∷ 3 ∷ 4 ∷ 101 ∷ 102 ∷ 103 ∷ 104 ∷ [];
      obs' = 112 ∷ 112 ∷ 112 ∷ 112 ∷ 113 ∷ 0 ∷ 112 ∷ 114 ∷ 0 ∷ 0 ∷ 0 ∷ 0 ∷ 0 ∷ 112 ∷ 112 ∷ 113 ∷ 0 ∷ 112 ∷ 114 ∷ 0 ∷ 0 ∷ 0 ∷ 0 ∷ 0 ∷ 112 ∷ 112 ∷ 113 ∷ 0 ∷ 112 ∷ 112 ∷ 112 ∷ 112 ∷ 0 ∷ 0 ∷ 0 ∷ 0 ∷ 0 ∷ 0 ∷ 0 ∷ 0 ∷ 0 ∷ 0 ∷ 0 ∷ 0 ∷ 0 ∷ 0 ∷ 0 ∷ 0 ∷ 0 ∷ 0 ∷ 0 ∷ 0 ∷ 0 ∷ 0 ∷ 0 ∷ 0 ∷ 0 ∷ 0 ∷ 0 ∷ 0 ∷ [];
    } ∷
    record {
      regs = 0 ∷ 7 ∷ 2222 ∷ [];
      mem = 1 ∷ 2 ∷ 3 ∷ 4 ∷ 201 ∷ 202 ∷ 203 ∷ 204 ∷ [];
      dirs = astray;
      stop = record { stop = ListUsedUp; place = 55; steps = 19; mis = true; masked = true };
      regs' = 0 ∷ 5 ∷ 2222 ∷ [];
      mem' = 1 ∷ 2 ∷ 3 ∷ 4 ∷ 201 ∷ 202 ∷ 203 ∷ 204 ∷ [];
      obs' = 112 ∷ 112 ∷ 112 ∷ 112 ∷ 113 ∷ 0 ∷ 112 ∷ 114 ∷ 0 ∷ 0 ∷ 0 ∷ 0 ∷ 0 ∷ 112 ∷ 112 ∷ 113 ∷ 0 ∷ 112 ∷ 114 ∷ 0 ∷ 0 ∷ 0 ∷ 0 ∷ 0 ∷ 112 ∷ 112 ∷ 113 ∷ 0 ∷ 112 ∷ 112 ∷ 112 ∷ 112 ∷ 0 ∷ 0 ∷ 0 ∷ 0 ∷ 0 ∷ 0 ∷ 0 ∷ 0 ∷ 0 ∷ 0 ∷ 0 ∷ 0 ∷ 0 ∷ 0 ∷ 0 ∷ 0 ∷ 0 ∷ 0 ∷ 0 ∷ 0 ∷ 0 ∷ 0 ∷ 0 ∷ 0 ∷ 0 ∷ 0 ∷ 0 ∷ 0 ∷ [];
    } ∷
    record {
      regs = 9 ∷ 7 ∷ 1111 ∷ [];
      mem = 1 ∷ 2 ∷ 3 ∷ 4 ∷ 101 ∷ 102 ∷ 103 ∷ 104 ∷ [];
      dirs = strays;
      stop = record { stop = ListUsedUp; place = 91; steps = 14; mis = true; masked = true };
      regs' = 0 ∷ 104 ∷ 1111 ∷ [];
      mem' = 1 ∷ 2 ∷ 3 ∷ 4 ∷ 101 ∷ 102 ∷ 5 ∷ 104 ∷ [];
      obs' = 112 ∷ 112 ∷ 112 ∷ 112 ∷ 113 ∷ 1 ∷ 112 ∷ 114 ∷ 0 ∷ 9 ∷ 0 ∷ 0 ∷ 0 ∷ 112 ∷ 113 ∷ 1 ∷ 112 ∷ 114 ∷ 0 ∷ 9 ∷ 0 ∷ 0 ∷ 0 ∷ 112 ∷ 112 ∷ 113 ∷ 0 ∷ 0 ∷ 0 ∷ 0 ∷ 0 ∷ 0 ∷ 0 ∷ 0 ∷ 0 ∷ 0 ∷ 0 ∷ 0 ∷ 0 ∷ 0 ∷ 0 ∷ 0 ∷ 0 ∷ 0 ∷ 0 ∷ 0 ∷ 0 ∷ 0 ∷ 0 ∷ 0 ∷ 0 ∷ 0 ∷ 0 ∷ 0 ∷ 0 ∷ 0 ∷ 0 ∷ 0 ∷ 0 ∷ 0 ∷ [];
    } ∷
    record {
      regs = 9 ∷ 7 ∷ 2222 ∷ [];
      mem = 1 ∷ 2 ∷ 3 ∷ 4 ∷ 201 ∷ 202 ∷ 203 ∷ 204 ∷ [];
      dirs = strays;
      stop = record { stop = ListUsedUp; place = 91; steps = 14; mis = true; masked = true };
      regs' = 0 ∷ 204 ∷ 2222 ∷ [];
      mem' = 1 ∷ 2 ∷ 3 ∷ 4 ∷ 201 ∷ 202 ∷ 5 ∷ 204 ∷ [];
      obs' = 112 ∷ 112 ∷ 112 ∷ 112 ∷ 113 ∷ 1 ∷ 112 ∷ 114 ∷ 0 ∷ 9 ∷ 0 ∷ 0 ∷ 0 ∷ 112 ∷ 113 ∷ 1 ∷ 112 ∷ 114 ∷ 0 ∷ 9 ∷ 0 ∷ 0 ∷ 0 ∷ 112 ∷ 112 ∷ 113 ∷ 0 ∷ 0 ∷ 0 ∷ 0 ∷ 0 ∷ 0 ∷ 0 ∷ 0 ∷ 0 ∷ 0 ∷ 0 ∷ 0 ∷ 0 ∷ 0 ∷ 0 ∷ 0 ∷ 0 ∷ 0 ∷ 0 ∷ 0 ∷ 0 ∷ 0 ∷ 0 ∷ 0 ∷ 0 ∷ 0 ∷ 0 ∷ 0 ∷ 0 ∷ 0 ∷ 0 ∷ 0 ∷ 0 ∷ 0 ∷ [];
    } ∷
    []

pub all_run : Right runs
unfolding below slot levels_in packed_in row_at decode_at sizes_at array_at signature_at arrays_at signatures_at words_from record_of return_of allowed record_at call_at if_with while_with block_with instr_at block_at function_at functions_at parts_at read_at offset_in up_to code_from home_of site operate access step run directive_at branch_at stray_at back_at list_from list_at directives_from all_bytes total run_at
all_run = (refl, (refl, (refl, (refl, tt))))
