-- The typing walk over the bytes of a table: what the checker's functions compute.
use Rattle.std.specs.Prelude.{ℕ, suc, Bool, List, length, Result, Ok, Err}
use Rattle.model.specs.Tests.{pick}
use Rattle.model.specs.Levels.{Env, within}
use Rattle.model.specs.Packing.{env_of}
use Rattle.model.specs.Rules.{after, returned, typing}
use Rattle.model.specs.Walk.{Walking, Onward, Closed, Halt, Ending, Reached, Failed, if_with, while_with, type_block, type_instr, inside, type_function}
use Rattle.model.specs.Decide.{meets, simple_fault, typing_tests}
use Rattle.model.specs.Table.{Table}
use Rattle.model.specs.declared.Sizes.{Sizes}
use Rattle.model.specs.declared.Packed.{Packed}
use Rattle.model.specs.declared.Simple.{Simple}
use Rattle.model.specs.declared.Walked.{Walked}
use Rattle.model.specs.declared.Walked.TheVariants.{Next, Shut}
use Rattle.model.specs.declared.Fault.TheVariants.{CallDoesNotFit}
use Rattle.model.specs.declared.Refusal.{Refusal}
use Rattle.format.specs.Layout.{in_of, out_of, table_with}
use Rattle.typing.specs.declared.Walk.{Walk}
use Rattle.typing.specs.declared.BlockEnd.{BlockEnd}
use Rattle.typing.specs.Envs.{view_env}

-- how far a walk came, with the environment there
abbrev pub going : Walked → Env → Walking Env
going (Next p) E = Onward p E
going (Shut p) E = Closed p E

abbrev pub view_walk : Result Walk Refusal → Walking Env
view_walk (Ok w) = going w.to (view_env w.env)
view_walk (Err e) = Halt e.fault e.place

-- .. and how that of a block ended
abbrev pub view_end : Result BlockEnd Refusal → Ending Env
view_end (Ok w) = Reached w.place (view_env w.env)
view_end (Err e) = Failed e.fault e.place

-- a simple record at `at`, with `next` after it
abbrev pub simple_walk : Sizes → Simple → ℕ → ℕ → Env → Walking Env
simple_walk z s at next E = pick (meets s E) (Onward next (after z.arrays s E)) (Halt (simple_fault s) at)

module _ (z : Sizes) (t : List ℕ) where
  -- a CALL of f at `at`, with `next` after it
  abbrev pub call_walk : ℕ → Bool → ℕ → ℕ → Env → Walking Env
  call_walk f m at next E = pick (within z.registers z.arrays E (env_of (in_of z t f))) (Onward next (returned (env_of (out_of z t f)) m E)) (Halt CallDoesNotFit at)

  abbrev pub table : Table
  table = table_with z t

  -- no block has more records than the table has bytes
  abbrev pub size : ℕ
  size = suc (length t)

  abbrev pub record_walk : ℕ → ℕ → Env → Walking Env
  record_walk d p E = type_instr table (typing table) (typing_tests table) d size p E

  abbrev pub block_walk : ℕ → ℕ → ℕ → Env → Ending Env
  block_walk d k p E = type_block table (typing table) (typing_tests table) (record_walk d) k p E

  -- the IF on r at p; the WHILE on r at p with the loop environment L
  abbrev pub if_walk : ℕ → ℕ → ℕ → Env → Walking Env
  if_walk d p r E = if_with table (typing table) (typing_tests table) (inside table (typing table) (typing_tests table) size d p) p r E

  abbrev pub while_walk : ℕ → ℕ → ℕ → Packed → Env → Walking Env
  while_walk d p r L E = while_with table (typing table) (typing_tests table) (inside table (typing table) (typing_tests table) size d p) p r (env_of L) E

  abbrev pub function_walk : ℕ → Ending Env
  function_walk g = type_function table (typing table) (typing_tests table) size g
