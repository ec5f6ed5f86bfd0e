-- Document 01, "Marked cases (to be proved)": one list, one statement over it, by computation.
use Rattle.std.specs.Prelude.{ℕ, ◌≡◌, refl, Bool, true, false, List, [], ◌∷◌, ◌++◌, eqb, replicate, Ok, Err}
use Rattle.model.specs.Tests.{pick, below}
use Rattle.model.specs.Levels.{Env, join_status, same_status, within}
use Rattle.model.specs.Packing.{slot, levels_in, packed_in}
use Rattle.model.specs.Rules.{kill, guard_status, call_status, settle, beside, after, returned}
use Rattle.model.specs.Decide.{meets, simple_fault}
use Rattle.model.specs.Walk.{type_block, type_instr, type_function}
use Rattle.model.specs.Typing.{type_from}
use Rattle.model.specs.declared.Status.{Status}
use Rattle.model.specs.declared.Status.TheVariants.{Unknown, Updated, Outdated}
use Rattle.model.specs.declared.Simple.TheVariants.{Store, Update, Protect}
use Rattle.format.specs.Format.{row_at, decode_at, words_from}
use Rattle.format.specs.Head.{sizes_at, array_at, signature_at, arrays_at, signatures_at}
use Rattle.format.specs.Layout.{record_of, return_of, table_of}
use Rattle.reading.specs.Reading.{allowed, record_at, call_at, if_with, while_with, block_with, instr_at, block_at, function_at, functions_at, parts_at, read_at}
use Rattle.typing.specs.Check.{check_at}
use Rattle.model.specs.Numbers.{refusal, fault_number}
use Rattle.model.specs.declared.Fault.{Fault}
use Rattle.model.specs.declared.Fault.TheVariants.{TableCut, WrongStatus}
use Rattle.model.specs.declared.Stop.TheVariants.{Returned}
use Rattle.model.specs.Memory.{offset_in}
use Rattle.model.specs.Machine.{Stepped, Stopped, Went, operate, access, step_of, step, run}
use Rattle.model.specs.declared.Directive.TheVariants.{Branch}
use Rattle.model.specs.declared.Record.TheVariants.{If}
use Rattle.machine.specs.Directives.{branch_at, stray_at, back_at, directive_at, list_from, list_at, directives_from, bytes_of, all_bytes}
use Rattle.machine.specs.Runs.{ran, total, run_at}
use Rattle.machine.specs.declared.End.{End}
use Rattle.report.specs.Text.{digits_in}
use Rattle.report.specs.Lines.{told, line_of}

-- 01 02 01 01 / 02 04 00 / 03 18 00, seven 00, 00 0A 00 00 00 00 00
abbrev head : List ℕ
head = 1 ∷ 2 ∷ 1 ∷ 1 ∷ 2 ∷ 4 ∷ 0 ∷ 3 ∷ 24 ∷ 0 ∷ 0 ∷ 0 ∷ 0 ∷ 0 ∷ 0 ∷ 0 ∷ 0 ∷ 0 ∷ 10 ∷ 0 ∷ 0 ∷ 0 ∷ 0 ∷ 0 ∷ []

-- 13 00 00 01 / 13 01 00 00 / 25
abbrev pub table_a : List ℕ
table_a = head ++ (19 ∷ 0 ∷ 0 ∷ 1 ∷ 19 ∷ 1 ∷ 0 ∷ 0 ∷ 37 ∷ [])

-- 15 / 13 00 00 01 / 17 00 00 / 13 01 00 00 / 25
abbrev pub table_b : List ℕ
table_b = head ++ (21 ∷ 19 ∷ 0 ∷ 0 ∷ 1 ∷ 23 ∷ 0 ∷ 0 ∷ 19 ∷ 1 ∷ 0 ∷ 0 ∷ 37 ∷ [])

-- the forms that the cases take
pub data Case : Type 0 where
  writes : (table output : List ℕ) → Case  -- the check program's whole output
  refuses : (table : List ℕ) (fault : Fault) (number place : ℕ) → Case  -- the check's answer, and the fault's number
  protects : (source dest : ℕ) → Case  -- PROTECT under updated: the level of its source, of its dest afterwards
  stores : (source named other named' other' : ℕ) → Case  -- STORE into array 0 beside array 1: levels before and after
  joins : (one other result : Status) → Case
  updates : (register : ℕ) (sense : Bool) (status : Status) (fault : Fault) (number : ℕ) → Case  -- UPDATE under a status
  runs : (table regs mem dirs : List ℕ) (room : ℕ) (answer : End) (regs' mem' obs' : List ℕ) → Case  -- a run: what it answers, and what it leaves behind
  forks : (value : ℕ) (way : Bool) (seen : List ℕ) (mis : Bool) → Case  -- IF on a value under a branch directive
  calls : (mark : Bool) (out result : Status) → Case  -- the status after a CALL

-- two registers and two arrays: register 1 at level s, the arrays at a and b
abbrev env : Status → ℕ → ℕ → ℕ → Env
env u s a b = record { status = u; regs = λ i. pick (eqb i 1) s 0; arrays = λ i. pick (eqb i 0) a b }

-- the observation's bytes, and misspeculating afterwards
abbrev pub Forks : Stepped → List ℕ → Bool → Type 0
Forks (Stopped k) seen mis = ⊥
Forks (Went c x o) seen mis = (bytes_of o ≡ seen) × (c.mis ≡ mis)

abbrev pub Right : Case → Type 0
Right (writes t out) = line_of (told (check_at t)) ≡ out
Right (refuses t f n p) = (check_at t ≡ Err (refusal f p)) × (fault_number f ≡ n)
Right (protects s d) = (meets (Protect 0 1) (env Updated s 0 0) ≡ true) × ((after 2 (Protect 0 1) (env Updated s 0 0)).regs 0 ≡ d)
Right (stores s a b a' b') = ((after 2 (Store 0 0 1) (env Unknown s a b)).arrays 0 ≡ a') × ((after 2 (Store 0 0 1) (env Unknown s a b)).arrays 1 ≡ b')
Right (joins u v w) = join_status u v ≡ w
Right (updates r s u f n) = (meets (Update r s) (env u 0 0 0) ≡ false) × (simple_fault (Update r s) ≡ f) × (fault_number f ≡ n)
Right (runs t regs mem dirs room s regs' mem' obs') = run_at t regs mem dirs (replicate room 0) ≡ ran (Ok s) regs' mem' obs'
Right (forks v b seen mis) = Forks (step_of (table_of table_b) (If 0 10) (record { place = 0; stack = []; mis = false }) (Branch b) (record { regs = v ∷ []; mem = []; masked = false })) seen mis
Right (calls m u w) = (returned (env u 0 0 0) m (env Unknown 0 0 0)).status ≡ w

-- "refused 10 at 28", "accepted 1 functions 37 bytes"
abbrev refused_10_at_28 : List ℕ
refused_10_at_28 = 114 ∷ 101 ∷ 102 ∷ 117 ∷ 115 ∷ 101 ∷ 100 ∷ 32 ∷ 49 ∷ 48 ∷ 32 ∷ 97 ∷ 116 ∷ 32 ∷ 50 ∷ 56 ∷ 10 ∷ []

abbrev accepted_1_functions_37_bytes : List ℕ
accepted_1_functions_37_bytes =
    97 ∷ 99 ∷ 99 ∷ 101 ∷ 112 ∷ 116 ∷ 101 ∷ 100 ∷ 32 ∷ 49 ∷ 32 ∷ 102 ∷ 117 ∷ 110 ∷ 99 ∷ 116 ∷ 105 ∷ 111 ∷ 110 ∷ 115 ∷ 32 ∷ 51 ∷ 55 ∷ 32 ∷ 98 ∷ 121 ∷ 116 ∷ 101 ∷ 115 ∷ 10 ∷ []

abbrev pub cases : List Case
cases =
    writes table_a refused_10_at_28 ∷  -- 1
    writes table_b accepted_1_functions_37_bytes ∷  -- 2
    refuses [] TableCut 2 0 ∷  -- 3
    runs table_b (0 ∷ 1 ∷ []) (3 ∷ 2 ∷ 9 ∷ 7 ∷ []) (96 ∷ 96 ∷ 96 ∷ 96 ∷ []) 14  -- 4
    (record { stop = Returned; place = 36; steps = 4; mis = false; masked = false }) (2 ∷ 9 ∷ []) (3 ∷ 2 ∷ 9 ∷ 7 ∷ [])
    (112 ∷ 114 ∷ 0 ∷ 1 ∷ 0 ∷ 0 ∷ 0 ∷ 112 ∷ 114 ∷ 0 ∷ 2 ∷ 0 ∷ 0 ∷ 0 ∷ []) ∷
    protects 1 0 ∷  -- 5
    protects 2 2 ∷  -- 6
    stores 1 0 0 1 1 ∷  -- 7
    stores 0 0 0 0 0 ∷  -- 8
    joins Updated (Outdated 0 true) Unknown ∷  -- 9
    updates 0 true (Outdated 0 false) WrongStatus 11 ∷  -- 10
    calls true Unknown Unknown ∷  -- 11
    forks 0 true (113 ∷ 0 ∷ []) true ∷  -- 12
    []

abbrev pub AllRight : List Case → Type 0
AllRight [] = Unit {0}
AllRight (c ∷ cs) = Right c × AllRight cs

pub all_right : AllRight cases
unfolding below slot levels_in packed_in join_status same_status within kill guard_status call_status settle beside row_at decode_at sizes_at array_at signature_at arrays_at signatures_at words_from record_of return_of allowed record_at call_at if_with while_with block_with instr_at block_at function_at functions_at parts_at read_at type_block type_instr type_function type_from check_at digits_in offset_in operate access step run directive_at branch_at stray_at back_at list_from list_at directives_from all_bytes total run_at
all_right = (refl, (refl, ((refl, refl), (refl, ((refl, refl), ((refl, refl), ((refl, refl), ((refl, refl), (refl, ((refl, refl, refl), (refl, ((refl, refl), tt))))))))))))
