-- Document 01, "The machine": one step, and a run over a list of directives.
use Rattle.std.specs.Prelude.{ℕ, suc, ◌+◌, ◌-◌, ◌*◌, ◌%◌, Bool, true, false, not, ◌&&◌, ◌||◌, List, [], ◌∷◌, eqb, ltb, leb, get_or, set, Option, Some, None, Result, Ok, Err}
use Rattle.std.specs.Bool.{beq}
use Rattle.std.specs.Int.Bits.{bit_and, bit_or, bit_xor}
use Rattle.model.specs.Tests.{pick}
use Rattle.model.specs.Memory.{offset_in}
use Rattle.model.specs.Records.{simple_length}
use Rattle.model.specs.Sites.{site}
use Rattle.model.specs.Table.{Table, entry}
use Rattle.model.specs.declared.Stop.{Stop}
use Rattle.model.specs.declared.Stop.TheVariants.{ListUsedUp, Returned, WrongDirective, InitMisspeculating, AccessOutOfRange, NoSuchTarget, NoRoom}
use Rattle.model.specs.declared.Operation.{Operation}
use Rattle.model.specs.declared.Operation.TheVariants.{Add, Sub, Mul, Xor, And, Or, Less, Equal}
use Rattle.model.specs.declared.Directive.{Directive}
use Rattle.model.specs.declared.Directive.TheVariants.{Plain, Branch, Stray, Back}
use Rattle.model.specs.declared.Observation.{Observation}
use Rattle.model.specs.declared.Observation.TheVariants.{Nothing, Way, Address}
use Rattle.model.specs.declared.Simple.{Simple}
use Rattle.model.specs.declared.Simple.TheVariants.{Const, Op, Select, Load, Store, Init, Update, Protect, LoadFixed, StoreFixed}
use Rattle.model.specs.declared.Record.{Record}
use Rattle.model.specs.declared.Record.TheVariants.{Do, Call, If, Else, Endif, While, Endwhile, Return}

-- ---- THE STATE. What the directives alone decide, given public guards
pub record Ctl : Type 0 where
  pub place : ℕ
  pub stack : List ℕ  -- return places, the top first
  pub mis : Bool  -- misspeculating

-- the rest: registers, memory (the arrays one after another), and whether the flag is masked
pub record Data : Type 0 where
  pub regs : List ℕ
  pub mem : List ℕ
  pub masked : Bool

abbrev pub reg : Data → ℕ → ℕ
reg x i = get_or x.regs i 0

-- the words of array a, and where word i of it lies
abbrev pub words_of : Table → ℕ → ℕ
words_of t a = get_or t.words a 0

abbrev pub address : Table → ℕ → ℕ → ℕ
address t a i = offset_in t.words a + i

abbrev pub word_at : Table → Data → ℕ → ℕ → ℕ
word_at t x a i = get_or x.mem (address t a i) 0

abbrev pub wrote : Data → ℕ → ℕ → Data
wrote x d v = record { regs = set x.regs d v; mem = x.mem; masked = x.masked }

abbrev pub stored : Table → Data → ℕ → ℕ → ℕ → Data
stored t x a i v = record { regs = x.regs; mem = set x.mem (address t a i) v; masked = x.masked }

abbrev pub flagged : Data → Bool → Data
flagged x b = record { regs = x.regs; mem = x.mem; masked = b }

abbrev pub to : Ctl → ℕ → Ctl
to c p = record { place = p; stack = c.stack; mis = c.mis }

-- "if the register is not zero"
abbrev pub truth : ℕ → Bool
truth v = pick (eqb v 0) false true

-- the condition (r, s) on the value v
abbrev pub holds : ℕ → Bool → Bool
holds v s = beq (truth v) s

-- ---- OPS 0..7, left first, on 32-bit words
unfoldable pub operate : Operation → ℕ → ℕ → ℕ
operate Add a b = (a + b) % 4294967296
operate Sub a b = (a + (4294967296 - b)) % 4294967296
operate Mul a b = a * b % 4294967296
operate Xor a b = bit_xor a b
operate And a b = bit_and a b
operate Or a b = bit_or a b
operate Less a b = pick (ltb a b) 1 0
operate Equal a b = pick (eqb a b) 1 0

-- ---- ONE STEP
-- a record's work on the data: a stop, or new data and an observation
pub data Work : Type 0 where
  halt : Stop → Work
  did : Data → Observation → Work

pub data Stepped : Type 0 where
  Stopped : Stop → Stepped
  Went : Ctl → Data → Observation → Stepped

-- takes 60; any other directive is 22
abbrev pub plain : Directive → Work → Work
plain Plain w = w
plain (Branch b) w = halt WrongDirective
plain (Stray a i) w = halt WrongDirective
plain (Back q) w = halt WrongDirective

abbrev pub onward : Work → Ctl → Stepped
onward (halt k) c = Stopped k
onward (did x o) c = Went c x o

abbrev pub by_access : Result (ℕ × ℕ) Stop → (ℕ → ℕ → Work) → Work
by_access (Ok (a, i)) f = f a i
by_access (Err k) f = halt k

-- the stack without its top, if the top is q
abbrev pub pop : List ℕ → ℕ → Option (List ℕ)
pop [] q = None
pop (p ∷ ps) q = pick (eqb p q) (Some ps) None

module _ (t : Table) where
  -- in range it takes 60
  abbrev pub in_range : ℕ → ℕ → Directive → Result (ℕ × ℕ) Stop
  in_range a i Plain = Ok (a, i)
  in_range a i (Branch b) = Err WrongDirective
  in_range a i (Stray b j) = Err WrongDirective
  in_range a i (Back q) = Err WrongDirective

  -- out of range, misspeculating: the word that 62 names
  abbrev pub strayed : Directive → Result (ℕ × ℕ) Stop
  strayed Plain = Err WrongDirective
  strayed (Branch b) = Err WrongDirective
  strayed (Stray b j) = pick (ltb b t.arrays && ltb j (words_of t b)) (Ok (b, j)) (Err NoSuchTarget)
  strayed (Back q) = Err WrongDirective

  -- word i of array a is asked for; out of range on the right path is 24, before any directive is looked at
  unfoldable pub access : ℕ → ℕ → Bool → Directive → Result (ℕ × ℕ) Stop
  access a i mis dir = pick (ltb i (words_of t a)) (in_range a i dir) (pick mis (strayed dir) (Err AccessOutOfRange))

  abbrev pub work : Simple → Directive → Bool → Data → Work
  work (Const d v) dir mis x = plain dir (did (wrote x d v) Nothing)
  work (Op d o l r) dir mis x = plain dir (did (wrote x d (operate o (reg x l) (reg x r))) Nothing)
  work (Select d c y n) dir mis x = plain dir (did (wrote x d (pick (truth (reg x c)) (reg x y) (reg x n))) Nothing)
  work (Load d a i) dir mis x = by_access (access a (reg x i) mis dir) (λ b j. did (wrote x d (word_at t x b j)) (Address a (reg x i)))
  work (Store a i s) dir mis x = by_access (access a (reg x i) mis dir) (λ b j. did (stored t x b j (reg x s)) (Address a (reg x i)))
  work Init dir mis x = pick mis (halt InitMisspeculating) (plain dir (did (flagged x false) Nothing))
  work (Update r s) dir mis x = plain dir (did (flagged x (pick (holds (reg x r) s) x.masked true)) Nothing)
  work (Protect d s) dir mis x = plain dir (did (wrote x d (pick x.masked 4294967295 (reg x s))) Nothing)
  work (LoadFixed d a i) dir mis x = plain dir (did (wrote x d (word_at t x a i)) (Address a i))
  work (StoreFixed a i s) dir mis x = plain dir (did (stored t x a i (reg x s)) (Address a i))

  -- a record that changes no data
  abbrev pub pass : Directive → Data → Ctl → Stepped
  pass dir x c = onward (plain dir (did x Nothing)) c

  -- IF and WHILE on the value v take 61: way 1 goes to p, way 0 to q
  abbrev pub fork : ℕ → ℕ → ℕ → Ctl → Directive → Data → Stepped
  fork v p q c Plain x = Stopped WrongDirective
  fork v p q c (Branch b) x = Went (record { place = pick b p q; stack = c.stack; mis = c.mis || not (holds v b) }) x (Way (truth v))
  fork v p q c (Stray a i) x = Stopped WrongDirective
  fork v p q c (Back r) x = Stopped WrongDirective

  -- a wrong return to q, which follows a CALL with the mark
  abbrev pub wrong : Option Bool → ℕ → Data → Stepped
  wrong None q x = Stopped NoSuchTarget
  wrong (Some m) q x = Went (record { place = q; stack = []; mis = true }) (flagged x (m || x.masked)) Nothing

  abbrev pub right : Option (List ℕ) → ℕ → Ctl → Data → Stepped
  right None q c x = wrong (site t c.place q) q x
  right (Some ps) q c x = Went (record { place = q; stack = ps; mis = c.mis }) x Nothing

  -- RETURN takes 63: the top of the stack first, then the places that follow a CALL of this function
  abbrev pub back : Ctl → Directive → Data → Stepped
  back c Plain x = Stopped WrongDirective
  back c (Branch b) x = Stopped WrongDirective
  back c (Stray a i) x = Stopped WrongDirective
  back c (Back q) x = right (pop c.stack q) q c x

  abbrev pub step_of : Record → Ctl → Directive → Data → Stepped
  step_of (Do s) c dir x = onward (work s dir c.mis x) (to c (c.place + simple_length s))
  step_of (Call f m) c dir x = pass dir x (record { place = t.start f; stack = (c.place + 3) ∷ c.stack; mis = c.mis })
  step_of (If r e) c dir x = fork (reg x r) (c.place + 4) (e + 3) c dir x
  step_of (Else n) c dir x = pass dir x (to c (n + 1))
  step_of Endif c dir x = pass dir x (to c (c.place + 1))
  step_of (While r e L) c dir x = fork (reg x r) (c.place + 11) (e + 3) c dir x
  step_of (Endwhile w) c dir x = pass dir x (to c w)
  step_of Return c dir x = back c dir x

  unfoldable pub step : Ctl → Directive → Data → Stepped
  step c dir x = step_of (t.rec c.place) c dir x

-- ---- A RUN. Bytes of an observation: 70; 71 and one byte; 72, array, index 4 bytes
abbrev pub size : Observation → ℕ
size Nothing = 1
size (Way b) = 2
size (Address a i) = 6

-- stop, steps, where and with what it ended, observations
pub data Final : Type 0 where
  final : Stop → (steps : ℕ) → Ctl → Data → List Observation → Final

abbrev pub observed : Observation → Final → Final
observed o (final k n c x os) = final k (suc n) c x (o ∷ os)

-- 26: no room for the observation. Nothing has changed then
abbrev pub after_step : Stepped → ℕ → Ctl → Data → (ℕ → Ctl → Data → Final) → Final
after_step (Stopped k) room c x f = final k 0 c x []
after_step (Went c' x' o) room c x f = pick (leb (size o) room) (observed o (f (room - size o) c' x')) (final NoRoom 0 c x [])

module _ (t : Table) where
  -- at the entry's RETURN
  abbrev pub ended : Ctl → Bool
  ended c = eqb c.place (t.ret (entry t))

  -- 21 first, then 20; each step uses one directive
  unfoldable pub run : List Directive → ℕ → Ctl → Data → Final
  run [] room c x = pick (ended c) (final Returned 0 c x []) (final ListUsedUp 0 c x [])
  run (d ∷ ds) room c x = pick (ended c) (final Returned 0 c x []) (after_step (step t c d x) room c x (run ds))

  -- "A start has the entry's first place, empty stack, no, clear": the control part, and the flag is in the data
  abbrev pub start_ctl : Bool → Ctl
  start_ctl mis = record { place = t.start (entry t); stack = []; mis = mis }
