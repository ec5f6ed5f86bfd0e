-- Demand 3 over tables that have been read: two runs of a typed table, from starts that agree on what the entry's
-- in-environment calls public or transient, observe alike and stop alike. Stated for any start, misspeculating or not
-- (order 11 asks for both), and with what the two runs still agree on where they end. The statement itself and its
-- proof stand in proofs/TwoRuns.
use Rattle.std.specs.Prelude.{ℕ, ◌≤◌, ◌<◌, ◌≡◌, Bool, length}
use Rattle.model.specs.Table.{Table, entry}
use Rattle.model.specs.Machine.{Data, reg, words_of, word_at, Final, final}
use Rattle.model.specs.theory.Alike.{top, Alike}

-- both of the table's sizes, equal in every register and array whose level on the way in is at most the highest that
-- counts: transient on the right path, public while misspeculating
pub record Agree (t : Table) (mis : Bool) (x y : Data) : Type 0 where
  pub wide₁ : length x.regs ≡ t.registers
  pub wide₂ : length y.regs ≡ t.registers
  pub long : length x.mem ≡ length y.mem
  pub regs : (i : ℕ) → i < t.registers → (t.enter (entry t)).regs i ≤ top mis → reg x i ≡ reg y i
  pub mem : (a i : ℕ) → i < words_of t a → (t.enter (entry t)).arrays a ≤ top mis → word_at t x a i ≡ word_at t y a i

-- same stop, steps, place, stack, misspeculation and observations
abbrev pub SameShown : Final → Final → Type 0
SameShown (final j n c x os) (final k m d y ps) = (j ≡ k) × (n ≡ m) × (c ≡ d) × (os ≡ ps)

-- at the entry's RETURN: alike by the entry's out-environment
abbrev pub SameOut : Table → Final → Final → Type 0
SameOut t (final j n c x os) (final k m d y ps) = c.place ≡ t.ret (entry t) → Alike t (t.leave (entry t)) c.mis x y
