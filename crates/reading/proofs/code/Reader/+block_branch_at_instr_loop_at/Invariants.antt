-- What falls at each call of the readers' cycle: the nesting that is left, counted in steps of three. In the block's
-- loop it is the bytes left, and the invariant says that the block from the start is the block from here on.
use Rattle.std.proofs.Common.{◌≡◌, ◌+◌, ◌-◌, ◌*◌, length}
use Rattle.reading.specs.Reading.{closing_byte, block_at}
use Rattle.reading.proofs.code.Reader.+block_branch_at_instr_loop_at.Given as goal

abbrev pub decreases-block : goal.decreases-block
decreases-block l = 3 * l.self.now.depth + 2

abbrev pub decreases-branch_at : goal.decreases-branch_at
decreases-branch_at l = 3 * l.self.now.depth

abbrev pub decreases-instr : goal.decreases-instr
decreases-instr l = 3 * l.self.now.depth + 1

abbrev pub decreases-loop_at : goal.decreases-loop_at
decreases-loop_at l = 3 * l.self.now.depth

abbrev pub invariant-block-loop-next : goal.invariant-block-loop-next
invariant-block-loop-next l = block_at l.self.depth l.self.function l.self.table.sizes l.self.table.bytes.now (closing_byte l.c) l.from ≡ block_at l.self.depth l.self.function l.self.table.sizes l.self.table.bytes.now (closing_byte l.c) l.at

abbrev pub decreases-block-loop-next : goal.decreases-block-loop-next
decreases-block-loop-next l = length l.self.table.bytes.now - l.at
