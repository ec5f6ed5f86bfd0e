use Rattle.std.proofs.Common.{sym, ◌∙◌, arith}
use Rattle.format.specs.Laws.{words_first}
use Rattle.machine.proofs.Words.{words_out}
use Rattle.machine.proofs.memory.words_of.Goals as goal

pub returns-then-a-table : goal.returns-then-a-table
returns-then-a-table c =
    let z = c.args.table.now.sizes in
    let t = c.args.table.now.bytes.now in
    (c.words_at.ensures.0 ∙ sym (words_first z t z.arrays c.args.a c.if-a-table.true), c.words_at.ensures.1)

pub returns : goal.returns
returns c =
    let z = c.args.table.now.sizes in
    let t = c.args.table.now.bytes.now in
    (sym (words_out z t z.arrays 0 c.args.a c.if-a-table.false), omega arith)
