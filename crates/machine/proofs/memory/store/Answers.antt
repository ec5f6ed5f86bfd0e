use Rattle.machine.specs.States.{words_in}
use Rattle.machine.proofs.Words.{array_end, stored_in}
use Rattle.machine.proofs.memory.store.Goals as goal

pub slice_bounds-put-end : goal.slice_bounds-put-end
slice_bounds-put-end c = rw (c.words_of.ensures.0, c.offset_of-from.ensures.0, c.requires.1) (array_end (words_in c.args.table.now) c.args.a)

pub returns : goal.returns
returns c =
    let s = c.before in
    let a = s.args in
    rw c.put.ensures (stored_in (words_in a.table.now) a.mem.now a.a a.i a.v _ _ c.offset_of-from.ensures.0 c.words_of.ensures.0 s.requires.0 s.requires.1)
