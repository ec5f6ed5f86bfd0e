use mathlib.Core.Path.{sym, subst, ◌∙◌}
use Rattle.message.specs.Shown.{Lies, part_lies}
use Rattle.message.proofs.shown.Goals as goal

pub slice_of-requires : goal.slice_of-requires
slice_of-requires c =
    let a = c.args in
    subst (Lies a.table.now a.list.now) (sym c.part_of-w.ensures ∙ c.in-Table.is) (part_lies a.table.now a.list.now a.number a.place)

pub slice_of-requires-in-List : goal.slice_of-requires-in-List
slice_of-requires-in-List c =
    let a = c.args in
    subst (Lies a.table.now a.list.now) (sym c.part_of-w.ensures ∙ c.in-List.is) (part_lies a.table.now a.list.now a.number a.place)
