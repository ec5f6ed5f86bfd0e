use Rattle.std.proofs.Common.{◌≡◌, ◌-◌}
use Rattle.model.specs.Typing.{type_from}
use Rattle.typing.specs.Walks.{table, size}
use Rattle.typing.proofs.walks.ReadTable.functions.Given as goal

-- the functions before g type: the answer is that of the others
abbrev pub invariant-loop-g : goal.invariant-loop-g
invariant-loop-g l =
    let z = l.self.table.sizes in
    let t = l.self.table.bytes.now in
    type_from (table z t) (size z t) z.functions ≡ type_from (table z t) (size z t) (z.functions - l.g)
