use Rattle.std.proofs.Common.{◌≡◌}
use Rattle.format.specs.Head.{signatures_at}
use Rattle.head.proofs.signatures.Given as goal

-- what is left to read decides
abbrev pub invariant-loop-follow : goal.invariant-loop-follow
invariant-loop-follow l = signatures_at l.table.sizes l.table.bytes.now l.follow l.at ≡ signatures_at l.table.sizes l.table.bytes.now l.n l.from
