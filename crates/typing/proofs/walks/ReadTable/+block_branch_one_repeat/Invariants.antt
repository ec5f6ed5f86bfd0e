use Rattle.std.proofs.Common.{◌≡◌, ◌+◌, ◌<◌, length, ℕ, ◌-◌, ◌*◌}
use Rattle.typing.specs.Envs.{view_env, Fit}
use Rattle.typing.specs.Walks.{size, block_walk}
use Rattle.typing.proofs.walks.ReadTable.+block_branch_one_repeat.Given as goal

-- what falls at each call is the nesting that is left
abbrev pub decreases-block : goal.decreases-block
decreases-block l = 3 * l.depth + 2

abbrev pub decreases-branch : goal.decreases-branch
decreases-branch l = 3 * l.depth

abbrev pub decreases-one : goal.decreases-one
decreases-one l = 3 * l.depth + 1

abbrev pub decreases-repeat : goal.decreases-repeat
decreases-repeat l = 3 * l.depth

-- the model's walk from the start is its walk from here on, k bounding the records that are left
abbrev pub invariant-block-loop-w : goal.invariant-block-loop-w
invariant-block-loop-w l =
    let z = l.self.table.sizes in
    let t = l.self.table.bytes.now in
    (k : ℕ)
    × (length t - l.at < k)
    × Fit z (view_env l.e)
    × (block_walk z t l.depth (size z t) l.initial.at (view_env l.initial.e) ≡ block_walk z t l.depth k l.at (view_env l.e))

-- in a block it is the bytes that are left
abbrev pub decreases-block-loop-w : goal.decreases-block-loop-w
decreases-block-loop-w l = length l.self.table.bytes.now - l.at
