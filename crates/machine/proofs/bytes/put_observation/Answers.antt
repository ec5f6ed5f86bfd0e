use Rattle.std.proofs.Common.{◌∙◌, arith, length-set, ◌+◌, ◌-◌, set, ◌≤◌, length, add-one}
use native.Mathlib.Numerals.{add-two}
use Rattle.machine.proofs.Words.{sets_mid}
use Rattle.machine.proofs.bytes.put_observation.Goals as goal

pub returns-in-Address : goal.returns-in-Address
returns-in-Address c =
    let s = set (set c.args.s.now c.args.at 0x72) (c.args.at + 1) c.in-Address.a in
    let v = c.copy_from_slice.ensures.after ∙ c.to_le_bytes.ensures in
    let room : c.args.at + 6 ≤ length c.args.s.now = rw c.in-Address.is at c.requires in
    sets_mid c.copy_from_slice.new.self s (c.args.at + 2) (c.args.at + 6 - (c.args.at + 2)) (rw v (omega arith)) (simp length-set (omega arith)) ∙ rw (v, c.in-Address.is, add-one, add-two)
