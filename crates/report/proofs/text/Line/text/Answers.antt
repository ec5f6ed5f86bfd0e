use Rattle.std.proofs.lemmas.List.{take_more}
use Rattle.report.proofs.Written.{adds_both}
use Rattle.report.proofs.text.Line.text.Goals as goal

pub loop-byte-preserved : goal.loop-byte-preserved
loop-byte-preserved c = rw (take_more c.args.text.now c.loop-byte.byte-index 0 c.loop-byte-test.true) (adds_both _ _ _ _ _ c.loop-byte.invariant c.byte.ensures)
