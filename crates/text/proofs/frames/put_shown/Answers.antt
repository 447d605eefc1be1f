-- `put_shown` puts byte after byte. Assumes nothing.
use Rattle.std.proofs.Common.{arith}
use Rattle.text.proofs.Puts.{part-on}
use Rattle.text.proofs.Shown.{shown-here}
use Rattle.text.proofs.frames.put_shown.Goals as goal

pub loop-b-preserved : goal.loop-b-preserved
loop-b-preserved c =
    let l = c.loop-b in
    part-on _ _ _ _ _ _ c.put_byte-place.ensures (shown-here _ l.b-index _ (omega arith) c.shown.ensures) l.invariant
