-- `put_each` puts thing after thing. Assumes nothing.
use Rattle.std.proofs.Common.{arith}
use Rattle.text.proofs.Puts.{part-on, put_all}
use Rattle.blocks.proofs.Laid.{one-here, none_here}
use Rattle.blocks.proofs.layout.put_each.Goals as goal

pub loop-x-preserved : goal.loop-x-preserved
loop-x-preserved g c =
    part-on _ _ _ _ _ _ c.put-place.ensures.put (rw (← c.x-item.is) at (one-here g.T.Put.bytes_of c.x-item.result c.args.xs.now c.loop-x.x-index (omega arith))) c.loop-x.invariant

pub returns : goal.returns
returns g c = put_all _ _ _ _ _ _ (none_here g.T.Put.bytes_of c.args.xs.now c.loop-x.x-index (omega arith)) c.loop-x.invariant
