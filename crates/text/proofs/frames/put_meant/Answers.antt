-- `put_meant` puts byte after byte. Assumes nothing.
use Rattle.std.proofs.Common.{refl}
use Rattle.text.specs.Frames.{meant_by}
use Rattle.text.proofs.Puts.{part-on, put_all}
use Rattle.text.proofs.Shown.{meant_here, meant_done}
use Rattle.text.proofs.frames.put_meant.Goals as goal

pub loop-b-init : goal.loop-b-init
unfolding meant_by
loop-b-init c = refl

pub loop-b-preserved : goal.loop-b-preserved
loop-b-preserved c =
    part-on _ _ _ _ _ _ c.put_byte-place.ensures (meant_here _ _ _ _ _ c.in-Some.ensures.cases.0 c.behind-rest.ensures c.byte_meant.ensures) c.loop-b.invariant

pub returns : goal.returns
returns c = put_all _ _ _ _ _ _ (meant_done _ c.in_default.ensures.cases) c.loop-b.invariant
