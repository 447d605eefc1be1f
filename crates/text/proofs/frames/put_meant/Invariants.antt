-- What is left of the text goes to the place that was come to. Assumes nothing.
use Rattle.std.proofs.Common.{◌≡◌, length}
use Rattle.text.specs.Putting.{puts}
use Rattle.text.specs.Frames.{meant_on, meant_by}
use Rattle.text.proofs.frames.put_meant.Given as goal

abbrev pub invariant-loop-b : goal.invariant-loop-b
invariant-loop-b l = puts (meant_on 0 l.rest) l.place l.out ≡ puts (meant_by l.text) l.at l.fn.out

abbrev pub decreases-loop-b : goal.decreases-loop-b
decreases-loop-b l = length l.rest
