-- What is left of the bytes goes to the place that was come to. Assumes nothing.
use Rattle.std.proofs.Common.{◌≡◌, drop}
use Rattle.text.specs.Putting.{puts}
use Rattle.text.specs.Frames.{shown_as}
use Rattle.text.proofs.frames.put_shown.Given as goal

abbrev pub invariant-loop-b : goal.invariant-loop-b
invariant-loop-b l = puts (shown_as (drop l.b-index l.bytes)) l.place l.out ≡ puts (shown_as l.bytes) l.at l.fn.out
