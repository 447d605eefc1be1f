-- What is left of the things is still to be put. Assumes nothing.
use Rattle.std.proofs.Common.{◌≡◌, drop}
use Rattle.text.specs.Putting.{puts}
use Rattle.blocks.specs.Layout.{joined}
use Rattle.blocks.proofs.layout.put_each.Given as goal

abbrev pub invariant-loop-x : goal.invariant-loop-x
invariant-loop-x g l = puts (joined g.T.Put.bytes_of (drop l.x-index l.xs)) l.place l.out ≡ puts (joined g.T.Put.bytes_of l.xs) l.at l.fn.out
