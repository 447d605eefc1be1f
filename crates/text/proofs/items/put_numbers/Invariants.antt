-- What is left of the numbers goes to the place that was come to. Assumes nothing.
use Rattle.std.proofs.Common.{◌≡◌, drop}
use Rattle.text.specs.Putting.{puts}
use Rattle.text.specs.Items.{values_text}
use Rattle.text.proofs.items.put_numbers.Given as goal

abbrev pub invariant-loop-n : goal.invariant-loop-n
invariant-loop-n l = puts (values_text (drop l.n-index l.v)) l.place l.out ≡ puts (values_text l.v) l.at l.fn.out
