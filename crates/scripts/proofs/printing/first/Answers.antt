-- `first` puts nothing, or its parts one behind the other. Assumes nothing.
use Rattle.std.proofs.Common.{ne_eqb}
use Rattle.text.specs.Putting.{puts}
use Rattle.text.proofs.Puts.{then}
use Rattle.scripts.specs.Printing.{first_text}
use Rattle.scripts.proofs.printing.first.Goals as goal

pub returns-then-n-eq0 : goal.returns-then-n-eq0
unfolding first_text puts
returns-then-n-eq0 c = rw c.if-n-eq0.true

pub returns : goal.returns
unfolding first_text
returns c = rw (ne_eqb _ _ c.if-n-eq0.false, ← c.part.ensures) (then _ _ _ _ _ _ _ _ c.put_text-a.ensures c.put_shown.ensures)
