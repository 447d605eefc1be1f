-- `put_busy` puts nothing, or its parts one behind the other. Assumes nothing.
use Rattle.std.proofs.Common.{ne_eqb}
use Rattle.text.specs.Putting.{puts}
use Rattle.text.proofs.Puts.{then}
use Rattle.scripts.specs.Masters.Printing.{busy_text}
use Rattle.scripts.proofs.masters.printing.put_busy.Goals as goal

pub returns-then-m-eq0 : goal.returns-then-m-eq0
unfolding busy_text puts
returns-then-m-eq0 c = rw c.if-m-eq0.true

pub returns : goal.returns
unfolding busy_text
returns c =
    let t2 = rw c.from.ensures at c.number-a.ensures in
    rw (ne_eqb _ _ c.if-m-eq0.false) (then _ _ _ _ _ _ _ _ t2 c.put_behind.ensures)
