-- `put_starts` puts its parts one behind the other. Assumes nothing.
use Rattle.text.proofs.Puts.{then}
use Rattle.scripts.specs.Masters.Printing.{starts_text}
use Rattle.scripts.proofs.masters.printing.put_starts.Goals as goal

pub returns : goal.returns
unfolding starts_text
returns c =
    let line = rw c.from.ensures at c.number-a.ensures in
    let t0 = rw c.from-2.ensures at c.number-b.ensures in
    then _ _ _ _ _ _ _ _ line (then _ _ _ _ _ _ _ _ t0 c.put_either.ensures)
