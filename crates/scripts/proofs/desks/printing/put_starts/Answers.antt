-- `put_starts` puts its parts one behind the other. Assumes nothing.
use Rattle.text.proofs.Puts.{then}
use Rattle.scripts.specs.Desks.Printing.{starts_text}
use Rattle.scripts.proofs.desks.printing.put_starts.Goals as goal

pub returns : goal.returns
unfolding starts_text
returns c =
    let line = rw c.from.ensures at c.number-a.ensures in
    let t1 = rw c.from-2.ensures at c.number-b.ensures in
    then _ _ _ _ _ _ _ _ line (then _ _ _ _ _ _ _ _ t1 (then _ _ _ _ _ _ _ _ c.put_text-c.ensures (then _ _ _ _ _ _ _ _ c.put_byte-e.ensures c.first.ensures)))
