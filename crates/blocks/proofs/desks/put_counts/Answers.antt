-- `put_counts` puts a start, two counts and a truth. Assumes nothing.
use Rattle.text.proofs.Puts.{then}
use Rattle.blocks.specs.Desks.{count_bytes}
use Rattle.blocks.proofs.desks.put_counts.Goals as goal

pub returns : goal.returns
unfolding count_bytes
returns c =
    rw (← c.count_byte.ensures, ← c.count_byte-2.ensures)
    (then _ _ _ _ _ _ _ _ c.put_four-a.ensures (then _ _ _ _ _ _ _ _ c.put_byte-b.ensures (then _ _ _ _ _ _ _ _ c.put_byte-c.ensures c.put_byte.ensures)))
