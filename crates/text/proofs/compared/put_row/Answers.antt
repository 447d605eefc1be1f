-- `put_row` puts its parts one behind the other. Assumes nothing.
use Rattle.text.specs.Compared.{row_text}
use Rattle.text.proofs.Puts.{then}
use Rattle.text.proofs.compared.put_row.Goals as goal

pub returns : goal.returns
unfolding row_text
returns c =
    rw (← c.same.ensures)
    (then _ _ _ _ _ _ _ _ c.put_text-a.ensures (then _ _ _ _ _ _ _ _ c.put_behind-b.ensures (then _ _ _ _ _ _ _ _ c.put_behind-c.ensures c.put_end.ensures)))
