-- `put_record` puts its parts one behind the other. Assumes nothing.
use Rattle.text.specs.Items.{record_text}
use Rattle.text.proofs.Puts.{then}
use Rattle.text.proofs.items.put_record.Goals as goal

pub returns : goal.returns
unfolding record_text
returns c = rw (← c.type_of.ensures) (then _ _ _ _ _ _ _ _ c.put_byte-a.ensures c.put_values.ensures)
