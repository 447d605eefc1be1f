-- `put_read` puts the record, or nothing. Assumes nothing.
use Rattle.text.specs.Putting.{puts}
use Rattle.text.proofs.Puts.{then}
use Rattle.recordings.proofs.replay.printing.put_read.Goals as goal

pub returns : goal.returns
returns c = rw c.in-Ok.is (then _ _ _ _ _ _ _ _ c.put_record-a.ensures c.put_text.ensures)

pub returns-in_default : goal.returns-in_default
unfolding puts
returns-in_default c = rw c.in_default.is
