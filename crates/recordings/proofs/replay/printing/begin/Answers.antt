-- `begin` puts ordinal, offset and time one behind the other. Assumes nothing.
use Rattle.text.proofs.Puts.{then}
use Rattle.recordings.specs.Replay.Rows.{opening_text}
use Rattle.recordings.proofs.replay.printing.begin.Goals as goal

pub returns : goal.returns
unfolding opening_text
returns c = then _ _ _ _ _ _ _ _ c.put_number-a.ensures (then _ _ _ _ _ _ _ _ c.put_byte-b.ensures (then _ _ _ _ _ _ _ _ c.put_number-c.ensures
    (then _ _ _ _ _ _ _ _ c.put_byte-d.ensures (then _ _ _ _ _ _ _ _ (rw c.from.ensures at c.put_number-e.ensures) c.put_byte.ensures))))
