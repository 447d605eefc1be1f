-- `put_ticking` puts the parts of its row one behind the other. Assumes nothing.
use Rattle.text.proofs.Puts.{then}
use Rattle.recordings.specs.Replay.Rows.{ticked_text}
use Rattle.recordings.proofs.replay.printing.put_ticking.Goals as goal

pub returns : goal.returns
unfolding ticked_text
returns c = search then
