-- `put_hearing` puts the parts of its row one behind the other. Assumes nothing.
use Rattle.text.proofs.Puts.{then}
use Rattle.recordings.specs.Replay.Rows.{heard_text}
use Rattle.recordings.proofs.Sent.{by_count}
use Rattle.recordings.proofs.replay.printing.put_hearing.Goals as goal

pub returns : goal.returns
unfolding heard_text
returns c =
    let f = by_count _ _ _ _ _ _ _ _ c.sent_count.ensures c.first-c.ensures in
    then _ _ _ _ _ _ _ _ c.begin-a.ensures (then _ _ _ _ _ _ _ _ c.put_did-b.ensures (then _ _ _ _ _ _ _ _ f c.put_byte.ensures))
