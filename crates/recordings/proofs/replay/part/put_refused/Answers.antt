-- `put_refused` puts the refusal and the row's end. Assumes nothing.
use Rattle.text.proofs.Puts.{then}
use Rattle.recordings.specs.Replay.Texts.{refused_text}
use Rattle.recordings.proofs.replay.part.put_refused.Goals as goal

pub returns : goal.returns
unfolding refused_text
returns c = search then
