-- `put_four` puts the bytes one by one. Assumes nothing.
use Rattle.text.proofs.FourBytes.{put-spelt}
use Rattle.text.proofs.fours.put_four.Goals as goal

pub returns : goal.returns
returns c = put-spelt c.args.n _ _ _ _ c.put_text.ensures
