-- `put_tally` puts its parts one behind the other. Assumes nothing.
use Rattle.text.specs.Tally.{tally_text}
use Rattle.text.proofs.Puts.{then}
use Rattle.text.proofs.tally.put_tally.Goals as goal

pub returns : goal.returns
unfolding tally_text
returns c = search then
