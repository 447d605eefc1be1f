-- `put_no` puts its parts one behind the other. Assumes nothing.
use Rattle.text.specs.Items.{refusal_text}
use Rattle.text.proofs.Puts.{then}
use Rattle.text.proofs.items.put_no.Goals as goal

pub returns : goal.returns
unfolding refusal_text
returns c = search then
