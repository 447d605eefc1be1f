-- `put_value` puts its parts one behind the other. Assumes nothing.
use Rattle.text.specs.Items.{value_text}
use Rattle.text.proofs.Puts.{then}
use Rattle.text.proofs.items.put_value.Goals as goal

pub returns : goal.returns
unfolding value_text
returns c = search then
