-- `put_count` puts its parts one behind the other. Assumes nothing.
use Rattle.text.specs.Amounts.{count_said}
use Rattle.text.proofs.Puts.{then}
use Rattle.text.proofs.amounts.put_count.Goals as goal

pub returns : goal.returns
unfolding count_said
returns c = search then
