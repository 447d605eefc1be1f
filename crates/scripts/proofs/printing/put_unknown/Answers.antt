-- `put_unknown` puts its parts one behind the other. Assumes nothing.
use Rattle.text.proofs.Puts.{then}
use Rattle.scripts.specs.Printing.{unknown_text}
use Rattle.scripts.proofs.printing.put_unknown.Goals as goal

pub returns : goal.returns
unfolding unknown_text
returns c = search then
