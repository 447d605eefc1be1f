-- `end` puts its parts one behind the other. Assumes nothing.
use Rattle.text.proofs.Puts.{then}
use Rattle.scripts.specs.Printing.{end_text}
use Rattle.scripts.proofs.printing.end.Goals as goal

pub returns : goal.returns
unfolding end_text
returns c = search then
