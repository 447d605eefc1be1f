-- `number` puts its parts one behind the other. Assumes nothing.
use Rattle.text.proofs.Puts.{then}
use Rattle.scripts.specs.Printing.{number_text}
use Rattle.scripts.proofs.printing.number.Goals as goal

pub returns : goal.returns
unfolding number_text
returns c = search then
