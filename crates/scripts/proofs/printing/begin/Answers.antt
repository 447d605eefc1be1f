-- `begin` puts its parts one behind the other. Assumes nothing.
use Rattle.text.proofs.Puts.{then}
use Rattle.scripts.specs.Printing.{began_text}
use Rattle.scripts.proofs.printing.begin.Goals as goal

pub returns : goal.returns
unfolding began_text
returns c = search then
