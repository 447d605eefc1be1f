-- `put_whole` puts its parts one behind the other. Assumes nothing.
use Rattle.text.proofs.Puts.{then}
use Rattle.scripts.specs.Masters.Printing.{whole_text}
use Rattle.scripts.proofs.masters.printing.put_whole.Goals as goal

pub returns : goal.returns
unfolding whole_text
returns c = search then
