-- `put_behind` puts its parts one behind the other. Assumes nothing.
use Rattle.text.proofs.Puts.{then}
use Rattle.scripts.proofs.printing.put_behind.Goals as goal

pub returns : goal.returns
returns g c = search then
