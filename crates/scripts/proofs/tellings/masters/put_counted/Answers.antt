-- `put_counted` puts its parts one behind the other. Assumes nothing.
use Rattle.text.proofs.Puts.{then}
use Rattle.scripts.proofs.tellings.masters.put_counted.Goals as goal

pub returns : goal.returns
returns g c = search then
