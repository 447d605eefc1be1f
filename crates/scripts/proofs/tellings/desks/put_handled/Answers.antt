-- `put_handled` puts its parts one behind the other. Assumes nothing.
use Rattle.text.proofs.Puts.{then}
use Rattle.scripts.specs.Tellings.Desks.{handled_text}
use Rattle.scripts.proofs.tellings.desks.put_handled.Goals as goal

pub returns : goal.returns
unfolding handled_text
returns c = search then
