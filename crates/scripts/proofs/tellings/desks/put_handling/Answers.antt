-- `put_handling` puts its parts one behind the other. Assumes nothing.
use Rattle.text.proofs.Puts.{then}
use Rattle.scripts.specs.Tellings.Desks.{handling_text}
use Rattle.scripts.proofs.tellings.desks.put_handling.Goals as goal

pub returns : goal.returns
unfolding handling_text
returns c = search then
