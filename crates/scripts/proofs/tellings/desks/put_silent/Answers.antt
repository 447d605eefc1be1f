-- `put_silent` puts its parts one behind the other. Assumes nothing.
use Rattle.text.proofs.Puts.{then}
use Rattle.scripts.specs.Tellings.Desks.{silent_text}
use Rattle.scripts.proofs.tellings.desks.put_silent.Goals as goal

pub returns : goal.returns
unfolding silent_text
returns c = search then
