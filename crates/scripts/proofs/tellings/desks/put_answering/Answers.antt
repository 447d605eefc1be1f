-- `put_answering` puts its parts one behind the other. Assumes nothing.
use Rattle.text.proofs.Puts.{then}
use Rattle.scripts.specs.Tellings.Desks.{answering_text}
use Rattle.scripts.proofs.tellings.desks.put_answering.Goals as goal

pub returns : goal.returns
unfolding answering_text
returns c = search then
