-- `put_fault` puts its parts one behind the other. Assumes nothing.
use Rattle.text.proofs.Puts.{then}
use Rattle.scripts.specs.Tellings.Desks.{fault_text}
use Rattle.scripts.proofs.tellings.desks.put_fault.Goals as goal

pub returns : goal.returns
unfolding fault_text
returns c = search then
