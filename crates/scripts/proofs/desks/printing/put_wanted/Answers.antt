-- `put_wanted` puts nothing, or the record behind its word. Assumes nothing.
use Rattle.text.specs.Putting.{puts}
use Rattle.scripts.specs.Desks.Printing.{set_text}
use Rattle.scripts.proofs.desks.printing.put_wanted.Goals as goal

pub returns-in-None : goal.returns-in-None
unfolding puts
returns-in-None c = rw c.in-None.is

pub returns-in-Some : goal.returns-in-Some
unfolding set_text
returns-in-Some c = rw c.in-Some.is c.put_behind.ensures
