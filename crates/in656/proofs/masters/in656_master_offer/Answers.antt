-- `in656_master_offer` is the call by value on the state that is loaded. Assumes nothing.
use Rattle.in656.proofs.Calls.{master-sends}
use Rattle.in656.proofs.masters.in656_master_offer.Goals as goal

pub returns : goal.returns
returns c = rw (← c.load-master.ensures, ← c.meaning.ensures) (master-sends _ _ _ _ _ _ _ c.close.ensures c.offer.ensures)
