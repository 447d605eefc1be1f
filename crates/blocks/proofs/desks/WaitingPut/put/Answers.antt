-- `put` puts the record. Assumes nothing.
use Rattle.blocks.proofs.Found.{record-length}
use Rattle.blocks.proofs.desks.WaitingPut.put.Goals as goal

pub returns-clause-whole : goal.returns-clause-whole
returns-clause-whole c = record-length c.args.self.rec
