-- `put` puts four bytes. Assumes nothing.
use Rattle.text.proofs.FourBytes.{four-length}
use Rattle.blocks.proofs.numbers.U32Put.put.Goals as goal

pub returns-clause-whole : goal.returns-clause-whole
returns-clause-whole c = four-length c.args.self
