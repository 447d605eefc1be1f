-- `count_byte` is the count, or 255. Assumes nothing.
use Rattle.blocks.proofs.Parts.{in-byte}
use Rattle.blocks.proofs.heads.count_byte.Goals as goal

pub returns : goal.returns
returns c = in-byte _ _ _ c.try_from.ensures c.unwrap_or.ensures
