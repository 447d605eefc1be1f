-- `load` compares before it answers. Assumes nothing.
use Rattle.blocks.proofs.Loads.{loads, loads-blank}
use Rattle.blocks.proofs.layout.load.Goals as goal

pub returns-then-is_block : goal.returns-then-is_block
returns-then-is_block g c = loads _ _ _ _ _ c.take-x.ensures c.if-is_block.ensures

pub returns-else-is_block : goal.returns-else-is_block
returns-else-is_block g c = loads-blank _ _ _ _ _ _ c.take-x.ensures c.if-is_block.ensures c.blank.ensures
