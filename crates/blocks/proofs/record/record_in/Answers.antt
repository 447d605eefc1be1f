-- `record_in` makes the tests of its definition in order. Assumes nothing.
use Rattle.std.proofs.Common.{true, false}
use Rattle.blocks.proofs.Found.{other_length, other-type, other-bytes}
use Rattle.blocks.proofs.record.record_in.Goals as goal

pub returns-then-block-ne-RECORD_LENGTH : goal.returns-then-block-ne-RECORD_LENGTH
returns-then-block-ne-RECORD_LENGTH c = other_length c.args.block.now c.if-block-ne-RECORD_LENGTH.true

pub returns-then-type_of-byte_at : goal.returns-then-type_of-byte_at
returns-then-type_of-byte_at c =
    other-type _ _ _ _ c.if-block-ne-RECORD_LENGTH.false c.take-rec.ensures c.type_of.ensures c.byte_at.ensures c.if-type_of-byte_at.true

pub returns-then-is_block : goal.returns-then-is_block
returns-then-is_block c =
    other-bytes _ _ _ _ c.if-block-ne-RECORD_LENGTH.false c.take-rec.ensures c.type_of.ensures c.byte_at.ensures true c.if-type_of-byte_at.false c.if-is_block.ensures

pub returns-else-is_block : goal.returns-else-is_block
returns-else-is_block c =
    other-bytes _ _ _ _ c.if-block-ne-RECORD_LENGTH.false c.take-rec.ensures c.type_of.ensures c.byte_at.ensures false c.if-type_of-byte_at.false c.if-is_block.ensures
