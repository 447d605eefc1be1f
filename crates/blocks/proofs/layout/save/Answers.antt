-- `save` fills a block of just its length. Assumes nothing.
use Rattle.std.proofs.Common.{arith}
use Rattle.blocks.proofs.Laid.{fill, unfilled}
use Rattle.blocks.proofs.layout.save.Goals as goal

pub returns-then-block-LENGTH : goal.returns-then-block-LENGTH
returns-then-block-LENGTH g c =
    fill g.T.Put.LENGTH _ c.args.block.now _ _ c.put.ensures.whole (omega (arith, c.if-block-LENGTH.true, c.LENGTH.ensures)) c.put.ensures.put

pub returns-else-block-LENGTH : goal.returns-else-block-LENGTH
returns-else-block-LENGTH g c =
    unfilled g.T.Put.LENGTH _ c.args.block.now (λ e. c.if-block-LENGTH.false (omega (arith, e, c.LENGTH.ensures)))
