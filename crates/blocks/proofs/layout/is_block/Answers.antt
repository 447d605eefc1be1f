-- `is_block` puts the thing again and compares. Assumes nothing.
use Rattle.std.proofs.Common.{ℕ, replicate, arith}
use Rattle.std.proofs.lemmas.List.{length-replicate}
use Rattle.blocks.proofs.Laid.{again-same}
use Rattle.blocks.proofs.layout.is_block.Goals as goal

pub returns : goal.returns
returns g c =
    again-same (g.T.Put.bytes_of c.args.x) (replicate g.row.N 0) c.args.block.now _ _ _ (omega (arith, length-replicate {A = ℕ} g.row.N 0, c.requires.size, c.put.ensures.whole)) c.put.ensures.put c.same.ensures
