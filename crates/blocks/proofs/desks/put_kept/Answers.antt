-- `put_kept` puts stored bytes, record and queue. Assumes nothing.
use Rattle.std.proofs.Common.{rules}
use Rattle.text.proofs.Puts.{then}
use Rattle.blocks.specs.Desks.{kept_bytes}
use Rattle.blocks.proofs.DeskBlock.{kept-length}
use Rattle.blocks.proofs.desks.put_kept.Goals as goal

pub returns : goal.returns
unfolding kept_bytes
returns c = (
  then _ _ _ _ _ _ _ _ c.put_text-a.ensures (then _ _ _ _ _ _ _ _ c.put_wanted-b.ensures c.put_each.ensures),
  kept-length c.args.stored c.args.wanted c.args.queue (search rules) (search rules),
)
