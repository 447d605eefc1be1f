-- `put` puts head, counts and what is kept. Assumes nothing.
use Rattle.text.proofs.Puts.{then}
use Rattle.blocks.specs.Desks.{desk_bytes}
use Rattle.blocks.proofs.DeskBlock.{desk-length}
use Rattle.blocks.proofs.desks.DeskPut.put.Goals as goal

pub returns-clause-put : goal.returns-clause-put
unfolding desk_bytes
returns-clause-put c =
    rw (← c.set_byte-set.ensures) (then _ _ _ _ _ _ _ _ c.put_head-a.ensures (then _ _ _ _ _ _ _ _ c.put_counts-b.ensures c.put_kept.ensures.0))

pub returns-clause-whole : goal.returns-clause-whole
returns-clause-whole c = desk-length c.args.self c.put_kept.ensures.1
