-- `put` puts head, starts, flag and record. Assumes nothing.
use Rattle.text.proofs.Puts.{then}
use Rattle.blocks.specs.Masters.{master_bytes}
use Rattle.blocks.proofs.MasterBlock.{master-length}
use Rattle.blocks.proofs.masters.MasterPut.put.Goals as goal

pub returns-clause-put : goal.returns-clause-put
unfolding master_bytes
returns-clause-put c =
    rw (← c.flag_byte.ensures)
    (then _ _ _ _ _ _ _ _ c.put_head-a.ensures (then _ _ _ _ _ _ _ _ c.put_four-b.ensures (then _ _ _ _ _ _ _ _ c.put_four-c.ensures (then _ _ _ _ _ _ _ _ c.put_byte-d.ensures c.put.ensures.put))))

pub returns-clause-whole : goal.returns-clause-whole
returns-clause-whole c = master-length c.args.self
