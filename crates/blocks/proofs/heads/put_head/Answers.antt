-- `put_head` puts four bytes. Assumes nothing.
use Rattle.text.proofs.Puts.{then}
use Rattle.blocks.proofs.heads.put_head.Goals as goal

pub returns : goal.returns
returns c =
    rw (← c.flag_byte.ensures)
    (then _ _ _ _ _ _ _ _ c.put_byte-a.ensures (then _ _ _ _ _ _ _ _ c.put_byte-b.ensures (then _ _ _ _ _ _ _ _ c.put_byte-c.ensures c.put_byte.ensures)))
