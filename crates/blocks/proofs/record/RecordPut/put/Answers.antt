-- `put` puts type, values and text. Assumes nothing.
use Rattle.text.proofs.Puts.{then}
use Rattle.blocks.specs.Record.{record_bytes}
use Rattle.blocks.proofs.Found.{record-length}
use Rattle.blocks.proofs.record.RecordPut.put.Goals as goal

pub returns-clause-put : goal.returns-clause-put
unfolding record_bytes
returns-clause-put c =
    rw (← c.type_of.ensures, ← c.values_of.ensures)
    (then _ _ _ _ _ _ _ _ c.put_byte-a.ensures (then _ _ _ _ _ _ _ _ c.put_each-b.ensures c.put_text.ensures))

pub returns-clause-whole : goal.returns-clause-whole
returns-clause-whole c = record-length c.args.self
