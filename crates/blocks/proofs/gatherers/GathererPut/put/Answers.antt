-- `put` puts the mark, the count and the bytes. Assumes nothing.
use Rattle.std.proofs.Common.{rules}
use Rattle.text.proofs.Puts.{then}
use Rattle.blocks.specs.Gatherers.{gatherer_bytes}
use Rattle.blocks.proofs.GathererBlock.{gatherer-length}
use Rattle.blocks.proofs.gatherers.GathererPut.put.Goals as goal

pub returns-clause-put : goal.returns-clause-put
unfolding gatherer_bytes
returns-clause-put c = rw (← c.count_byte.ensures) (then _ _ _ _ _ _ _ _ c.put_text-m.ensures (then _ _ _ _ _ _ _ _ c.put_byte-a.ensures c.put_text.ensures))

pub returns-clause-whole : goal.returns-clause-whole
returns-clause-whole c = gatherer-length c.args.self (search rules)
