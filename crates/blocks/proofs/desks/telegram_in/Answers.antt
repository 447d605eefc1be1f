-- `telegram_in` copies a part over zeros. Assumes nothing.
use Rattle.std.proofs.Common.{drop}
use Rattle.characters.specs.Marks.{longest}
use Rattle.blocks.proofs.Copied.{most, copied}
use Rattle.blocks.proofs.desks.telegram_in.Goals as goal

pub returns : goal.returns
returns c = copied c.args.s.now _ _ c.part.ensures (c.copy.ensures.bytes (rw c.part.ensures (most longest (drop 0 c.args.s.now))))
