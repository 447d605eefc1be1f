-- `key_at` takes the first byte. Assumes nothing.
use Rattle.std.proofs.Common.{refl}
use Rattle.scripts.specs.Desks.Behind.{key_at}
use Rattle.scripts.proofs.Meant.{meant-front}
use Rattle.scripts.proofs.desks.behind.key_at.Goals as goal

pub returns : goal.returns
unfolding key_at
returns c = rw (c.byte_at.ensures, c.part.ensures, meant-front 2 _ _ _ _ refl c.meant-n.ensures)
