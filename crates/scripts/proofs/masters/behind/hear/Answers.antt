-- `hear` hears what the row says. Assumes nothing.
use Rattle.std.proofs.Common.{refl}
use Rattle.scripts.proofs.Meant.{meant-front}
use Rattle.scripts.proofs.masters.behind.hear.Goals as goal

pub returns : goal.returns
returns c = rw (c.hear.ensures, c.word_value.ensures, c.part.ensures, meant-front 4 _ _ _ _ refl c.meant-n.ensures)
