-- `keep_tail` moves the bytes in one go. Assumes nothing.
use Rattle.std.proofs.Common.{arith}
use Rattle.pieces.proofs.Moved.{none_kept, all_moved}
use Rattle.pieces.proofs.tails.keep_tail.Goals as goal

pub returns-then-end-from : goal.returns-then-end-from
returns-then-end-from c = none_kept _ _ _ _ c.min-end.ensures (omega arith)

pub returns : goal.returns
returns c = rw c.copy_within.ensures.after (all_moved _ _ _ _ c.min-end.ensures (omega arith))
