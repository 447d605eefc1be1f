-- `writing::sending::send` meets its contract.
use Rattle.writing.specs.Writing.{send_of}
use Rattle.writing.proofs.Puts.{put}
use Rattle.writing.proofs.sending.send.Goals as goal

pub returns : goal.returns
unfolding send_of
returns c = rw c.unwrap_or.ensures (put _ _ _ c.write.ensures)
