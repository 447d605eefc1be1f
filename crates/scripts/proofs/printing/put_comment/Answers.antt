-- `put_comment` puts its parts one behind the other. Assumes nothing.
use Rattle.text.proofs.Puts.{then}
use Rattle.scripts.specs.Printing.{comment_text}
use Rattle.scripts.proofs.printing.put_comment.Goals as goal

pub returns : goal.returns
unfolding comment_text
returns c = search then
