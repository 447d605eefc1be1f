-- `put_elapsed` puts its parts one behind the other. Assumes nothing.
use Rattle.text.proofs.Puts.{then}
use Rattle.scripts.specs.Printing.{elapsed_text}
use Rattle.scripts.proofs.printing.put_elapsed.Goals as goal

pub returns : goal.returns
unfolding elapsed_text
returns c = rw (← c.word_value.ensures, ← c.word_value-2.ensures, ← c.elapsed-n.ensures) (search then)
