-- `put_given_up` puts its parts one behind the other. Assumes nothing.
use Rattle.text.proofs.Puts.{then}
use Rattle.scripts.specs.Tellings.Masters.{given_up_text}
use Rattle.scripts.proofs.tellings.masters.put_given_up.Goals as goal

pub returns : goal.returns
unfolding given_up_text
returns c =
    let cause = rw c.cause_word.ensures at c.put_text-b.ensures in
    then _ _ _ _ _ _ _ _ c.put_text-a.ensures (then _ _ _ _ _ _ _ _ cause c.put_count.ensures)
