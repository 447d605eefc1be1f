-- `call_named` has each call beside its word. Assumes nothing.
use Rattle.laws.specs.Text.{codes}
use Rattle.text.specs.Fields.{word_of}
use Rattle.scripts.specs.Masters.Calls.{call_numbered, field_word}
use Rattle.scripts.proofs.Tables.{named_is}
use Rattle.scripts.proofs.masters.calls.call_named.Goals as goal

pub returns : goal.returns
unfolding call_numbered
returns c =
    named_is (λ n. call_numbered n (field_word c.args.row.now)) (codes "start tick offer hear alter show due") 7
    (word_of 1 c.args.row.now) (rw c.alter_named.ensures at c.named.ensures) c.unwrap_or.ensures
