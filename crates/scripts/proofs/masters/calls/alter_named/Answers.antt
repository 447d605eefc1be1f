-- `alter_named` has each field beside its word. Assumes nothing.
use Rattle.laws.specs.Text.{codes}
use Rattle.text.specs.Fields.{word_of}
use Rattle.scripts.specs.Masters.Calls.{alter_numbered}
use Rattle.scripts.proofs.Tables.{named_is}
use Rattle.scripts.proofs.masters.calls.alter_named.Goals as goal

pub returns : goal.returns
unfolding alter_numbered
returns c = named_is alter_numbered (codes "line number count operation") 4 (word_of 2 c.args.row.now) c.named.ensures c.unwrap_or.ensures
