-- `kind_of` has each kind beside its word. Assumes nothing.
use Rattle.std.proofs.Common.{◌≡◌, arith}
use Rattle.std.proofs.lemmas.Grind.{common_steps}
use Rattle.std.specs.Prelude.{unwrap_or}
use Rattle.laws.specs.Text.{codes}
use Rattle.text.specs.Fields.{word_of}
use Rattle.scripts.specs.Kinds.{unnamed_of, kind_numbered, kind_of}
use Rattle.scripts.proofs.Tables.{named_is}
use Rattle.scripts.proofs.kinds.kind_of.Goals as goal

pub returns : goal.returns
unfolding kind_of kind_numbered
returns c =
    let otherwise : c.unwrap_or_else.result ≡ unwrap_or c.named.result (unnamed_of c.args.row.now) = grind (arith, common_steps) in
    named_is (λ n. kind_numbered n c.args.row.now) (codes "desk master elapsed") 3
    (word_of 0 c.args.row.now) (rw c.elapsed.ensures at c.named.ensures) otherwise
