-- `filled` asks for the last byte that is not #. Assumes nothing.
use Rattle.std.proofs.Common.{rules}
use Rattle.scripts.proofs.Filled.{filled_at}
use Rattle.scripts.proofs.printing.filled.Goals as goal

pub returns-in-Some : goal.returns-in-Some
returns-in-Some c = filled_at _ _ (search rules) (search rules) (λ k p q. search rules)
