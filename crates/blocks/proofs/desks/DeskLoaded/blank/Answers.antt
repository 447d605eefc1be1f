-- The blank desk is the state of a refused start. Assumes nothing.
use Rattle.std.proofs.Common.{ap}
use Rattle.desk.specs.Answers.{Done}
use Rattle.desk.specs.State.{start_of}
use Rattle.desk.specs.declared.state.Desk.{Desk}
use Rattle.blocks.proofs.desks.DeskLoaded.blank.Goals as goal

pub returns : goal.returns
unfolding start_of
returns c = ap (λ (y : Desk × Done). y.0) c.start.ensures
