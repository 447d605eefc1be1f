-- `begun` begins with a fresh desk. Assumes nothing.
use Rattle.std.proofs.Common.{ap}
use Rattle.desk.specs.Answers.{Done}
use Rattle.desk.specs.declared.state.Desk.{Desk}
use Rattle.recordings.specs.Replay.State.{begun_on}
use Rattle.recordings.proofs.replay.state.begun.Goals as goal

pub returns : goal.returns
unfolding begun_on
returns c = rw (ap {B = Desk} (λ (y : Desk × Done). y.0) c.start.ensures)
