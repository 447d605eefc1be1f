-- `blank` is the state of a refused start. Assumes nothing.
use Rattle.std.proofs.Common.{ap}
use Rattle.master.specs.Answers.{Told}
use Rattle.master.specs.State.{start_of}
use Rattle.master.specs.declared.state.Master.{Master}
use Rattle.blocks.proofs.masters.MasterLoaded.blank.Goals as goal

pub returns : goal.returns
unfolding start_of
returns c = ap (λ (y : Master × Told). y.0) c.start.ensures
