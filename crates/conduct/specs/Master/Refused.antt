-- A refused call of the master changes neither state nor output, whatever the state (rule E5). Assumes nothing.
use Rattle.std.specs.Prelude.{◌≡◌}
use Rattle.records.specs.Refusals.{No}
use Rattle.master.specs.Answers.{refused}
use Rattle.master.specs.declared.state.Master.{Master}
use Rattle.conduct.specs.Master.Calls.{Call, output_of, after}

abbrev pub RefusedSame : Type 0
RefusedSame = (m : Master) (call : Call) (x : No) → (after m call).1.0 ≡ refused x → after m call ≡ (m, (refused x, output_of call))
