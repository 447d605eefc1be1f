-- The master's state with one of its numbers as a row says, which may be out of its range (docs/SCENES.md). Assumes nothing.
use Rattle.std.specs.Prelude.{not, ℕ, eqb}
use Rattle.master.specs.declared.state.Master.{Master}
use Rattle.master.specs.State.{to_send, with_operation}
use Rattle.scripts.specs.declared.masters.calls.Field as f

-- the flag is set where the number is not 0
abbrev pub altered_of : Master → f.Field → ℕ → Master
altered_of m f.TheVariants.Line n = record { line = n; good = m.good; number = m.number; count = m.count; rec = m.rec; t0 = m.t0; t2 = m.t2; operation = m.operation }
altered_of m f.TheVariants.Number n = record { line = m.line; good = m.good; number = to_send n; count = m.count; rec = m.rec; t0 = m.t0; t2 = m.t2; operation = m.operation }
altered_of m f.TheVariants.Count n = record { line = m.line; good = m.good; number = m.number; count = n; rec = m.rec; t0 = m.t0; t2 = m.t2; operation = m.operation }
altered_of m f.TheVariants.Operation n = with_operation m (not (eqb n 0))
