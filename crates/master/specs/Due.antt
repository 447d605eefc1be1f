-- When the master's next tick does something (rule M19; our own addition). Assumes nothing.
use Rattle.std.specs.Prelude.{ℕ, cond}
use Rattle.records.specs.Refusals.{no}
use Rattle.clock.specs.Due.{When, refused, after, time_left}
use Rattle.master.specs.State.{is_free, in_ranges}
use Rattle.master.specs.Sending.{t0_limit, t2_limit}
use Rattle.master.specs.declared.state.Master.{Master}

-- 15 where the state is out of its ranges; while free what is left of T0, else what is left of T2
unfoldable pub due_of : Master → ℕ → When
due_of m at = cond (in_ranges m) (cond (is_free m) (after (time_left at m.t0 (t0_limit m))) (after (time_left at m.t2 t2_limit))) (refused (no 15 0))
