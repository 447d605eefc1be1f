-- When the desk's next tick does something (rule D19; our own addition). Assumes nothing.
use Rattle.std.specs.Prelude.{ℕ, cond}
use Rattle.records.specs.Refusals.{no}
use Rattle.clock.specs.Due.{When, refused, never, after, time_left}
use Rattle.desk.specs.State.{in_ranges}
use Rattle.desk.specs.Panel.{t1_limit}
use Rattle.desk.specs.declared.state.Desk.{Desk}

-- 15 where the state is out of its ranges; while the line is good what is left of T1; while it is lost never
unfoldable pub due_of : Desk → ℕ → When
due_of d at = cond (in_ranges d) (cond d.good (after (time_left at d.t1 t1_limit)) never) (refused (no 15 0))
