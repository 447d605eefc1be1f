-- Clearing what waits for the master, as a panel does at the end of a shift (rules D17, D18; our own addition). Assumes nothing.
use Rattle.std.specs.Prelude.{cond, replicate, None}
use Rattle.records.specs.Refusals.{no}
use Rattle.desk.specs.Answers.{Done, done, refused}
use Rattle.desk.specs.Waiting.{blank}
use Rattle.desk.specs.State.{in_ranges}
use Rattle.desk.specs.Panel.{with_queue, with_wanted}
use Rattle.desk.specs.declared.state.Desk.{Desk}

-- the state with an empty queue, its places blank as at the start
abbrev pub with_none_queued : Desk → Desk
with_none_queued d = with_queue d (replicate 8 blank) 0

-- the state with no record set for r
abbrev pub with_none_set : Desk → Desk
with_none_set d = with_wanted d None

-- 15 where the state is out of its ranges; else the queue is emptied,
unfoldable pub clear_queue_of : Desk → Desk × Done
clear_queue_of d = cond (in_ranges d) (with_none_queued d, done) (d, refused (no 15 0))

-- or the record set for r is taken back
unfoldable pub clear_set_of : Desk → Desk × Done
clear_set_of d = cond (in_ranges d) (with_none_set d, done) (d, refused (no 15 0))
