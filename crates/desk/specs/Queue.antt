-- The queue of the desk: its oldest record answers t and leaves it; and what a handled telegram leaves (rules D8, D11). Assumes nothing.
use Rattle.std.specs.Prelude.{ℕ, ◌-◌, true, get_or}
use Rattle.records.specs.declared.records.Record.{Record}
use Rattle.desk.specs.Deciding.{What}
use Rattle.desk.specs.Replying.{Origin, requested, queue, key, panel, contents, not_master, nothing_set, Reply, reply_of}
use Rattle.desk.specs.Waiting.{blank, shifted}
use Rattle.desk.specs.Panel.{with_queue}
use Rattle.desk.specs.declared.state.Desk.{Desk}

-- the oldest queued record
abbrev pub oldest : Desk → Record
oldest d = (get_or d.queue 0 blank).rec

-- the answer of a desk to a handled telegram
abbrev pub reply_to : Desk → What → Reply
reply_to d what = reply_of d.line d.key d.requested d.queued (oldest d) what

-- the oldest queued record leaves the queue
abbrev pub popped : Desk → Desk
popped d = with_queue d (shifted d.queue) (d.queued - 1)

-- the state behind an answer: the oldest record leaves the queue where it answers, and nothing else changes
abbrev pub taken_by : Desk → Origin → Desk
taken_by d queue = popped d
taken_by d requested = d
taken_by d (key position) = d
taken_by d (panel value rec) = d
taken_by d (contents value x) = d
taken_by d (not_master value) = d
taken_by d (nothing_set value) = d

-- line good, number kept as last taken
abbrev pub marked : Desk → ℕ → Desk
marked d number =
    record {
      line = d.line;
      good = true;
      last = record { 0 = number };
      t1 = d.t1;
      kept = d.kept;
      stored = d.stored;
      requested = d.requested;
      queued = d.queued;
      queue = d.queue;
      key = d.key;
    }

-- T1 restarts
abbrev pub restarted : Desk → ℕ → Desk
restarted d at = record { line = d.line; good = d.good; last = d.last; t1 = at; kept = d.kept; stored = d.stored; requested = d.requested; queued = d.queued; queue = d.queue; key = d.key }
