-- The desk's calls that hear nothing (rules D2 to D4, R17). Assumes nothing.
use Rattle.std.specs.Prelude.{ℕ, ◌+◌, Bool, false, cond, List, ltb, eqb, set, Option, Some}
use Rattle.laws.specs.Truth.{both}
use Rattle.forms.specs.Forms.{data_type}
use Rattle.records.specs.Records.{type_of}
use Rattle.records.specs.declared.records.Record.{Record}
use Rattle.values.specs.Values.{permits_record}
use Rattle.clock.specs.Clock.{run_out}
use Rattle.records.specs.Answers.{Fault, good, fails}
use Rattle.records.specs.Refusals.{no}
use Rattle.forms.specs.Lines.{line_of, is_key}
use Rattle.desk.specs.Answers.{Done, done, lost, refused}
use Rattle.desk.specs.State.{in_ranges}
use Rattle.desk.specs.declared.waiting.Waiting.{Waiting}
use Rattle.desk.specs.declared.state.Desk.{Desk}

-- T1 is 28,000
abbrev pub t1_limit : ℕ
t1_limit = 28000

-- the state with the line good or lost
abbrev pub with_good : Desk → Bool → Desk
with_good d b = record { line = d.line; good = b; last = d.last; t1 = d.t1; kept = d.kept; stored = d.stored; requested = d.requested; queued = d.queued; queue = d.queue; key = d.key }

-- with other places of the queue, and so many queued
abbrev pub with_queue : Desk → List Waiting → ℕ → Desk
with_queue d q n = record { line = d.line; good = d.good; last = d.last; t1 = d.t1; kept = d.kept; stored = d.stored; requested = d.requested; queued = n; queue = q; key = d.key }

-- with a record behind those that are queued
abbrev pub with_queued : Desk → Record → Desk
with_queued d rec = with_queue d (set d.queue d.queued (record { rec = rec })) (d.queued + 1)

-- with a record set for r, or none
abbrev pub with_wanted : Desk → Option Record → Desk
with_wanted d wanted = record { line = d.line; good = d.good; last = d.last; t1 = d.t1; kept = d.kept; stored = d.stored; requested = wanted; queued = d.queued; queue = d.queue; key = d.key }

-- with another record set for r
abbrev pub with_requested : Desk → Record → Desk
with_requested d rec = with_wanted d (Some rec)

-- with another key position
abbrev pub with_key : Desk → ℕ → Desk
with_key d k = record { line = d.line; good = d.good; last = d.last; t1 = d.t1; kept = d.kept; stored = d.stored; requested = d.requested; queued = d.queued; queue = d.queue; key = k }

-- line good and T1 run out
unfoldable pub loses_line : Desk → ℕ → Bool
loses_line d at = both d.good (run_out at d.t1 t1_limit)

-- means line lost
unfoldable pub noted_of : Desk → Bool → Desk
noted_of d noted = cond noted (with_good d false) d

-- 15 where the state is out of its ranges; else the first rule
unfoldable pub tick_of : Desk → ℕ → Desk × Done
tick_of d at = cond (in_ranges d) (noted_of d (loses_line d at), cond (loses_line d at) lost done) (d, refused (no 15 0))

-- 15, then 12 for all but the slave's data type (B, 5 or K by line), then 13 for a value outside its range
unfoldable pub record_fault : Desk → Record → Fault
record_fault d rec =
    cond (in_ranges d)
    (cond (eqb (type_of rec) (data_type d.line))
    (cond (permits_record d.line rec) good
    (fails (no 13 0)))
    (fails (no 12 0)))
    (fails (no 15 0))

-- a call that a fault refuses changes nothing
abbrev pub faultless : Fault → Desk → Desk × Done → Desk × Done
faultless good d step = step
faultless (fails x) d step = (d, refused x)

-- queueing checks 12, 13, 17: the queue holds 8
unfoldable pub queue_of : Desk → Record → Desk × Done
queue_of d rec = faultless (record_fault d rec) d (cond (ltb d.queued 8) (with_queued d rec, done) (d, refused (no 17 0)))

-- setting a requested record 12, 13; it replaces one that is set
unfoldable pub set_of : Desk → Record → Desk × Done
set_of d rec = faultless (record_fault d rec) d (with_requested d rec, done)

-- 15, then 12 where A carries no key position (lines 1 and 2), then 13 for another position
unfoldable pub key_fault : Desk → ℕ → Fault
key_fault d key =
    cond (in_ranges d)
    (cond (line_of d.line).keyed
    (cond (is_key key) good
    (fails (no 13 0)))
    (fails (no 12 0)))
    (fails (no 15 0))

-- the panel may set the key position
unfoldable pub key_of : Desk → ℕ → Desk × Done
key_of d key = faultless (key_fault d key) d (with_key d key, done)
