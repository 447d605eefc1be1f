-- Looking at an end's state, which changes nothing (include/in656.h; rule F13). Assumes nothing.
use Rattle.std.specs.Prelude.{Bool, not, cond, List, ℕ, leb, eqb, length, get_or, Option, None, Some}
use Rattle.records.specs.Refusals.{no}
use Rattle.records.specs.Answers.{Fault, good, fails}
use Rattle.records.specs.declared.records.Record.{Record}
use Rattle.desk.specs.declared.state.Desk.{Desk}
use Rattle.desk.specs.Waiting.{blank}
use Rattle.desk.specs.State as d
use Rattle.master.specs.declared.state.Master.{Master}
use Rattle.master.specs.State.{is_free}
use Rattle.master.specs.State as m
use Rattle.blocks.specs.Layout.{filled}
use Rattle.blocks.specs.Heads.{flag_byte}
use Rattle.blocks.specs.Record.{record_length, record_bytes}
use Rattle.blocks.specs.Desks as ds
use Rattle.blocks.specs.Masters as ms
use Rattle.in656.specs.declared.results.result.In656Result.{In656Result}
use Rattle.in656.specs.Results.Result.{Call, saying, refusing, with_number, with_count, with_lost, with_record}
use Rattle.in656.specs.Results.Desks.{desk_done}

-- 15 where the state is out of its ranges, then 14 where the block has another length
unfoldable pub look_fault : Bool → List ℕ → Fault
look_fault fits block = cond fits (cond (eqb (length block) record_length) good (fails (no 14 0))) (fails (no 15 0))

-- so it is refused, else it is what is seen
unfoldable pub looked : Bool → Call → List ℕ → Call
looked fits seen block = cond fits (cond (eqb (length block) record_length) seen (refusing (no 14 0), block)) (refusing (no 15 0), block)

-- a record is shown: it fills the block
abbrev pub shown : In656Result → Record → List ℕ → Call
shown r rec block = (with_record r, filled record_length (record_bytes rec) block)

-- the desk: the key position, the last number taken, how many records wait, and whether the line is lost; the record set for r is shown
abbrev pub desk_seen : Desk → In656Result
desk_seen d = with_lost (with_count (with_number (saying desk_done d.key) d.last.0) d.queued) (not d.good)

abbrev pub set_shown : Option Record → In656Result → List ℕ → Call
set_shown None r block = (r, block)
set_shown (Some rec) r block = shown r rec block

abbrev pub desk_look : List ℕ → List ℕ → Call
desk_look b block = looked (d.in_ranges (ds.load_of b)) (set_shown (ds.load_of b).requested (desk_seen (ds.load_of b)) block) block

-- its queue: how many records wait; the one at an index, 0 for the oldest, is shown
abbrev pub queue_seen : Desk → In656Result
queue_seen d = with_count (saying desk_done 0) d.queued

unfoldable pub waiting_shown : Desk → ℕ → List ℕ → Call
waiting_shown d index block = cond (leb d.queued index) (queue_seen d, block) (shown (queue_seen d) (get_or d.queue index blank).rec block)

abbrev pub desk_waiting : List ℕ → ℕ → List ℕ → Call
desk_waiting b index block = looked (d.in_ranges (ds.load_of b)) (waiting_shown (ds.load_of b) index block) block

-- outcome of a look at the master
abbrev pub master_free : ℕ
master_free = 1

abbrev pub master_waiting : ℕ
master_waiting = 2

-- the master: whether the key is in position Operation, the number to send, the sending count, and whether the line is lost
abbrev pub master_seen : ℕ → Master → In656Result
master_seen outcome m = with_lost (with_count (with_number (saying outcome (flag_byte m.operation)) m.number.0) m.count) (not m.good)

-- free, or the record that it waits on is shown
unfoldable pub master_shown : Master → List ℕ → Call
master_shown m block = cond (is_free m) (master_seen master_free m, block) (shown (master_seen master_waiting m) m.rec block)

abbrev pub master_look : List ℕ → List ℕ → Call
master_look b block = looked (m.in_ranges (ms.load_of b)) (master_shown (ms.load_of b) block) block
