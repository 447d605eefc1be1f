-- Whatever calls are made, each record that was queued is given out once, in order, or was cleared, or still waits (rules D15, D17). Assumes nothing.
use Rattle.std.specs.Prelude.{◌≡◌, true, List, [], ◌∷◌, ◌++◌, map, ℕ, take}
use Rattle.forms.specs.Lines.{is_line}
use Rattle.records.specs.declared.records.Record.{Record}
use Rattle.records.specs.Answers as w
use Rattle.reading.specs.Reading.{reading_of}
use Rattle.desk.specs.Replying.{Origin, requested, queue, key, panel, contents, not_master, nothing_set}
use Rattle.desk.specs.Answers.{done, lost}
use Rattle.desk.specs.Heard.{silent, fault, repeat, handled}
use Rattle.desk.specs.Answers as d
use Rattle.desk.specs.Heard as h
use Rattle.desk.specs.State.{start_of}
use Rattle.desk.specs.declared.waiting.Waiting.{Waiting}
use Rattle.desk.specs.declared.state.Desk.{Desk}
use Rattle.conduct.specs.Desk.Calls.{Call, ticks, queues, sets, turns, clears_queue, clears_set, hears, Answered, did, heard, after, run, Fine}
use Rattle.conduct.specs.Desk.Polls.{waiting}

-- the records that wait, the oldest first
abbrev pub records : Desk → List Record
records d = map (λ (s : Waiting). s.rec) (waiting d)

-- the record that a queueing brought, where it was done
abbrev pub queued_in : Call → Answered → List Record
queued_in (ticks at) answer = []
queued_in (queues rec) (did done) = rec ∷ []
queued_in (queues rec) (did lost) = []
queued_in (queues rec) (did (d.refused x)) = []
queued_in (queues rec) (heard told out) = []
queued_in (sets rec) answer = []
queued_in (turns position) answer = []
queued_in clears_queue answer = []
queued_in clears_set answer = []
queued_in (hears at frame out) answer = []

-- the record that bytes read as
abbrev pub read_in : w.Answer → List Record
read_in (w.accepted rec n) = rec ∷ []
read_in (w.refused x) = []

-- the record that an answer from the queue reads as on the line
abbrev pub given_by : ℕ → Origin → List ℕ → List Record
given_by line requested bytes = []
given_by line queue bytes = read_in (reading_of line bytes)
given_by line (key b) bytes = []
given_by line (panel a rec) bytes = []
given_by line (contents a x) bytes = []
given_by line (not_master a) bytes = []
given_by line (nothing_set a) bytes = []

abbrev pub given_in : ℕ → Answered → List Record
given_in line (did x) = []
given_in line (heard (h.refused x) out) = []
given_in line (heard (silent noting x) out) = []
given_in line (heard (fault noting value n) out) = []
given_in line (heard (repeat n) out) = []
given_in line (heard (handled noting origin n) out) = given_by line origin (take n out)

-- a record leaves the queue given out, or cleared
pub data Leaves : Type 0 where
  given_out : Record → Leaves
  cleared : Record → Leaves

abbrev pub record_in : Leaves → Record
record_in (given_out rec) = rec
record_in (cleared rec) = rec

-- those that were given out
abbrev pub out_of : List Leaves → List Record
out_of [] = []
out_of (given_out rec ∷ gone) = rec ∷ out_of gone
out_of (cleared rec ∷ gone) = out_of gone

-- what leaves the queue by a call: all that wait by a clearing that is done, the record that it gives out by any other
abbrev pub leaves_in : Desk → Call → Answered → List Leaves
leaves_in desk clears_queue (did done) = map cleared (records desk)
leaves_in desk clears_queue (did lost) = []
leaves_in desk clears_queue (did (d.refused x)) = []
leaves_in desk clears_queue (heard told out) = []
leaves_in desk (ticks at) answer = map given_out (given_in desk.line answer)
leaves_in desk (queues rec) answer = map given_out (given_in desk.line answer)
leaves_in desk (sets rec) answer = map given_out (given_in desk.line answer)
leaves_in desk (turns position) answer = map given_out (given_in desk.line answer)
leaves_in desk clears_set answer = map given_out (given_in desk.line answer)
leaves_in desk (hears at frame out) answer = map given_out (given_in desk.line answer)

-- the records that calls queued, what left the queue by them, and the records that they gave out from it, in order
abbrev pub accepted : Desk → List Call → List Record
accepted d [] = []
accepted d (call ∷ calls) = queued_in call (after d call).1 ++ accepted (after d call).0 calls

abbrev pub left : Desk → List Call → List Leaves
left d [] = []
left d (call ∷ calls) = leaves_in d call (after d call).1 ++ left (after d call).0 calls

abbrev pub given : Desk → List Call → List Record
given d [] = []
given d (call ∷ calls) = given_in d.line (after d call).1 ++ given (after d call).0 calls

-- the records that left the queue, each given out or cleared, then those that wait behind the calls, are those that waited before them and
-- then those that they queued, each once and in order
abbrev pub EachOnce : Type 0
EachOnce = (d : Desk) → Fine d → (calls : List Call) → map record_in (left d calls) ++ records (run d calls) ≡ records d ++ accepted d calls

-- from the start, where none waits
abbrev pub QueuedOnce : Type 0
QueuedOnce =
    (line : ℕ) → is_line line ≡ true → (calls : List Call)
    → map record_in (left (start_of line).0 calls) ++ records (run (start_of line).0 calls) ≡ accepted (start_of line).0 calls

-- those of them that were given out are the records that the calls gave out
abbrev pub OnlyGiven : Type 0
OnlyGiven = (d : Desk) (calls : List Call) → out_of (left d calls) ≡ given d calls
