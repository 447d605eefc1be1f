-- Calls of the desk in any order, with any inputs (rules D2 to D8, D17, D18). Assumes nothing.
use Rattle.std.specs.Prelude.{◌≡◌, true, List, [], ◌∷◌, ℕ, length}
use Rattle.records.specs.declared.records.Record.{Record}
use Rattle.characters.specs.Marks.{longest}
use Rattle.desk.specs.Answers.{Done, done, lost}
use Rattle.desk.specs.Heard.{Told, silent, fault, repeat, handled}
use Rattle.desk.specs.Answers as d
use Rattle.desk.specs.Heard as h
use Rattle.desk.specs.State.{in_ranges}
use Rattle.desk.specs.Panel.{loses_line, noted_of, tick_of, queue_of, set_of, key_of}
use Rattle.desk.specs.Clearing.{clear_queue_of, clear_set_of}
use Rattle.desk.specs.Hearing.{Hearing, hear_of}
use Rattle.desk.specs.declared.state.Desk.{Desk}

-- a call: its time where it has one, what it brings, and the output that it may fill
pub data Call : Type 0 where
  ticks : ℕ → Call
  queues : Record → Call
  sets : Record → Call
  turns : ℕ → Call
  clears_queue : Call
  clears_set : Call
  hears : ℕ → List ℕ → List ℕ → Call

-- what a call answers: one that hears nothing, and a hearing with its output
pub data Answered : Type 0 where
  did : Done → Answered
  heard : Told → List ℕ → Answered

-- the state behind a call, and what it answers
abbrev pub Result : Type 0
Result = Desk × Answered

abbrev pub saying : Desk × Done → Result
saying s = (s.0, did s.1)

abbrev pub hearing : Hearing → Result
hearing h = (h.0, heard h.1 h.2)

-- what a call makes of the state
abbrev pub after : Desk → Call → Result
after d (ticks at) = saying (tick_of d at)
after d (queues rec) = saying (queue_of d rec)
after d (sets rec) = saying (set_of d rec)
after d (turns key) = saying (key_of d key)
after d clears_queue = saying (clear_queue_of d)
after d clears_set = saying (clear_set_of d)
after d (hears at frame out) = hearing (hear_of d at frame out)

-- a state behind calls, one after the other
abbrev pub run : Desk → List Call → Desk
run d [] = d
run d (call ∷ calls) = run (after d call).0 calls

-- the state after the first rule
abbrev pub noted : Desk → ℕ → Desk
noted d at = noted_of d (loses_line d at)

-- the number of the refusal that a call answers, 0 where it answers none
abbrev pub refused_by : Answered → ℕ
refused_by (did done) = 0
refused_by (did lost) = 0
refused_by (did (d.refused x)) = x.number
refused_by (heard (h.refused x) out) = x.number
refused_by (heard (silent noted x) out) = 0
refused_by (heard (fault noted value n) out) = 0
refused_by (heard (repeat n) out) = 0
refused_by (heard (handled noted origin n) out) = 0

-- a state in its ranges, with 66 places for the stored answer and 8 for the queue
pub record Fine (d : Desk) : Type 0 where
  pub ranged : in_ranges d ≡ true
  pub stores : length d.stored ≡ longest
  pub holds : length d.queue ≡ 8
