-- The state of a replay between two turns, and what refuses a turn (rules Q9, Q14). Assumes nothing.
use Rattle.std.specs.Prelude.{ℕ, ◌+◌, cond}
use Rattle.characters.specs.Marks.{longest}
use Rattle.forms.specs.Lines.{is_line}
use Rattle.records.specs.Answers.{Fault, good, fails}
use Rattle.records.specs.Refusals.{no}
use Rattle.desk.specs.State.{in_ranges, start_of}
use Rattle.pieces.specs.Turns.{room_fault}
use Rattle.pieces.specs.declared.wants.Wants.{Wants}
use Rattle.pieces.specs.declared.wants.Wants.TheVariants.{Read, Again, End}
use Rattle.logs.specs.Records.{head}
use Rattle.recordings.specs.declared.replay.part.Stop.{Stop}
use Rattle.recordings.specs.declared.replay.part.Stop.TheVariants.{Goes, Full, Waits, Over}
use Rattle.recordings.specs.Replay.Texts.{row_room}
use Rattle.recordings.specs.declared.replay.state.Replayer.{Replayer}

-- a fresh desk of the line, before the log's first byte
unfoldable pub begun_on : ℕ → Replayer
begun_on line = record { desk = (start_of line).0; ordinal = 1; base = 0; held = 0; wants = Read }

-- 15 where there is no such line: the state has the blank desk of line 0, whose turns are refused
unfoldable pub started_on : ℕ → Replayer × Fault
started_on line = (begun_on line, cond (is_line line) good (fails (no 15 0)))

-- 15 where the desk is out of its ranges, or the bytes held and got are not in the buffer; then 14 where the output has no room for a row, or the buffer none
-- for a whole record
abbrev pub turn_fault : Replayer → ℕ → ℕ → ℕ → Fault
turn_fault m len got room = room_fault (in_ranges m.desk) m.held (head + longest) row_room len got room

-- what a replay wants behind a part of its log: the next turn where the output is full, bytes where it waits for them, or nothing more
abbrev pub wants_for : Stop → Wants
wants_for Goes = Again
wants_for Full = Again
wants_for Waits = Read
wants_for Over = End
