-- The calls that a log gives a desk, and what the desk run by hand over them tells (rules Q10, Q11, Q13). Assumes nothing.
use Rattle.std.specs.Prelude.{◌≡◌, ℕ, ◌+◌, cond, List, [], ◌∷◌, ◌++◌, map, replicate}
use Rattle.characters.specs.Marks.{longest}
use Rattle.forms.specs.Lines.{is_line}
use Rattle.reading.specs.Reading.{reading_of}
use Rattle.pieces.specs.Counts.{wrapped}
use Rattle.pieces.specs.Line.{bad_line, line_named}
use Rattle.desk.specs.State.{start_of}
use Rattle.desk.specs.declared.state.Desk.{Desk}
use Rattle.conduct.specs.Desk.Calls.{Call, ticks, hears, Answered, did, heard, after}
use Rattle.logs.specs.Records.{LogRecord}
use Rattle.logs.specs.Whole.{Ending, over, refusal, Log, size_of, sizes_of, log_of}
use Rattle.logs.specs.declared.marks.Mark.{Mark}
use Rattle.logs.specs.declared.marks.Mark.TheVariants.{Master, Slave, Hit}
use Rattle.recordings.specs.Replay.Rows.{heard_text, ticked_text}
use Rattle.recordings.specs.Replay.Texts.{refused_text}
use Rattle.recordings.specs.Replay.Whole.{replay_on}

-- a sending by the master is heard as one frame, with room for any answer; one by the slave is no call; a hit is a tick
abbrev pub call_by : Mark → ℕ → List ℕ → List Call
call_by Master time bytes = hears time bytes (replicate longest 0) ∷ []
call_by Slave time bytes = []
call_by Hit time bytes = ticks time ∷ []

abbrev pub call_of : LogRecord → List Call
call_of r = call_by r.mark r.time r.bytes

-- the calls of a log's records, in order
abbrev pub calls_of : List LogRecord → List Call
calls_of [] = []
calls_of (r ∷ rs) = call_of r ++ calls_of rs

-- a call, with the record that it comes of, and that record's ordinal and offset
pub record Made : Type 0 where
  pub ordinal : ℕ
  pub offset : ℕ
  pub of : LogRecord
  pub call : Call

abbrev pub made : ℕ → ℕ → LogRecord → Call → Made
made ordinal offset r call = record { ordinal = ordinal; offset = offset; of = r; call = call }

-- each record counts, also one that is no call
unfoldable pub made_of : ℕ → ℕ → List LogRecord → List Made
made_of ordinal offset [] = []
made_of ordinal offset (r ∷ rs) = map (made ordinal offset r) (call_of r) ++ made_of (wrapped (ordinal + 1)) (wrapped (offset + size_of r)) rs

-- the row of a call: its record's ordinal, offset and time, what the call answered, and the bytes that it sent
abbrev pub row_for : ℕ → Made → Answered → List ℕ
row_for line m (did x) = ticked_text m.ordinal m.offset m.of.time x
row_for line m (heard told sent) = heard_text m.ordinal m.offset m.of.time (reading_of line m.of.bytes) told sent

-- a desk gets the calls one after the other: a row for each
unfoldable pub rows_by : Desk → List Made → List ℕ
rows_by d [] = []
rows_by d (m ∷ ms) = row_for d.line m (after d m.call).1 ++ rows_by (after d m.call).0 ms

-- a refusal ends the log, at the offset behind the records
abbrev pub end_row : Ending → ℕ → List ℕ
end_row over offset = []
end_row (refusal number) offset = refused_text number offset

-- what a fresh desk of a line, run by hand over a log, tells
unfoldable pub by_hand : ℕ → Log → List ℕ
by_hand line log = rows_by (start_of line).0 (made_of 1 0 log.0) ++ end_row log.1 (wrapped (sizes_of log.0))

-- the replay equals the desk run by hand over the same list
abbrev pub ByHand : Type 0
ByHand = (line : ℕ) (log : List ℕ) → replay_on line log ≡ by_hand line (log_of log)

-- the first byte names the line, and the log is behind it
unfoldable pub input_by_hand : List ℕ → List ℕ
input_by_hand [] = bad_line
input_by_hand (digit ∷ log) = cond (is_line (line_named digit)) (by_hand (line_named digit) (log_of log)) bad_line
