-- What the replay of a log prints (rules Q9 to Q14). Assumes nothing.
use Rattle.std.specs.Prelude.{ℕ, ◌+◌, List, [], ◌∷◌, ◌++◌}
use Rattle.characters.specs.Marks.{lf}
use Rattle.records.specs.Refusals.{no}
use Rattle.text.specs.Items.{refusal_text}
use Rattle.pieces.specs.Counts.{wrapped}
use Rattle.desk.specs.declared.state.Desk.{Desk}
use Rattle.logs.specs.Records.{LogRecord}
use Rattle.logs.specs.Whole.{Ending, over, refusal, Log, size_of}
use Rattle.recordings.specs.Replay.Rows.{Row, row_of}

-- room for any row
abbrev pub row_room : ℕ
row_room = 1024

-- what a desk does at a record with its ordinal and offset
abbrev pub row_at : Desk → ℕ → ℕ → LogRecord → Row
row_at d ordinal offset r = row_of r.mark d ordinal offset r.time r.bytes

-- a refusal ends the replay, with its record's offset
unfoldable pub refused_text : ℕ → ℕ → List ℕ
refused_text number offset = refusal_text (no number offset) ++ (lf ∷ [])

-- the desk hears, or gets a tick, at one record after the other: rows of them, each with the next ordinal and its record's offset
unfoldable pub text_on : Desk → ℕ → ℕ → List LogRecord → Ending → List ℕ
text_on d ordinal offset [] over = []
text_on d ordinal offset [] (refusal number) = refused_text number offset
text_on d ordinal offset (r ∷ rs) ending = (row_at d ordinal offset r).1 ++ text_on (row_at d ordinal offset r).0 (wrapped (ordinal + 1)) (wrapped (offset + size_of r)) rs ending

abbrev pub text_of : Desk → ℕ → ℕ → Log → List ℕ
text_of d ordinal offset log = text_on d ordinal offset log.0 log.1
