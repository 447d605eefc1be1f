-- What the replay of a whole input prints (rules Q9 to Q14). Assumes nothing.
use Rattle.std.specs.Prelude.{ℕ, cond, List, [], ◌∷◌}
use Rattle.forms.specs.Lines.{is_line}
use Rattle.desk.specs.State.{start_of}
use Rattle.pieces.specs.Line.{bad_line, line_named}
use Rattle.logs.specs.Whole.{log_of}
use Rattle.recordings.specs.Replay.Texts.{text_of}

-- of a log, by a fresh desk of the line: ordinals from 1, offsets from 0
unfoldable pub replay_on : ℕ → List ℕ → List ℕ
replay_on line log = text_of (start_of line).0 1 0 (log_of log)

-- the first byte names the line, and the log is behind it
unfoldable pub replay_of : List ℕ → List ℕ
replay_of [] = bad_line
replay_of (digit ∷ log) = cond (is_line (line_named digit)) (replay_on (line_named digit) log) bad_line
