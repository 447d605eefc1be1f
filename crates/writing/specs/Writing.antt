-- What writing a record on a line does (rules W4 to W6). Assumes nothing.
use Rattle.std.specs.Prelude.{ℕ, cond, List, ◌++◌, ltb, leb, length, drop}
use Rattle.records.specs.Refusals.{no}
use Rattle.laws.specs.Truth.{both}
use Rattle.forms.specs.Lines.{is_line}
use Rattle.forms.specs.Forms.{slots_of}
use Rattle.records.specs.Records.{type_of, values_of}
use Rattle.values.specs.Values.{row_of, permits_record, length_of}
use Rattle.records.specs.declared.records.Record.{Record}
use Rattle.records.specs.Answers.{Write, written, refused}
use Rattle.reading.specs.Frame.{frame_of}
use Rattle.reading.specs.Contents.{data_of}

-- the telegram of a record with its number on a line
unfoldable pub telegram_of : ℕ → Record → ℕ → List ℕ
telegram_of line rec number = frame_of (type_of rec) number (data_of (slots_of (row_of line rec).form) (values_of rec))

-- 15, then 12, 13, 14; a refused call leaves the output; what lies behind the telegram keeps its old bytes
unfoldable pub writing_of : ℕ → Record → ℕ → List ℕ → Write
writing_of line rec number out =
    cond (is_line line)
    (cond (row_of line rec).found
    (cond (both (permits_record line rec) (ltb number 2))
    (cond (leb (length_of line rec) (length out))
    (written (length_of line rec), telegram_of line rec number ++ drop (length_of line rec) out)
    (refused (no 14 0), out))
    (refused (no 13 0), out))
    (refused (no 12 0), out))
    (refused (no 15 0), out)

-- bytes that are sent fill only their own stretch, from the front; with the output, their number
unfoldable pub sent_of : List ℕ → List ℕ → ℕ × List ℕ
sent_of bytes out = (length bytes, bytes ++ drop (length bytes) out)

-- how many bytes a writing put into the output: none where it was refused
abbrev pub put_by : Write → ℕ × List ℕ
put_by (written n, out) = (n, out)
put_by (refused x, out) = (0, out)

-- sends a record with its number on a line
unfoldable pub send_of : ℕ → Record → ℕ → List ℕ → ℕ × List ℕ
send_of line rec number out = put_by (writing_of line rec number out)
