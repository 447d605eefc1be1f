-- Writing a log record (rules Q7, Q8). Assumes nothing.
use Rattle.std.specs.Prelude.{ℕ, ◌+◌, cond, List, ◌++◌, leb, length, drop}
use Rattle.records.specs.Refusals.{no}
use Rattle.records.specs.Answers.{Outcome, written, refused}
use Rattle.logs.specs.Marks.{may_have}
use Rattle.logs.specs.Records.{LogRecord, head, record_bytes}

-- 19 where the record may not have so many bytes, then 14 where it has no room; else its bytes from the front, with what lies behind them kept
unfoldable pub write_of : LogRecord → List ℕ → Outcome × List ℕ
write_of r out =
    cond (may_have r.mark (length r.bytes))
    (cond (leb (head + length r.bytes) (length out))
    (written (head + length r.bytes), record_bytes r ++ drop (head + length r.bytes) out)
    (refused (no 14 0), out))
    (refused (no 19 0), out)
