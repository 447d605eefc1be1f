-- A log record and its bytes in the log (rules Q1, Q2). Assumes nothing.
use Rattle.std.specs.Prelude.{◌≡◌, true, List, ◌∷◌, ◌++◌, ℕ, ◌<◌, ◌^◌, length}
use Rattle.text.specs.Fours.{four_bytes}
use Rattle.logs.specs.declared.marks.Mark.{Mark}
use Rattle.logs.specs.Marks.{mark_bytes, may_have}

pub record LogRecord : Type 0 where
  pub mark : Mark
  pub time : ℕ
  pub bytes : List ℕ

abbrev pub log_record : Mark → ℕ → List ℕ → LogRecord
log_record mark time bytes = record { mark = mark; time = time; bytes = bytes }

-- mark, time and length before a record's bytes
abbrev pub head : ℕ
head = 7

-- the mark, the time in four bytes, the highest first, the length, and the bytes
unfoldable pub record_bytes : LogRecord → List ℕ
record_bytes r = mark_bytes r.mark ++ (four_bytes r.time ++ (length r.bytes ∷ r.bytes))

-- a record that may be written
pub record Permitted (r : LogRecord) : Type 0 where
  pub time : r.time < 2 ^ 32
  pub bytes : may_have r.mark (length r.bytes) ≡ true
