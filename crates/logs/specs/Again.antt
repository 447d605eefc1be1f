-- What is written reads back, and what was read is written again (rules Q6, Q8). Assumes nothing.
use Rattle.std.specs.Prelude.{◌≡◌, List, ◌∷◌, ◌++◌, ℕ, ◌-◌, ◌<◌, take, drop}
use Rattle.laws.specs.Truth.{All}
use Rattle.logs.specs.declared.marks.Mark.{Mark}
use Rattle.logs.specs.Records.{LogRecord, log_record, record_bytes, Permitted}
use Rattle.logs.specs.Reader.{found, record_in}
use Rattle.logs.specs.Whole.{log_of}

-- what is written reads back as the same record, and then the rest
abbrev pub WrittenReads : Type 0
WrittenReads = (r : LogRecord) (rest : List ℕ) → Permitted r → log_of (record_bytes r ++ rest) ≡ (r ∷ (log_of rest).0, (log_of rest).1)

-- a record that was read, written again, is the same bytes
abbrev pub ReadWritten : Type 0
ReadWritten =
    (s : List ℕ) (mark : Mark) (time start behind : ℕ) → All (λ (b : ℕ). b < 256) s → record_in 0 s ≡ found mark time start behind
    → record_bytes (log_record mark time (take (behind - start) (drop start s))) ≡ take behind s
