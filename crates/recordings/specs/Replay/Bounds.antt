-- No row is longer than its room (rule Q12). Assumes nothing.
use Rattle.std.specs.Prelude.{ℕ, ◌^◌, ◌<◌, ◌≤◌, List, length}
use Rattle.desk.specs.declared.state.Desk.{Desk}
use Rattle.logs.specs.declared.marks.Mark.{Mark}
use Rattle.recordings.specs.Replay.Rows.{row_of}
use Rattle.recordings.specs.Replay.Texts.{row_room, refused_text}

-- the row of any record by any desk, with an ordinal, an offset and a time of 64 bits
abbrev pub RowsFit : Type 0
RowsFit =
    (mark : Mark) (d : Desk) (ordinal offset time : ℕ) (bytes : List ℕ) → ordinal < 2 ^ 64 → offset < 2 ^ 64 → time < 2 ^ 64
    → length (row_of mark d ordinal offset time bytes).1 ≤ row_room

-- the last row, of a refusal
abbrev pub LastFits : Type 0
LastFits = (number offset : ℕ) → number < 2 ^ 64 → offset < 2 ^ 64 → length (refused_text number offset) ≤ row_room
