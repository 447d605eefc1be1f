-- A repeat gives the stored bytes unchanged, handles nothing and takes nothing from the queue (rule D7). Assumes nothing.
use Rattle.std.specs.Prelude.{◌≡◌, true, false, List, ◌++◌, ℕ, ◌+◌, ◌≤◌, length, get_or, drop}
use Prim.Native.Char.{code}
use Rattle.records.specs.Refusals.{No}
use Rattle.records.specs.declared.records.Record.{Record}
use Rattle.records.specs.Answers.{accepted}
use Rattle.records.specs.Answers as w
use Rattle.reading.specs.Reading.{reading_of}
use Rattle.characters.specs.Marks.{longest}
use Rattle.desk.specs.Deciding.{What, contents, matter_in}
use Rattle.desk.specs.Deciding as r
use Rattle.desk.specs.Heard.{repeat}
use Rattle.desk.specs.State.{stored_of}
use Rattle.desk.specs.Panel.{loses_line}
use Rattle.desk.specs.Hearing.{Hearing, ruling, hear_of}
use Rattle.desk.specs.declared.state.Desk.{Desk}
use Rattle.conduct.specs.Desk.Calls.{Fine, noted}

-- what a repeat leaves: the state as it was, and the stored answer in front of the output
abbrev pub Again : Desk → List ℕ → Hearing → Type 0
Again d out h = h ≡ (d, repeat (length (stored_of d)), stored_of d ++ drop (length (stored_of d)) out)

-- a frame that is settled as a repeat leaves this,
abbrev pub RepeatStored : Type 0
RepeatStored =
    (d : Desk) → Fine d → (at : ℕ) (frame out : List ℕ) → longest ≤ length out → (n : ℕ) (what : What) → ruling (noted d at) frame ≡ r.repeat n what
    → Again d out (hear_of d at frame out)

-- and so does a hearing that tells of a repeat
abbrev pub RepeatTold : Type 0
RepeatTold = (d : Desk) → Fine d → (at : ℕ) (frame out : List ℕ) (n : ℕ) → (hear_of d at frame out).1 ≡ repeat n → Again d out (hear_of d at frame out)

-- a good frame with the last number taken, on a good line before T1 has run out, is such a repeat: one that is read,
abbrev pub ReadAgain : Type 0
ReadAgain =
    (d : Desk) (at : ℕ) (frame : List ℕ) (rec : Record) → reading_of d.line frame ≡ accepted rec d.last.0 → d.good ≡ true → loses_line d at ≡ false
    → ruling (noted d at) frame ≡ r.repeat d.last.0 (matter_in d.line rec)

-- and one whose contents are refused
abbrev pub ContentsAgain : Type 0
ContentsAgain =
    (d : Desk) (at : ℕ) (frame : List ℕ) (x : No) → reading_of d.line frame ≡ w.refused x → 8 ≤ x.number → x.number ≤ 11
    → get_or frame 4 0 ≡ code "0" + d.last.0 → d.good ≡ true → loses_line d at ≡ false → ruling (noted d at) frame ≡ r.repeat d.last.0 (contents x)
