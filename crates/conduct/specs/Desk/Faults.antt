-- What the desk answers to a frame refused 1 to 7: N with 1 to a checksum fault with number byte '0' or '1', else nothing (rules D5, D6). Assumes nothing.
use Rattle.std.specs.Prelude.{◌≡◌, true, false, List, ◌++◌, ℕ, ◌≤◌, length, get_or, drop}
use Prim.Native.Char.{code}
use Rattle.records.specs.Refusals.{No}
use Rattle.records.specs.declared.records.Record.TheVariants.{Rejected}
use Rattle.records.specs.Answers.{accepted}
use Rattle.records.specs.Answers as w
use Rattle.reading.specs.Reading.{reading_of}
use Rattle.writing.specs.Writing.{telegram_of}
use Rattle.characters.specs.Marks.{longest}
use Rattle.clock.specs.Counters.{is_number, number_in}
use Rattle.desk.specs.Heard.{silent, fault}
use Rattle.desk.specs.Panel.{loses_line}
use Rattle.desk.specs.Hearing.{hear_of}
use Rattle.desk.specs.declared.state.Desk.{Desk}
use Rattle.conduct.specs.Desk.Calls.{Fine, noted}

-- the answer to a checksum fault: N with 1 and the number heard
abbrev pub fault_answer : Desk → List ℕ → List ℕ
fault_answer d frame = telegram_of d.line (Rejected (code "1")) (number_in (get_or frame 4 0))

-- a checksum fault with number byte '0' or '1' is answered so; the state is that of the first rule, and only the answer's bytes are filled
abbrev pub SumAnswers : Type 0
SumAnswers =
    (d : Desk) → Fine d → (at : ℕ) (frame out : List ℕ) → longest ≤ length out → (x : No) → x.number ≡ 6 → reading_of d.line frame ≡ w.refused x → is_number (get_or frame 4 0) ≡ true
    → hear_of d at frame out ≡ (noted d at, fault (loses_line d at) (code "1") (length (fault_answer d frame)), fault_answer d frame ++ drop (length (fault_answer d frame)) out)

-- the answer reads as N with 1 and that number
abbrev pub SumReads : Type 0
SumReads =
    (d : Desk) → Fine d → (at : ℕ) (frame out : List ℕ) → longest ≤ length out → (x : No) → x.number ≡ 6 → reading_of d.line frame ≡ w.refused x → is_number (get_or frame 4 0) ≡ true
    → reading_of d.line (fault_answer d frame) ≡ accepted (Rejected (code "1")) (number_in (get_or frame 4 0))

-- the other refusals 1 to 7 write nothing; the state is that of the first rule
abbrev pub OthersSilent : Type 0
OthersSilent =
    (d : Desk) → Fine d → (at : ℕ) (frame out : List ℕ) → longest ≤ length out → (x : No) → reading_of d.line frame ≡ w.refused x → x.number ≤ 7
    → (x.number ≡ 6 → is_number (get_or frame 4 0) ≡ false) → hear_of d at frame out ≡ (noted d at, silent (loses_line d at) x, out)
