-- The state of a listing between two turns, what refuses a turn, and what a turn does (rules P1 to P5, P10). Assumes nothing.
use Rattle.std.specs.Prelude.{ℕ, ◌-◌, ◌^◌, Bool, cond, List, ◌==◌, nat_le, slice_index}
use Rattle.laws.specs.Truth.{both}
use Rattle.characters.specs.Marks.{longest}
use Rattle.forms.specs.Lines.{is_line}
use Rattle.records.specs.Answers.{Fault}
use Rattle.captures.specs.Listing.{line_room}
use Rattle.pieces.specs.Line.{line_named}
use Rattle.pieces.specs.Turns.{room_fault}
use Rattle.captures.specs.declared.lister.Lister.{Lister}
use Rattle.captures.specs.declared.lister.Task.{Task}
use Rattle.captures.specs.declared.lister.Task.TheVariants.{Lists, Unnamed, Over}
use Rattle.pieces.specs.declared.wants.Wants.{Wants}
use Rattle.pieces.specs.declared.wants.Wants.TheVariants.{Read, Again, End}

-- ordinals go from 1; the digit stands before offset 0, and the listing goes on behind it
abbrev pub at_first : Lister
at_first = record { line = 0; held = 0; next = 1; ordinal = 1; base = 2 ^ 64 - 1; wants = Read }

-- line 0 before the digit is known, with nothing held; then line 1 to 3, and the listing goes on among the bytes held
unfoldable pub place_fits : Lister → Bool
place_fits m = cond (m.line == 0) (both (m.held == 0) (m.next == 1)) (both (is_line m.line) (nat_le m.next m.held))

-- 15 where line and place do not fit, or the bytes held and got are not in the buffer; then 14 where the output has no room for a line, or the buffer none for a
-- byte behind an unfinished telegram
abbrev pub list_fault : Lister → ℕ → ℕ → ℕ → Fault
list_fault m len got room = room_fault (place_fits m) m.held longest line_room len got room

-- the line: the state's, or the one that the first byte names; 0 where that names none or there is no byte
unfoldable pub line_for : Lister → List ℕ → ℕ
line_for m s = cond (m.line == 0) (line_named (slice_index s 0)) m.line

-- what a turn does on a line
unfoldable pub line_task : ℕ → Task
line_task line = cond (line == 0) Unnamed (Lists line)

-- a read of nothing ends the listing
unfoldable pub read_task : Lister → ℕ → List ℕ → Task
read_task m got s = cond (got == 0) (cond (m.line == 0) Unnamed Over) (line_task (line_for m s))

-- what a turn does, by what was wanted
abbrev pub task_for : Wants → Lister → ℕ → List ℕ → Task
task_for Read m got s = read_task m got s
task_for Again m got s = line_task (line_for m s)
task_for End m got s = Over

-- all is said
abbrev pub ended : Lister → Lister
ended m = record { line = m.line; held = m.held; next = m.next; ordinal = m.ordinal; base = m.base; wants = End }
