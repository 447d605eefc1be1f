-- The desk behind a row, and what the row prints (docs/SCENES.md). Assumes nothing.
use Rattle.std.specs.Prelude.{List, ℕ, get_or}
use Rattle.text.specs.Putting.{puts}
use Rattle.text.specs.Fields.{word_value}
use Rattle.scripts.specs.Meanings.{small_at, room_of, blank_of, record_at, bytes_at}
use Rattle.scripts.specs.Printing.{unknown_text}
use Rattle.desk.specs.declared.state.Desk.{Desk}
use Rattle.desk.specs.Answers.{Done}
use Rattle.desk.specs.State.{start_of}
use Rattle.desk.specs.Panel.{tick_of, queue_of, set_of, key_of}
use Rattle.desk.specs.Clearing.{clear_queue_of, clear_set_of}
use Rattle.desk.specs.Due.{due_of}
use Rattle.desk.specs.Hearing.{Hearing, hear_of}
use Rattle.scripts.specs.declared.desks.calls.Quiet as q
use Rattle.scripts.specs.declared.desks.calls.Field.{Field}
use Rattle.scripts.specs.declared.desks.calls.Call as c
use Rattle.scripts.specs.Desks.Calls.{call_of}
use Rattle.scripts.specs.Desks.Altering.{altered_of}
use Rattle.scripts.specs.Desks.Printing.{stepped_text, asked_text, heard_text, altered_text, whole_text}

-- the desk behind a row, and the text that the row prints
abbrev pub Row : Type 0
Row = Desk × List ℕ

-- the text stands at the front of the output
abbrev pub printed : Row → List ℕ → Desk × (ℕ × List ℕ)
printed r out = (r.0, puts r.1 0 out)

-- a call that hears nothing, and a hearing: the state's numbers are those behind the call
unfoldable pub stepped_row : List ℕ → Desk × Done → Row
stepped_row row s = (s.0, stepped_text row s.1 s.0.good s.0.last.0 s.0.queued)

unfoldable pub heard_row : List ℕ → Hearing → Row
heard_row row h = (h.0, heard_text row h.1 h.2 h.0.good h.0.last.0 h.0.queued)

-- the key position that a row says: the first byte that its text means, 0 where there is none
unfoldable pub key_at : List ℕ → ℕ
key_at row = get_or (bytes_at 2 row) 0 0

-- the start, and the calls that hear nothing
abbrev pub step_of : Desk → q.Quiet → List ℕ → Desk × Done
step_of d q.TheVariants.Start row = start_of (small_at 2 row)
step_of d q.TheVariants.Tick row = tick_of d (word_value 2 row)
step_of d q.TheVariants.Queue row = queue_of d (record_at 2 row)
step_of d q.TheVariants.Set row = set_of d (record_at 2 row)
step_of d q.TheVariants.Key row = key_of d (key_at row)
step_of d q.TheVariants.ClearQueue row = clear_queue_of d
step_of d q.TheVariants.ClearSet row = clear_set_of d

-- a hearing: time, room and frame are the words behind the call, and the output holds # all over before it
unfoldable pub hear_row : Desk → List ℕ → Row
hear_row d row = heard_row row (hear_of d (word_value 2 row) (bytes_at 4 row) (blank_of (room_of row)))

-- an altered state
unfoldable pub altering_row : List ℕ → Desk → Row
altering_row row d = (d, altered_text row d.good d.last.0 d.queued)

abbrev pub alter_row : Desk → Field → List ℕ → Row
alter_row d field row = altering_row row (altered_of d field (word_value 3 row))

-- what is due at a time: the desk stays as it is
unfoldable pub due_row : Desk → List ℕ → Row
due_row d row = (d, asked_text row (due_of d (word_value 2 row)) d.good d.last.0 d.queued)

-- a row that shows the state, and one that names no call, leave the desk as it is
abbrev pub call_row : Desk → c.Call → List ℕ → Row
call_row d (c.TheVariants.Quiet quiet) row = stepped_row row (step_of d quiet row)
call_row d c.TheVariants.Hear row = hear_row d row
call_row d (c.TheVariants.Alter field) row = alter_row d field row
call_row d c.TheVariants.Due row = due_row d row
call_row d c.TheVariants.Show row = (d, whole_text row d)
call_row d c.TheVariants.Unknown row = (d, unknown_text row)

unfoldable pub on_row : Desk → List ℕ → Row
on_row d row = call_row d (call_of row) row
