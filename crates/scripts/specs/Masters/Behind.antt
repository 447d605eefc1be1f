-- The master behind a row, and what the row prints (docs/SCENES.md). Assumes nothing.
use Rattle.std.specs.Prelude.{List, [], ℕ}
use Rattle.text.specs.Putting.{puts}
use Rattle.text.specs.Fields.{word_value}
use Rattle.scripts.specs.Meanings.{small_at, room_of, blank_of, record_at, bytes_at}
use Rattle.scripts.specs.Printing.{unknown_text}
use Rattle.master.specs.declared.state.Master.{Master}
use Rattle.master.specs.Answers.{Told}
use Rattle.master.specs.State.{start_of}
use Rattle.master.specs.Sending.{Behind, offer_of, tick_of}
use Rattle.master.specs.Hearing.{hear_of}
use Rattle.master.specs.Due.{due_of}
use Rattle.scripts.specs.declared.masters.calls.Sends as s
use Rattle.scripts.specs.declared.masters.calls.Field.{Field}
use Rattle.scripts.specs.declared.masters.calls.Call as c
use Rattle.scripts.specs.Masters.Calls.{call_of}
use Rattle.scripts.specs.Masters.Altering.{altered_of}
use Rattle.scripts.specs.Masters.Printing.{did_text, asked_text, altered_text, whole_text}

-- the master behind a row, and the text that the row prints
abbrev pub Row : Type 0
Row = Master × List ℕ

-- the text stands at the front of the output
abbrev pub printed : Row → List ℕ → Master × (ℕ × List ℕ)
printed r out = (r.0, puts r.1 0 out)

-- what a call did: the state's numbers are those behind the call
unfoldable pub did_row : List ℕ → Behind → Row
did_row row b = (b.0, did_text row b.1.0 b.1.1 b.0.good b.0.number.0 b.0.count)

-- a start: it has no output
abbrev pub started_row : List ℕ → Master × Told → Row
started_row row s = did_row row (s.0, (s.1, []))

unfoldable pub start_row : List ℕ → Row
start_row row = started_row row (start_of (small_at 2 row) (word_value 3 row))

-- the calls that may send: their time is the word behind the call, and the record or the frame stands behind time and room
abbrev pub made_of : Master → s.Sends → List ℕ → List ℕ → Behind
made_of m s.TheVariants.Tick row out = tick_of m (word_value 2 row) out
made_of m s.TheVariants.Offer row out = offer_of m (word_value 2 row) (record_at 4 row) out
made_of m s.TheVariants.Hear row out = hear_of m (word_value 2 row) (bytes_at 4 row) out

-- the output has the row's room, and holds # all over before the call
unfoldable pub make_row : Master → s.Sends → List ℕ → Row
make_row m sends row = did_row row (made_of m sends row (blank_of (room_of row)))

-- an altered state
unfoldable pub altering_row : List ℕ → Master → Row
altering_row row m = (m, altered_text row m.good m.number.0 m.count)

abbrev pub alter_row : Master → Field → List ℕ → Row
alter_row m field row = altering_row row (altered_of m field (small_at 3 row))

-- what is due at a time: the master stays as it is
unfoldable pub due_row : Master → List ℕ → Row
due_row m row = (m, asked_text row (due_of m (word_value 2 row)) m.good m.number.0 m.count)

-- a row that shows the state, and one that names no call, leave the master as it is
abbrev pub call_row : Master → c.Call → List ℕ → Row
call_row m c.TheVariants.Start row = start_row row
call_row m (c.TheVariants.Sends sends) row = make_row m sends row
call_row m (c.TheVariants.Alter field) row = alter_row m field row
call_row m c.TheVariants.Due row = due_row m row
call_row m c.TheVariants.Show row = (m, whole_text row m)
call_row m c.TheVariants.Unknown row = (m, unknown_text row)

unfoldable pub on_row : Master → List ℕ → Row
on_row m row = call_row m (call_of row) row
