-- What a desk does at a record of a log, and the row that says it (rules Q9 to Q12). Assumes nothing.
use Rattle.std.specs.Prelude.{ℕ, Bool, true, false, cond, List, [], ◌∷◌, ◌++◌, replicate}
use Rattle.laws.specs.Text.{codes}
use Rattle.characters.specs.Marks.{lf, longest}
use Rattle.records.specs.Answers.{Answer, accepted}
use Rattle.records.specs.Answers as r
use Rattle.reading.specs.Reading.{reading_of}
use Rattle.text.specs.Items.{record_text}
use Rattle.text.specs.Numbers.{decimal_text}
use Rattle.text.specs.Putting.{puts}
use Rattle.scripts.specs.Printing.{first_text}
use Rattle.desk.specs.declared.state.Desk.{Desk}
use Rattle.desk.specs.Answers.{Done}
use Rattle.desk.specs.Replying.{Origin}
use Rattle.desk.specs.Replying as o
use Rattle.desk.specs.Panel.{tick_of}
use Rattle.desk.specs.Heard.{Told, refused, silent, fault, repeat, handled}
use Rattle.desk.specs.Hearing.{Hearing, hear_of}
use Rattle.scripts.specs.Tellings.Desks.{done_text, handling_text, answering_text, told_text}
use Rattle.logs.specs.declared.marks.Mark.{Mark}
use Rattle.logs.specs.declared.marks.Mark.TheVariants.{Master, Slave, Hit}

-- the record's ordinal, offset and time
unfoldable pub opening_text : ℕ → ℕ → ℕ → List ℕ
opening_text ordinal offset time = decimal_text ordinal ++ (codes " " ++ (decimal_text offset ++ (codes " " ++ (decimal_text time ++ codes " "))))

-- how many bytes a hearing sent
abbrev pub sent_count : Told → ℕ
sent_count (refused x) = 0
sent_count (silent lost x) = 0
sent_count (fault lost value n) = n
sent_count (repeat n) = n
sent_count (handled lost origin n) = n

-- what a telegram reads as: its record; contents that are refused are none
abbrev pub record_named : Answer → List ℕ
record_named (accepted rec number) = record_text rec ++ codes ", "
record_named (r.refused x) = []

-- the panel is given the record, so that its name says what was handled
abbrev pub names : Origin → Bool
names o.requested = false
names o.queue = false
names (o.key position) = false
names (o.panel value rec) = true
names (o.contents value x) = false
names (o.not_master value) = false
names (o.nothing_set value) = false

-- a handled telegram is named before where its answer comes from, unless that names it
unfoldable pub handled_named : Answer → Bool → Origin → ℕ → List ℕ
handled_named reading lost origin n = handling_text lost ++ (cond (names origin) [] (record_named reading) ++ answering_text origin n)

-- what the desk did with a telegram, in the words of `scenes`
abbrev pub did_text : Answer → Told → List ℕ
did_text reading (refused x) = told_text (refused x)
did_text reading (silent lost x) = told_text (silent lost x)
did_text reading (fault lost value n) = told_text (fault lost value n)
did_text reading (repeat n) = told_text (repeat n)
did_text reading (handled lost origin n) = handled_named reading lost origin n

-- what the desk did, and the bytes that it sent
unfoldable pub heard_text : ℕ → ℕ → ℕ → Answer → Told → List ℕ → List ℕ
heard_text ordinal offset time reading told sent = opening_text ordinal offset time ++ (did_text reading told ++ (first_text (codes " ") sent (sent_count told) ++ (lf ∷ [])))

unfoldable pub ticked_text : ℕ → ℕ → ℕ → Done → List ℕ
ticked_text ordinal offset time did = opening_text ordinal offset time ++ (done_text did ++ (lf ∷ []))

-- the desk behind a record, and the row that it prints
abbrev pub Row : Type 0
Row = Desk × List ℕ

-- the row stands at the front of the output
abbrev pub printed : Row → List ℕ → Desk × (ℕ × List ℕ)
printed r out = (r.0, puts r.1 0 out)

unfoldable pub heard_row : ℕ → ℕ → ℕ → Answer → Hearing → Row
heard_row ordinal offset time reading h = (h.0, heard_text ordinal offset time reading h.1 h.2)

unfoldable pub ticked_row : ℕ → ℕ → ℕ → Desk × Done → Row
ticked_row ordinal offset time s = (s.0, ticked_text ordinal offset time s.1)

-- the bytes are heard as one frame, at the record's time, with room for any answer
unfoldable pub hear_row : Desk → ℕ → ℕ → ℕ → List ℕ → Row
hear_row d ordinal offset time frame = heard_row ordinal offset time (reading_of d.line frame) (hear_of d time frame (replicate longest 0))

-- a tick at the record's time
unfoldable pub tick_row : Desk → ℕ → ℕ → ℕ → Row
tick_row d ordinal offset time = ticked_row ordinal offset time (tick_of d time)

-- a sending by the master is heard, one by the slave is passed over, a hit is a tick
abbrev pub row_of : Mark → Desk → ℕ → ℕ → ℕ → List ℕ → Row
row_of Master d ordinal offset time bytes = hear_row d ordinal offset time bytes
row_of Slave d ordinal offset time bytes = (d, [])
row_of Hit d ordinal offset time bytes = tick_row d ordinal offset time
