-- Which call a row of the master names (docs/SCENES.md). Assumes nothing.
use Rattle.std.specs.Prelude.{Bool, true, cond, List, ℕ, eqb}
use Rattle.laws.specs.Text.{codes}
use Rattle.text.specs.Fields.{word_of, word_place}
use Rattle.laws.specs.Truth.{both}
use Rattle.scripts.specs.Numbers.{are_numbers}
use Rattle.scripts.specs.declared.masters.calls.Sends as s
use Rattle.scripts.specs.declared.masters.calls.Field as f
use Rattle.scripts.specs.declared.masters.calls.Call.{Call}
use Rattle.scripts.specs.declared.masters.calls.Call as c

-- by the number of a field's word; a row that alters no field names no call
unfoldable pub alter_numbered : ℕ → Call
alter_numbered n =
    cond (eqb n 0) (c.TheVariants.Alter f.TheVariants.Line)
    (cond (eqb n 1) (c.TheVariants.Alter f.TheVariants.Number)
    (cond (eqb n 2) (c.TheVariants.Alter f.TheVariants.Count)
    (cond (eqb n 3) (c.TheVariants.Alter f.TheVariants.Operation)
    c.TheVariants.Unknown)))

-- by the numbers of a call's word and of a field's word
unfoldable pub call_numbered : ℕ → ℕ → Call
call_numbered n field =
    cond (eqb n 0) c.TheVariants.Start
    (cond (eqb n 1) (c.TheVariants.Sends s.TheVariants.Tick)
    (cond (eqb n 2) (c.TheVariants.Sends s.TheVariants.Offer)
    (cond (eqb n 3) (c.TheVariants.Sends s.TheVariants.Hear)
    (cond (eqb n 4) (alter_numbered field)
    (cond (eqb n 5) c.TheVariants.Show
    (cond (eqb n 6) c.TheVariants.Due
    c.TheVariants.Unknown))))))

-- the words that a call takes as numbers are numbers: a line, a time, a room, what is put into a field, the values of a record
abbrev pub sends_numbered : s.Sends → List ℕ → Bool
sends_numbered s.TheVariants.Tick row = true
sends_numbered s.TheVariants.Offer row = are_numbers 5 15 row
sends_numbered s.TheVariants.Hear row = true

abbrev pub well_numbered : Call → List ℕ → Bool
well_numbered c.TheVariants.Start row = are_numbers 2 4 row
well_numbered (c.TheVariants.Sends sends) row = both (are_numbers 2 4 row) (sends_numbered sends row)
well_numbered (c.TheVariants.Alter field) row = are_numbers 3 4 row
well_numbered c.TheVariants.Due row = are_numbers 2 3 row
well_numbered c.TheVariants.Show row = true
well_numbered c.TheVariants.Unknown row = true

-- a row with a number that is none names no call
unfoldable pub named_by : Call → List ℕ → Call
named_by call row = cond (well_numbered call row) call c.TheVariants.Unknown

-- the numbers of a row's words among those of the calls and of the fields
abbrev pub call_word : List ℕ → ℕ
call_word row = word_place (codes "start tick offer hear alter show due") 7 (word_of 1 row)

abbrev pub field_word : List ℕ → ℕ
field_word row = word_place (codes "line number count operation") 4 (word_of 2 row)

unfoldable pub call_of : List ℕ → Call
call_of row = named_by (call_numbered (call_word row) (field_word row)) row
