-- Which call a row of the desk names (docs/SCENES.md). Assumes nothing.
use Rattle.std.specs.Prelude.{Bool, true, cond, List, ℕ, eqb}
use Rattle.laws.specs.Text.{codes}
use Rattle.text.specs.Fields.{word_of, word_place}
use Rattle.scripts.specs.Numbers.{are_numbers}
use Rattle.scripts.specs.declared.desks.calls.Quiet as q
use Rattle.scripts.specs.declared.desks.calls.Field as f
use Rattle.scripts.specs.declared.desks.calls.Call.{Call}
use Rattle.scripts.specs.declared.desks.calls.Call as c

-- by the number of a field's word; a row that alters no field names no call
unfoldable pub alter_numbered : ℕ → Call
alter_numbered n =
    cond (eqb n 0) (c.TheVariants.Alter f.TheVariants.Line)
    (cond (eqb n 1) (c.TheVariants.Alter f.TheVariants.Good)
    (cond (eqb n 2) (c.TheVariants.Alter f.TheVariants.Last)
    (cond (eqb n 3) (c.TheVariants.Alter f.TheVariants.Kept)
    (cond (eqb n 4) (c.TheVariants.Alter f.TheVariants.Queued)
    (cond (eqb n 5) (c.TheVariants.Alter f.TheVariants.Key)
    c.TheVariants.Unknown)))))

-- by the numbers of a call's word and of a field's word
unfoldable pub call_numbered : ℕ → ℕ → Call
call_numbered n field =
    cond (eqb n 0) (c.TheVariants.Quiet q.TheVariants.Start)
    (cond (eqb n 1) (c.TheVariants.Quiet q.TheVariants.Tick)
    (cond (eqb n 2) (c.TheVariants.Quiet q.TheVariants.Queue)
    (cond (eqb n 3) (c.TheVariants.Quiet q.TheVariants.Set)
    (cond (eqb n 4) (c.TheVariants.Quiet q.TheVariants.Key)
    (cond (eqb n 5) c.TheVariants.Hear
    (cond (eqb n 6) (alter_numbered field)
    (cond (eqb n 7) c.TheVariants.Show
    (cond (eqb n 8) (c.TheVariants.Quiet q.TheVariants.ClearQueue)
    (cond (eqb n 9) (c.TheVariants.Quiet q.TheVariants.ClearSet)
    (cond (eqb n 10) c.TheVariants.Due
    c.TheVariants.Unknown))))))))))

-- the words that a call takes as numbers are numbers: a line, a time, a room, what is put into a field, the values of a record
abbrev pub quiet_numbered : q.Quiet → List ℕ → Bool
quiet_numbered q.TheVariants.Start row = are_numbers 2 3 row
quiet_numbered q.TheVariants.Tick row = are_numbers 2 3 row
quiet_numbered q.TheVariants.Queue row = are_numbers 3 13 row
quiet_numbered q.TheVariants.Set row = are_numbers 3 13 row
quiet_numbered q.TheVariants.Key row = true
quiet_numbered q.TheVariants.ClearQueue row = true
quiet_numbered q.TheVariants.ClearSet row = true

abbrev pub well_numbered : Call → List ℕ → Bool
well_numbered (c.TheVariants.Quiet quiet) row = quiet_numbered quiet row
well_numbered c.TheVariants.Hear row = are_numbers 2 4 row
well_numbered (c.TheVariants.Alter field) row = are_numbers 3 4 row
well_numbered c.TheVariants.Due row = are_numbers 2 3 row
well_numbered c.TheVariants.Show row = true
well_numbered c.TheVariants.Unknown row = true

-- a row with a number that is none names no call
unfoldable pub named_by : Call → List ℕ → Call
named_by call row = cond (well_numbered call row) call c.TheVariants.Unknown

-- the numbers of a row's words among those of the calls and of the fields
abbrev pub call_word : List ℕ → ℕ
call_word row = word_place (codes "start tick queue set key hear alter show clear_queue clear_set due") 11 (word_of 1 row)

abbrev pub field_word : List ℕ → ℕ
field_word row = word_place (codes "line good last kept queued key") 6 (word_of 2 row)

unfoldable pub call_of : List ℕ → Call
call_of row = named_by (call_numbered (call_word row) (field_word row)) row
