-- What bytes on a line read as (rules W1, W2). Assumes nothing.
use Rattle.std.specs.Prelude.{ℕ, ◌-◌, cond, List, [], ◌∷◌, ◌++◌, get_or, Option}
use Prim.Native.Char.{code}
use Rattle.records.specs.Refusals.{no}
use Rattle.forms.specs.Lines.{is_line}
use Rattle.forms.specs.Forms.{slots_of}
use Rattle.records.specs.Records.{record_of}
use Rattle.records.specs.declared.records.Record.{Record}
use Rattle.forms.specs.declared.rows.Form.{Form}
use Rattle.records.specs.Answers.{first_fault, Answer, accepted, refused, unless}
use Rattle.reading.specs.Frame.{field_of, frame_checks}
use Rattle.reading.specs.Contents.{row_in, values_in, misshapen, bad_value, field_checks}

-- the record that a telegram of a known type carries
unfoldable pub record_in : ℕ → List ℕ → Record
record_in line s = record_of (get_or s 3 0) (values_in 10 (slots_of (row_in line s).form) (field_of s))

-- checks 10 and 11, and the record of a field that passes them
unfoldable pub in_form : ℕ → ℕ → ℕ → List ℕ → Form → Answer
in_form line kind number field f =
    unless (first_fault 10 (misshapen f field ∷ bad_value line kind 5 (slots_of f) field ∷ [])) (accepted (record_of kind (values_in 10 (slots_of f) field)) number)

-- checks 8 to 11, and the record and number of a telegram that passes them
unfoldable pub contents_of : ℕ → List ℕ → Answer
contents_of line s = unless (first_fault 8 (field_checks line s)) (accepted (record_in line s) (get_or s 4 0 - code "0"))

-- reading checks 1 to 11 in order
unfoldable pub checks : ℕ → List ℕ → List (Option ℕ)
checks line s = frame_checks s ++ field_checks line s

-- 15 comes before all; a reading is a record with its number or the first refusal with its place
unfoldable pub reading_of : ℕ → List ℕ → Answer
reading_of line s =
    cond (is_line line)
    (unless (first_fault 1 (checks line s)) (accepted (record_in line s) (get_or s 4 0 - code "0")))
    (refused (no 15 0))
