-- The data field in a telegram: checks 8 to 11 (rules R8 to R11). Assumes nothing.
use Rattle.std.specs.Prelude.{ℕ, List, [], ◌∷◌, get_or, Option}
use Rattle.forms.specs.Forms.{Looked, slots_of, form_of}
use Rattle.reading.specs.Frame.{needs, field_of}
pub use Rattle.reading.specs.DataField.{behind, data_behind, packet_value}
unfoldable pub use Rattle.reading.specs.DataField.{data_of, outside, wrong_letter, bad_value, values_in, misshapen}

-- the row of bytes on a line, by their type and the letter of their first packet
abbrev pub row_in : ℕ → List ℕ → Looked
row_in line s = form_of line (get_or s 3 0) (get_or s 5 0)

-- checks 8 to 11, in order
unfoldable pub field_checks : ℕ → List ℕ → List (Option ℕ)
field_checks line s =
    -- 8: type is not on this line
    needs (row_in line s).found 3 ∷
    -- 9: data byte outside the set
    outside 5 (field_of s) ∷
    -- 10: data field of another length, or a packet letter wrong
    misshapen (row_in line s).form (field_of s) ∷
    -- 11: a value not permitted
    bad_value line (get_or s 3 0) 5 (slots_of (row_in line s).form) (field_of s) ∷
    []
