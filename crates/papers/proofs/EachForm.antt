-- The samples of each form are read, computed; and a row comes back from what is said of it. Assumes nothing.
use Rattle.std.specs.Prelude.{Option, None, Some, cond}
use mathlib.Core.Path.{◌≡◌, refl, sym, ap, ◌∙◌}
use Rattle.laws.specs.Numerals.{numeral_on, number_on}
use Rattle.characters.specs.Characters.{in_set}
use Rattle.characters.specs.Checksum.{total, checksum_of, check_text}
use Rattle.records.specs.Records.{record_of}
use Rattle.forms.specs.Lines.{line_of}
use Rattle.forms.specs.declared.rows.Form.{Form}
use Rattle.forms.specs.Forms.{Looked, looked_of, forms, on_line, look_in, form_of, data_type, slots_in, count_of, slots_of, width_in, width_of, type_row}
use Rattle.values.specs.Packets.{lead_of, is_decimal, permits, ruled, permits_number}
use Rattle.values.specs.Values.{value_of, permitted_from, permitted, narrow, number_fits}
use Rattle.reading.specs.Frame.{count_text, summed_of, field_of, frame_checks}
use Rattle.reading.specs.Contents.{outside, wrong_letter, bad_value, values_in, misshapen, field_checks}
use Rattle.reading.specs.Reading.{record_in, checks, reading_of}
use Rattle.papers.specs.EachForm.{SamplesRead, EachSampled, OneLooked}

pub samples-read : SamplesRead
unfolding numeral_on number_on in_set total checksum_of check_text forms on_line look_in form_of type_row data_type slots_in count_of slots_of width_in width_of
    lead_of is_decimal line_of permits ruled permits_number narrow number_fits value_of permitted_from permitted record_of count_text summed_of field_of frame_checks outside wrong_letter bad_value
    values_in misshapen field_checks record_in checks reading_of
samples-read = refl

pub each-sampled : EachSampled
unfolding forms on_line
each-sampled = refl

abbrev row_back : Looked → Option Form
row_back l = cond l.found (Some l.form) None

row-back : (a : Option Form) → row_back (looked_of a) ≡ a
row-back None = refl
row-back (Some f) = refl

pub one-looked : OneLooked
one-looked a b h = sym (row-back a) ∙ (ap row_back h ∙ row-back b)
