-- The order in which an offer refuses, computed. Assumes nothing.
use mathlib.Core.Path.{refl}
use Rattle.laws.specs.Numerals.{numeral_on, left_of}
use Rattle.characters.specs.Characters.{in_set}
use Rattle.forms.specs.Lines.{line_of}
use Rattle.forms.specs.Forms.{forms, on_line, look_in, form_of, type_row, slots_in, count_of, slots_of}
use Rattle.values.specs.Packets.{lead_of, is_decimal, permits, ruled, permits_number}
use Rattle.values.specs.Values.{text_of, narrow, number_width, permitted_from, number_fits, permits_value, permits_values, permits_record}
use Rattle.master.specs.Times.{reduces, operation_fits}
use Rattle.master.specs.State.{sendable, fits_free, in_ranges, call_fault}
use Rattle.master.specs.Sending.{offer_fault, offer_of}
use Rattle.master.specs.Order.{OfferedInOrder}

pub offered-in-order : OfferedInOrder
unfolding numeral_on left_of in_set line_of forms on_line look_in form_of type_row slots_in count_of slots_of lead_of is_decimal permits ruled permits_number
    text_of narrow number_width permitted_from number_fits permits_value permits_values permits_record reduces operation_fits sendable fits_free in_ranges
    call_fault offer_fault offer_of
offered-in-order = refl
