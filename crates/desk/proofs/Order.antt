-- The order in which the panel's calls refuse, computed. Assumes nothing.
use mathlib.Core.Path.{refl}
use Rattle.laws.specs.Numerals.{numeral_on, left_of}
use Rattle.characters.specs.Characters.{in_set}
use Rattle.forms.specs.Lines.{line_of}
use Rattle.forms.specs.Forms.{forms, on_line, look_in, form_of, type_row, slots_in, count_of, slots_of, data_type}
use Rattle.values.specs.Packets.{lead_of, is_decimal, permits, ruled, permits_number}
use Rattle.values.specs.Values.{text_of, narrow, number_width, permitted_from, number_fits, permits_value, permits_values, permits_record}
use Rattle.desk.specs.Fitting.{may_reply, key_fits, wanted_fits}
use Rattle.desk.specs.Waiting.{kept_fits}
use Rattle.desk.specs.State.{numbers_fit, records_fit, in_ranges}
use Rattle.desk.specs.Panel.{record_fault, key_fault, queue_of, set_of, key_of}
use Rattle.desk.specs.Order.{QueuedInOrder, SetInOrder, TurnedInOrder}

by-records : QueuedInOrder × SetInOrder
unfolding numeral_on left_of in_set line_of forms on_line look_in form_of type_row slots_in count_of slots_of data_type lead_of is_decimal permits ruled permits_number
    text_of narrow number_width permitted_from number_fits permits_value permits_values permits_record may_reply key_fits wanted_fits kept_fits
    numbers_fit records_fit in_ranges record_fault queue_of set_of
by-records = (refl, refl)

pub queued-in-order : QueuedInOrder
queued-in-order = by-records.0

pub set-in-order : SetInOrder
set-in-order = by-records.1

pub turned-in-order : TurnedInOrder
unfolding line_of key_fits wanted_fits kept_fits numbers_fit records_fit in_ranges key_fault key_of
turned-in-order = refl
