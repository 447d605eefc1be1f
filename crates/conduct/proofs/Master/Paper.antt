-- The master's poll and the permitted answers are those of the paper, computed. Assumes nothing.
use mathlib.Core.Path.{refl}
use Rattle.laws.specs.Numerals.{numeral_on, left_of}
use Rattle.characters.specs.Checksum.{total, checksum_of, check_text}
use Rattle.forms.specs.Lines.{line_of}
use Rattle.forms.specs.Forms.{forms, on_line, look_in, type_row, form_of, data_type, slots_in, count_of, slots_of, width_in, width_of}
use Rattle.reading.specs.Frame.{count_text, body_of, frame_of}
use Rattle.values.specs.Packets.{lead_of, is_decimal}
use Rattle.values.specs.Values.{text_of}
use Rattle.reading.specs.Contents.{data_of}
use Rattle.writing.specs.Writing.{telegram_of}
use Rattle.master.specs.Rules.{poll_of, answers_to, permitted_answer}
use Rattle.conduct.specs.Master.Paper.{EachPoll, EachAnswer, EachTypeListed}

pub each-poll : EachPoll
unfolding numeral_on left_of total checksum_of check_text line_of forms on_line look_in type_row form_of data_type slots_in count_of slots_of width_in width_of count_text
    body_of frame_of data_of telegram_of text_of lead_of is_decimal poll_of
each-poll = refl

pub each-answer : EachAnswer
unfolding forms on_line look_in type_row data_type answers_to permitted_answer
each-answer = search

pub each-type-listed : EachTypeListed
unfolding forms on_line look_in type_row
each-type-listed = refl
