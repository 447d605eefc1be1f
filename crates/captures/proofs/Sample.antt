-- The listing of the paper's sample, computed, and what other inputs print. Assumes nothing.
use Rattle.std.proofs.Common.{◌≡◌, ℕ, ◌-◌, false, refl, arith, ltb-false, le-ltb, lt-ltb}
use Prim.Native.Char.{code}
use Rattle.laws.proofs.Passes.{order}
use Rattle.laws.specs.Truth.{from}
use Rattle.laws.specs.Numerals.{numeral_on, number_on}
use Rattle.characters.specs.Characters.{in_set}
use Rattle.characters.specs.Checksum.{total, checksum_of, check_text}
use Rattle.forms.specs.Forms.{forms, on_line, look_in, form_of, type_row, data_type, slots_in, count_of, slots_of, width_in, width_of}
use Rattle.forms.specs.Lines.{is_line, line_of}
use Rattle.records.specs.Records.{record_of}
use Rattle.values.specs.Packets.{lead_of, is_decimal, permits, ruled, permits_number}
use Rattle.values.specs.Values.{narrow, number_fits, value_of, permitted_from, permitted}
use Rattle.reading.specs.Frame.{count_text, summed_of, field_of, frame_checks}
use Rattle.reading.specs.Contents.{outside, wrong_letter, bad_value, values_in, misshapen, field_checks}
use Rattle.reading.specs.Reading.{record_in, checks, reading_of}
use Rattle.cutting.specs.Turns.{turn_of}
use Rattle.cutting.specs.Search.{cut_from, span_of}
use Rattle.text.specs.Numbers.{count_on, digit_count, decimal_text}
use Rattle.text.specs.Items.{refusal_text}
use Rattle.captures.specs.Listing.{line_text}
use Rattle.captures.specs.Sample.{PaperListing, NoInput, OtherByte, DigitAlone}
use Rattle.captures.specs.Part.{spans_on, spans_of, line_at, lines_in, lines_of}
use Rattle.pieces.specs.Line.{line_named}
use Rattle.captures.specs.Captures.{listing_of}

pub paper-listing : PaperListing
unfolding numeral_on number_on in_set total checksum_of check_text forms on_line look_in form_of type_row data_type slots_in count_of slots_of width_in width_of
    lead_of is_decimal line_of permits ruled permits_number narrow number_fits value_of permitted_from permitted record_of count_text summed_of field_of frame_checks outside
    wrong_letter bad_value values_in misshapen field_checks record_in checks reading_of turn_of cut_from span_of count_on digit_count decimal_text refusal_text line_text
    spans_on spans_of line_at lines_in lines_of line_named listing_of
paper-listing = refl

pub no-input : NoInput
unfolding listing_of
no-input = refl

-- a byte that is not '1', '2' or '3' names no line
no_line : (byte : ℕ) → from (code "1") (code "3") byte ≡ false → is_line (byte - code "0") ≡ false
no_line byte h =
    order byte (code "1") (λ l. rw (lt-ltb (byte - code "0") 1 (omega arith)))
    (λ m.
    let k = ltb-false byte 52 (rw (le-ltb byte (code "1") m) at h) in
    rw (le-ltb (byte - code "0") 1 (omega arith), le-ltb (byte - code "0") 4 (omega arith)))

pub other_byte : OtherByte
unfolding listing_of line_named
other_byte byte s h = rw (no_line byte h)

pub digit-alone : DigitAlone
unfolding listing_of line_named lines_of lines_in spans_of spans_on
digit-alone = refl
