-- T0 and T2 at their limits, in every state in its ranges and at every reading of the clock; the bench cases are computed. Assumes nothing.
use mathlib.Core.Path.{◌≡◌, refl, sym, ◌∙◌}
use mathlib.Core.Bool.{true, false}
use mathlib.Core.List.{List}
use Prim.Native.Nat.{ℕ, ◌+◌, ◌^◌, ◌≤◌, ◌<◌}
use native.Mathlib.Omega.{arith}
use lib.ListN.{length}
use borrow.Author.Tests.{eqb-true, eqb-false}
use Rattle.master.specs.declared.state.Master.{Master}
use Rattle.master.specs.declared.answers.Reason as r
use Rattle.master.proofs.Ranges.{passes}
use Rattle.master.proofs.Sends.{gave-up, sent-again, no-poll, polled, waits, silent, tick-free, tick-busy}
use Rattle.master.proofs.Hears.{ignoring, hear-late}
use Rattle.conduct.specs.Times.{clock_after}
use Rattle.conduct.proofs.Times.{still-runs, has-run-out}
use Rattle.laws.specs.Numerals.{numeral_on, number_on, left_of}
use Rattle.characters.specs.Marks.{longest}
use Rattle.characters.specs.Characters.{in_set}
use Rattle.characters.specs.Checksum.{total, checksum_of, check_text}
use Rattle.forms.specs.Lines.{line_of}
use Rattle.forms.specs.Forms.{forms, on_line, look_in, type_row, form_of, data_type, slots_in, count_of, slots_of, width_in, width_of}
use Rattle.records.specs.Records.{record_of}
use Rattle.values.specs.Packets.{lead_of, is_decimal, permits, ruled, permits_number}
use Rattle.values.specs.Values.{permits_record, text_of, narrow, value_of, number_width, permitted_from, number_fits, permitted, permits_value, permits_values}
use Rattle.reading.specs.Frame.{count_text, summed_of, field_of, frame_checks}
use Rattle.reading.specs.Contents.{outside, wrong_letter, bad_value, values_in, misshapen, field_checks}
use Rattle.reading.specs.Reading.{record_in, checks, reading_of}
use Rattle.writing.specs.Writing.{sent_of}
use Rattle.clock.specs.Clock.{run_out}
use Rattle.master.specs.Rules.{poll_of, is_failure, answers_to, permitted_answer}
use Rattle.master.specs.Times.{operation_fits}
use Rattle.master.specs.Answering.{answered_by, judge_of}
use Rattle.master.specs.State.{sendable, fits_free, in_ranges, call_fault, with_line, given_up_state}
use Rattle.master.specs.Sending.{t0_limit, t2_limit, sending_of, failed_of, offer_fault, offer_of, polling_of, waiting_of, tick_of}
use Rattle.master.specs.Hearing.{hear_of}
use Rattle.master.specs.Answers as t
use Rattle.conduct.specs.Master.Timed.{Free, Busy, TicksBeforeT0, TicksFromT0, TicksBeforeT2, TicksFromT2, GivesUpFromT2, IgnoresFromT2, HearsAt1999, IgnoresAt2000}

module _ (m : Master) (f : Free m) (out : List ℕ) (room : longest ≤ length out) where
  -- a tick while free looks at T0
  free-tick : (at : ℕ) → polling_of m at out ≡ tick_of m at out
  free-tick at = tick-free m at out (passes m (length out) f.ranged room) (eqb-true m.count 0 f.free)

  module _ (ms : ℕ) where
    rests : ms < 2 ^ 32 → ms < t0_limit m → tick_of m (clock_after m.t0 ms) out ≡ (m, (t.nothing, out))
    rests k l = sym (no-poll m _ out (t0_limit m) refl (still-runs m.t0 ms (t0_limit m) f.start k l) ∙ free-tick _)

    polls : t0_limit m ≤ ms → ms < 2 ^ 32 → tick_of m (clock_after m.t0 ms) out ≡ sending_of t.poll m (poll_of m.line) 1 (clock_after m.t0 ms) out
    polls l k = sym (polled m _ out (t0_limit m) refl (has-run-out m.t0 ms (t0_limit m) f.start k l) (poll_of m.line) refl ∙ free-tick _)

pub ticks-before-t0 : TicksBeforeT0
ticks-before-t0 = rests

pub ticks-from-t0 : TicksFromT0
ticks-from-t0 = polls

module _ (m : Master) (b : Busy m) (out : List ℕ) (room : longest ≤ length out) where
  -- a tick while not free looks at T2
  busy-tick : (at : ℕ) → waiting_of m at out ≡ tick_of m at out
  busy-tick at = tick-busy m at out (passes m (length out) b.ranged room) (eqb-false m.count 0 b.busy)

  module _ (ms : ℕ) where
    waits-on : ms < 2000 → tick_of m (clock_after m.t2 ms) out ≡ (m, (t.nothing, out))
    waits-on l = sym (waits m _ out (still-runs m.t2 ms t2_limit b.start (omega arith) l) ∙ busy-tick _)

    module _ (l : 2000 ≤ ms) (k : ms < 2 ^ 32) where
      gone : run_out (clock_after m.t2 ms) m.t2 t2_limit ≡ true
      gone = has-run-out m.t2 ms t2_limit b.start k l

      fails_by : failed_of t.silence false m (clock_after m.t2 ms) out ≡ tick_of m (clock_after m.t2 ms) out
      fails_by = silent m _ out gone ∙ busy-tick _

      sends-again : m.count < 3 → tick_of m (clock_after m.t2 ms) out ≡ sending_of t.again m m.rec (m.count + 1) (clock_after m.t2 ms) out
      sends-again c = sym (sent-again t.silence false m _ out (λ q. omega arith) ∙ fails_by)

      gives_up : m.count ≡ 3 → tick_of m (clock_after m.t2 ms) out ≡ (given_up_state (with_line m false), (t.given_up t.silence 3, out))
      gives_up c = sym (gave-up t.silence false m _ out c (given_up_state (with_line m false)) refl ∙ fails_by) ∙ rw c

pub ticks-before-t2 : TicksBeforeT2
ticks-before-t2 = waits-on

pub ticks-from-t2 : TicksFromT2
ticks-from-t2 = sends-again

pub gives-up-from-t2 : GivesUpFromT2
gives-up-from-t2 = gives_up

pub ignores-from-t2 : IgnoresFromT2
ignores-from-t2 m b frame out room ms l k =
    sym (hear-late m _ frame out (passes m (length out) b.ranged room) (eqb-false m.count 0 b.busy) (gone m b out room ms l k)
    (ignoring m r.TheVariants.RunOut) refl)

pub hears-at-1999 : HearsAt1999
unfolding numeral_on number_on left_of in_set total checksum_of check_text line_of forms on_line look_in type_row form_of data_type slots_in count_of slots_of
    width_in width_of record_of lead_of is_decimal permits ruled permits_number permits_record text_of narrow value_of number_width permitted_from number_fits
    permitted permits_value permits_values count_text summed_of field_of frame_checks outside wrong_letter bad_value values_in misshapen field_checks record_in
    checks reading_of run_out operation_fits sendable fits_free in_ranges call_fault is_failure answers_to permitted_answer answered_by judge_of sent_of sending_of offer_fault offer_of hear_of
hears-at-1999 = refl

pub ignores-at-2000 : IgnoresAt2000
unfolding numeral_on left_of in_set line_of forms on_line look_in type_row form_of data_type slots_in count_of slots_of lead_of is_decimal permits ruled
    permits_number permits_record text_of narrow number_width permitted_from number_fits permits_value permits_values run_out operation_fits sendable fits_free in_ranges call_fault sending_of
    offer_fault offer_of hear_of
ignores-at-2000 = refl
