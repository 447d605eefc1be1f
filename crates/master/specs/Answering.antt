-- What a frame that the master hears is to the telegram that it waits on (rules M8 to M13). Assumes nothing.
use Rattle.std.specs.Prelude.{ℕ, cond, List, get_or}
use Rattle.records.specs.Refusals.{No, refusal_of}
use Rattle.records.specs.Records.{type_of}
use Rattle.records.specs.declared.records.Record.{Record}
use Rattle.records.specs.Answers.{Fault, first_fault, Answer, answer_of}
use Rattle.records.specs.Answers as w
use Rattle.reading.specs.Frame.{frame_checks}
use Rattle.reading.specs.Reading.{reading_of}
use Rattle.clock.specs.Counters.{same_number, number_in}
use Rattle.master.specs.Rules.{is_failure, permitted_answer}
use Rattle.master.specs.declared.answering.Verdict as v

-- refused 1 to 7; its number is another; a failed sending; a permitted answer with its record; an answer of another kind as it was read
pub data Judged : Type 0 where
  refused : No → Judged
  other_number : Judged
  failed : Judged
  answered : Record → Judged
  other_kind : Answer → Judged

abbrev pub judged_of : v.Verdict → Judged
judged_of (v.TheVariants.Refused x) = refused (refusal_of x)
judged_of v.TheVariants.OtherNumber = other_number
judged_of v.TheVariants.Failed = failed
judged_of (v.TheVariants.Answered rec) = answered rec
judged_of (v.TheVariants.OtherKind reading) = other_kind (answer_of reading)

-- N with 1 or 2 is a failed sending; all else ends the telegram as answered, permitted or of another kind
unfoldable pub answered_by : ℕ → ℕ → Record → ℕ → Judged
answered_by line sent rec number =
    cond (is_failure rec) failed
    (cond (permitted_answer line sent (type_of rec)) (answered rec)
    (other_kind (w.accepted rec number)))

-- contents refused 8 to 11 are an answer of another kind
abbrev pub taken_of : ℕ → ℕ → Answer → Judged
taken_of line sent (w.accepted rec number) = answered_by line sent rec number
taken_of line sent (w.refused x) = other_kind (w.refused x)

-- ignored when refused 1 to 7
abbrev pub unless_bad : Fault → Judged → Judged
unless_bad w.good judged = judged
unless_bad (w.fails x) judged = refused x

-- or when the number is another; else by its reading. The line, the number and the type that were sent, and the frame
unfoldable pub judge_of : ℕ → ℕ → ℕ → List ℕ → Judged
judge_of line number sent frame =
    unless_bad (first_fault 1 (frame_checks frame))
    (cond (same_number number (number_in (get_or frame 4 0)))
    (taken_of line sent (reading_of line frame))
    other_number)
