-- What the master does with a frame that it hears (rules M8 to M14, M18). Assumes nothing.
use Rattle.std.specs.Prelude.{ℕ, true, cond, List, length}
use Rattle.records.specs.Records.{type_of}
use Rattle.records.specs.Answers.{Answer}
use Rattle.clock.specs.Clock.{run_out}
use Rattle.master.specs.Answering.{Judged, judge_of}
use Rattle.master.specs.Answering as j
use Rattle.master.specs.declared.state.Master.{Master}
use Rattle.master.specs.State.{is_free, call_fault, with_line, answered_state, answered_with}
use Rattle.master.specs.Sending.{Behind, t2_limit, unless_refused, failed_of}
use Rattle.master.specs.Answers as t

-- an ignored hearing changes nothing and sends nothing
abbrev pub ignoring : t.Why → Master → List ℕ → Behind
ignoring why m out = (m, (t.ignored why, out))

-- an answer of another kind ends the telegram as answered, and the sending count is reported
abbrev pub ended_of : Master → Answer → Master × t.Told
ended_of m answer = (answered_state m, t.other_kind answer m.count)

-- what a heard frame makes of state and output
abbrev pub settled_of : Master → ℕ → Judged → List ℕ → Behind
-- ignored when refused 1 to 7, or when the number is another
settled_of m at (j.refused x) out = ignoring (t.Why.refused x) m out
settled_of m at j.other_number out = ignoring t.other_number m out
-- else the line is good: N with 1 or 2 is a failed sending, and the line stays good
settled_of m at j.failed out = failed_of t.rejected true (with_line m true) at out
-- all else ends the telegram as answered, permitted or of another kind; a permitted A to t tells the key position too
settled_of m at (j.answered rec) out = (answered_with (with_line m true) rec, (t.answered rec m.count, out))
settled_of m at (j.other_kind answer) out = ((ended_of (with_line m true) answer).0, ((ended_of (with_line m true) answer).1, out))

-- what a frame is to the telegram that the master waits on
abbrev pub judged : Master → List ℕ → Judged
judged m frame = judge_of m.line m.number.0 (type_of m.rec) frame

-- ignored while free, and when T2 has run out
unfoldable pub hear_of : Master → ℕ → List ℕ → List ℕ → Behind
hear_of m at frame out =
    unless_refused (call_fault m (length out)) m out
    (cond (is_free m) (ignoring t.free m out)
    (cond (run_out at m.t2 t2_limit) (ignoring t.run_out m out)
    (settled_of m at (judged m frame) out)))
