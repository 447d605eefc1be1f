-- What a frame does that the master hears before T2 has run out, in every state that is not free and at every reading of the clock
-- (rules M8 to M14). Assumes nothing.
use Rattle.std.specs.Prelude.{◌≡◌, true, false, List, ℕ, ◌+◌, ◌≤◌, ◌<◌, length, get_or}
use Rattle.characters.specs.Marks.{longest}
use Rattle.records.specs.Refusals.{No}
use Rattle.records.specs.Records.{type_of}
use Rattle.records.specs.declared.records.Record.{Record}
use Rattle.records.specs.Answers.{first_fault, good, fails, accepted}
use Rattle.records.specs.Answers as w
use Rattle.reading.specs.Frame.{frame_checks}
use Rattle.reading.specs.Reading.{reading_of}
use Rattle.clock.specs.Counters.{number_in}
use Rattle.master.specs.Rules.{is_failure, permitted_answer}
use Rattle.master.specs.declared.state.Master.{Master}
use Rattle.master.specs.State.{is_free, in_ranges, with_line, answered_state, answered_with, given_up_state}
use Rattle.master.specs.Sending.{Behind, sending_of}
use Rattle.master.specs.Hearing.{hear_of}
use Rattle.master.specs.Answers as t
use Rattle.conduct.specs.Times.{clock_after}
use Rattle.conduct.specs.Master.Timed.{Busy}

-- so long after the newest sending, a hearing of this frame leaves what is said of its time
abbrev pub HeardInTime : Master → List ℕ → List ℕ → (ℕ → Behind) → Type 0
HeardInTime m frame out leaves =
    Busy m → longest ≤ length out → (ms : ℕ) → ms < 2000 → hear_of m (clock_after m.t2 ms) frame out ≡ leaves (clock_after m.t2 ms)

-- N with 1 or 2 and the number that was sent: sent again at once with the count one more,
abbrev pub HearsFailure : Type 0
HearsFailure =
    (m : Master) (frame out : List ℕ) (rec : Record) → reading_of m.line frame ≡ accepted rec m.number.0 → is_failure rec ≡ true → m.count < 3
    → HeardInTime m frame out (λ at. sending_of t.again (with_line m true) m.rec (m.count + 1) at out)

-- or at count 3 given up, and the line stays good
abbrev pub HearsThirdFailure : Type 0
HearsThirdFailure =
    (m : Master) (frame out : List ℕ) (rec : Record) → reading_of m.line frame ≡ accepted rec m.number.0 → is_failure rec ≡ true → m.count ≡ 3
    → HeardInTime m frame out (λ at. (given_up_state (with_line m true), (t.given_up t.rejected 3, out)))

-- any other record with that number ends the telegram as answered: a permitted answer with its record, which may tell the key position,
abbrev pub HearsAnswer : Type 0
HearsAnswer =
    (m : Master) (frame out : List ℕ) (rec : Record) → reading_of m.line frame ≡ accepted rec m.number.0 → is_failure rec ≡ false
    → permitted_answer m.line (type_of m.rec) (type_of rec) ≡ true
    → HeardInTime m frame out (λ at. (answered_with (with_line m true) rec, (t.answered rec m.count, out)))

-- or an answer of another kind,
abbrev pub HearsOtherKind : Type 0
HearsOtherKind =
    (m : Master) (frame out : List ℕ) (rec : Record) → reading_of m.line frame ≡ accepted rec m.number.0 → is_failure rec ≡ false
    → permitted_answer m.line (type_of m.rec) (type_of rec) ≡ false
    → HeardInTime m frame out (λ at. (answered_state (with_line m true), (t.other_kind (accepted rec m.number.0) m.count, out)))

-- and so are contents refused 8 to 11
abbrev pub HearsContents : Type 0
HearsContents =
    (m : Master) (frame out : List ℕ) (x : No) → reading_of m.line frame ≡ w.refused x → 8 ≤ x.number → x.number ≤ 11 → number_in (get_or frame 4 0) ≡ m.number.0
    → HeardInTime m frame out (λ at. (answered_state (with_line m true), (t.other_kind (w.refused x) m.count, out)))

-- a frame refused 1 to 7 is ignored, and so is a good one whose number is another
abbrev pub IgnoresBad : Type 0
IgnoresBad =
    (m : Master) (frame out : List ℕ) (x : No) → first_fault 1 (frame_checks frame) ≡ fails x → HeardInTime m frame out (λ at. (m, (t.ignored (t.Why.refused x), out)))

abbrev pub IgnoresOtherNumber : Type 0
IgnoresOtherNumber =
    (m : Master) (frame out : List ℕ) → first_fault 1 (frame_checks frame) ≡ good → ¬ (m.number.0 ≡ number_in (get_or frame 4 0))
    → HeardInTime m frame out (λ at. (m, (t.ignored t.other_number, out)))

-- while free it ignores every frame, at any time
abbrev pub IgnoresWhileFree : Type 0
IgnoresWhileFree =
    (m : Master) → in_ranges m ≡ true → is_free m ≡ true → (at : ℕ) (frame out : List ℕ) → longest ≤ length out → hear_of m at frame out ≡ (m, (t.ignored t.free, out))
