-- What is proved of our two ends on a line: demand 3, and what holds whatever is supposed. Assumes nothing.
use Rattle.std.specs.Prelude.{◌≡◌, true, List, [], ℕ, ◌≤◌}
use Rattle.forms.specs.Lines.{is_line}
use Rattle.records.specs.Refusals.{No}
use Rattle.records.specs.Answers.{Answer, accepted}
use Rattle.records.specs.Answers as w
use Rattle.reading.specs.Reading.{reading_of}
use Rattle.master.specs.Answers.{Told, nothing, sent, answered, other_kind, given_up, ignored}
use Rattle.master.specs.Answers as t
use Rattle.master.specs.Hearing.{hear_of}
use Rattle.master.specs.declared.state.Master.{Master}
use Rattle.protocol.specs.Demand.{NoLostInside, Promise, Reported, Spoken}
use Rattle.protocol.specs.Ends.{Ev, ran}
use Rattle.demand3.specs.Ours.{ours, is_refused, FromMaster, FromSlave}

-- Demand 3, on line 1, 2 or 3, from any start time, over any events: offers of any record, ticks, calls of the panel, each with any values,
-- and any room, so refused calls too. It says more than the demand asks: a sending and an answer may arrive when T2 has run out; a
-- sending or an answer may be replaced by the next sending with neither lost nor arrival; the times are any numbers in any order, so a
-- clock may go back, stand still or go wrong; and a telegram answered after a giving up, but for the first, got the answer made for it.
-- `Runs` and `Outside` have a run against each reading near by, and `Verdicts` says what is false of it: no exception for the first answered
-- since a giving up (`stale`), a supposition that allows the note in the hearing call itself (`twice`) or looks only at the sendings made so
-- far (`later`), ends that restart (`desk_restart`, `master_restart`), a line where a sending or an answer may arrive after the master stopped
-- waiting on it (`late_sending`, `late_answer`), or where a spoiled sending passes the checks (`spoilt_passes`).
-- `Live` says when the supposition holds by itself.
abbrev pub Demand3 : Type 0
Demand3 = (line : ℕ) → is_line line ≡ true → (at : ℕ) (events : List (Ev (ours line))) → NoLostInside (ran (ours line) at [] events) → Promise (ran (ours line) at [] events)

-- Whatever is supposed, the count of each report is the sendings made of its telegram, each telegram sent reads as a record that the
-- master sends on the line, and each answer made or got as one that the slave sends.
abbrev pub Reports : Type 0
Reports =
    (line : ℕ) → is_line line ≡ true → (at : ℕ) (events : List (Ev (ours line)))
    → Reported (ran (ours line) at [] events) × Spoken (FromMaster line) (FromSlave line) (ran (ours line) at [] events)

-- What checks 1 to 7 refuse, reading refuses with a number of 1 to 7,
abbrev pub SpoiltRefused : Type 0
SpoiltRefused = (line : ℕ) (bytes : List ℕ) → is_line line ≡ true → is_refused bytes ≡ true → (x : No) × (reading_of line bytes ≡ w.Answer.refused x) × (x.number ≤ 7)

-- and what reading so refuses, they refuse.
abbrev pub RefusedSpoilt : Type 0
RefusedSpoilt = (line : ℕ) (bytes : List ℕ) (x : No) → reading_of line bytes ≡ w.Answer.refused x → x.number ≤ 7 → is_refused bytes ≡ true

-- a report of an answer, permitted or of another kind, is the reading of these bytes
abbrev pub Tells : ℕ → List ℕ → Told → Type 0
Tells line bytes (t.refused x) = Unit {0}
Tells line bytes nothing = Unit {0}
Tells line bytes (sent sending count n) = Unit {0}
Tells line bytes (answered rec count) = (number : ℕ) × (reading_of line bytes ≡ accepted rec number)
Tells line bytes (other_kind answer count) = reading_of line bytes ≡ answer
Tells line bytes (given_up cause count) = Unit {0}
Tells line bytes (ignored why) = Unit {0}

-- Whatever the master hears, it reports the reading of it.
abbrev pub Telling : Type 0
Telling = (m : Master) (at : ℕ) (bytes out : List ℕ) → Tells m.line bytes (hear_of m at bytes out).1.0
