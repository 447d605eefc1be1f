-- Calls of the master in any order, with any inputs (rules M2 to M13). Assumes nothing.
use Rattle.std.specs.Prelude.{Bool, true, false, List, [], ◌∷◌, ℕ}
use Rattle.records.specs.declared.records.Record.{Record}
use Rattle.master.specs.Rules.{poll_of}
use Rattle.master.specs.declared.state.Master.{Master}
use Rattle.master.specs.Answers.{Which, poll, Ground, silence, rejected}
use Rattle.master.specs.Answers as t
use Rattle.master.specs.Sending.{Behind, offer_of, tick_of}
use Rattle.master.specs.Hearing.{hear_of}

-- a call: its time, what it brings, and the output that it may fill
pub data Call : Type 0 where
  offers : ℕ → Record → List ℕ → Call
  ticks : ℕ → List ℕ → Call
  hears : ℕ → List ℕ → List ℕ → Call

abbrev pub call_time : Call → ℕ
call_time (offers at rec out) = at
call_time (ticks at out) = at
call_time (hears at frame out) = at

abbrev pub output_of : Call → List ℕ
output_of (offers at rec out) = out
output_of (ticks at out) = out
output_of (hears at frame out) = out

-- what a call makes of the state
abbrev pub after : Master → Call → Behind
after m (offers at rec out) = offer_of m at rec out
after m (ticks at out) = tick_of m at out
after m (hears at frame out) = hear_of m at frame out

-- a state behind calls, one after the other
abbrev pub run : Master → List Call → Master
run m [] = m
run m (call ∷ calls) = run (after m call).0 calls

-- the first sending of a telegram: of the offered record, or of the poll
pub data FirstSending (m : Master) : Call → Which → Record → Type 0 where
  offered : {at : ℕ} {rec : Record} {out : List ℕ} → FirstSending m (offers at rec out) t.offered rec
  polled : {at : ℕ} {out : List ℕ} → FirstSending m (ticks at out) poll (poll_of m.line)

-- giving up by silence notes the line lost; by N it stays good
abbrev pub line_after : Ground → Bool
line_after silence = false
line_after rejected = true
