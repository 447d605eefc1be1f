-- Every sending restarts T0 and T2, and nothing else does (rule M3). Assumes nothing.
use Rattle.std.specs.Prelude.{◌≡◌, Bool, List, ℕ}
use Rattle.records.specs.declared.records.Record.{Record}
use Rattle.master.specs.Answers.{Ground, Told, refused, nothing, sent, answered, other_kind, given_up, ignored}
use Rattle.master.specs.Sending.{Behind, offer_of, tick_of, fail_of}
use Rattle.master.specs.Hearing.{hear_of}
use Rattle.master.specs.declared.state.Master.{Master}

-- the start of a timer behind a call, by what the call answers: its time where it sent, and else what it was before
abbrev pub start_behind : Told → ℕ → ℕ → ℕ
start_behind (refused x) at before = before
start_behind nothing at before = before
start_behind (sent which count bytes) at before = at
start_behind (answered rec count) at before = before
start_behind (other_kind answer count) at before = before
start_behind (given_up cause count) at before = before
start_behind (ignored why) at before = before

-- so start both timers of a state, behind a call at a time
pub record Timed (m : Master) (at : ℕ) (b : Behind) : Type 0 where
  pub t0 : b.0.t0 ≡ start_behind b.1.0 at m.t0
  pub t2 : b.0.t2 ≡ start_behind b.1.0 at m.t2

-- whatever the state: a first sending by an offer
abbrev pub OfferTimed : Type 0
OfferTimed = (m : Master) (at : ℕ) (rec : Record) (out : List ℕ) → Timed m at (offer_of m at rec out)

-- a poll, or a sending again where T2 has run out, by a tick
abbrev pub TickTimed : Type 0
TickTimed = (m : Master) (at : ℕ) (out : List ℕ) → Timed m at (tick_of m at out)

-- a sending again by a hearing
abbrev pub HearTimed : Type 0
HearTimed = (m : Master) (at : ℕ) (frame out : List ℕ) → Timed m at (hear_of m at frame out)

-- and by a failed sending
abbrev pub FailTimed : Type 0
FailTimed = (cause : Ground) (good : Bool) (m : Master) (at : ℕ) (out : List ℕ) → Timed m at (fail_of cause good m at out)
