-- Runs of our two ends, and what happens in them; `Verdicts` says what they show. Assumes nothing.
use Rattle.std.specs.Prelude.{◌≡◌, List, [], ◌∷◌, ◌++◌, ℕ, ◌+◌, ◌*◌, T as So, replicate}
use Prim.Native.Char.{code}
use Prim.Native.String.{String}
use Rattle.laws.specs.Text.{codes}
use Rattle.laws.specs.Truth.{All}
use Rattle.characters.specs.Marks.{lf, cr, longest}
use Rattle.records.specs.declared.records.Record.{Record}
use Rattle.records.specs.declared.records.Record.TheVariants.{Idling, Position, RadioData, Stop, Train, TrainData}
use Rattle.protocol.specs.History.{Tel, Hist, sent, again, noted, handled, over, answered, gave_up}
use Rattle.protocol.specs.Ends.{Ev, start, ran, offer, mtick, dtick, act, lost, whole, spoilt}
use Rattle.demand3.specs.Ours.{ours, queues, sets, turns, clears_queue}
use Rattle.demand3.specs.Allowed.{allowed}

-- 66 bytes of room
abbrev pub room : List ℕ
room = replicate longest 0

-- a telegram of this text between LF and CR
abbrev pub telegram : String → List ℕ
telegram text = lf ∷ (codes text ++ (cr ∷ []))

-- A with number 0, and with number 1
abbrev pub approved : List ℕ
approved = telegram "08A0AAA5"

abbrev pub next_approved : List ℕ
next_approved = telegram "08A1AAA4"

abbrev pub History : Type 0
History = Hist (List ℕ) (List ℕ)

-- a run: its line, the master's start time, the events, and the history that they make
pub record Run : Type 0 where
  pub line : ℕ
  pub from : ℕ
  pub events : List (Ev (ours line))
  pub history : History

-- it makes that history
abbrev pub Happens : Run → Type 0
Happens r = ran (ours r.line) r.from [] r.events ≡ r.history

-- the demand's line allows it
abbrev pub Allowed : Run → Type 0
Allowed r = So (allowed r.line r.from (start (ours r.line) r.from []) r.events)

-- The usual exchange on line 3: a sending so spoiled that the desk answers N with 1, a sending lost, the third handled and answered; then a
-- second telegram with equal values: its answer lost, its next sending spoiled, and the third answered with the answer made, not with N.
abbrev pub train : Tel (List ℕ)
train = (0, telegram "13n0T12345675")

abbrev pub next_train : Tel (List ℕ)
next_train = (1, telegram "13n1T12345674")

abbrev pub usual : Run
usual = record {
  line = 3;
  from = 0;
  events =
      offer 0 (Train 123456) room ∷ spoilt 10 (telegram "13n0T12345676") room ∷ whole 20 room ∷ lost ∷ mtick 2020 room ∷ whole 2030 room ∷ whole 2040 room ∷
      offer 3000 (Train 123456) room ∷ whole 3010 room ∷ lost ∷ mtick 5000 room ∷ spoilt 5010 (telegram "13n1T12345675") room ∷ whole 5020 room ∷
      whole 5030 room ∷ whole 5040 room ∷ [];
  history =
      answered next_train next_approved 3 ∷ over next_train ∷ again next_train ∷ over next_train ∷ again next_train ∷ over next_train ∷
      handled next_train next_approved ∷ sent next_train ∷ answered train approved 3 ∷ over train ∷
      handled train approved ∷ again train ∷ over train ∷ again train ∷ over train ∷ sent train ∷ [];
}

-- The customer's fault on line 3: the answer to t is lost, and another record waits when the master asks again. The same record arrives,
-- and the other one at the next t.
abbrev pub radio : ℕ → Record
radio position = RadioData (record { fc = 1; d = 2; c = 3; mode = code "A"; watch = code "A" * 256 + code "B"; position = position })

abbrev pub poll : Tel (List ℕ)
poll = (0, telegram "08t0Bt3E")

abbrev pub next_poll : Tel (List ℕ)
next_poll = (1, telegram "08t1Bt3D")

abbrev pub radio_data : List ℕ
radio_data = telegram "28K0FC01D02C03M:AV:ABP1234F0"

abbrev pub next_radio_data : List ℕ
next_radio_data = telegram "28K1FC01D02C03M:AV:ABP4321EF"

abbrev pub polled : Run
polled = record {
  line = 3;
  from = 0;
  events =
      act (queues (radio 1234)) ∷ mtick 10000 room ∷ whole 10010 room ∷ lost ∷ act (queues (radio 4321)) ∷ mtick 12000 room ∷ whole 12010 room ∷
      whole 12020 room ∷ mtick 22000 room ∷ whole 22010 room ∷ whole 22020 room ∷ [];
  history =
      answered next_poll next_radio_data 1 ∷ over next_poll ∷ handled next_poll next_radio_data ∷ sent next_poll ∷
      answered poll radio_data 2 ∷ over poll ∷ again poll ∷ over poll ∷ handled poll radio_data ∷ sent poll ∷ [];
}

-- The panel clears the queue on line 3 before the master asks again: the record that was given out arrives, and A at the next t.
abbrev pub cleared : Run
cleared = record {
  line = 3;
  from = 0;
  events =
      act (queues (radio 1234)) ∷ act (queues (radio 4321)) ∷ mtick 10000 room ∷ whole 10010 room ∷ lost ∷ act clears_queue ∷ mtick 12000 room ∷
      whole 12010 room ∷ whole 12020 room ∷ mtick 22000 room ∷ whole 22010 room ∷ whole 22020 room ∷ [];
  history =
      answered next_poll next_approved 1 ∷ over next_poll ∷ handled next_poll next_approved ∷ sent next_poll ∷
      answered poll radio_data 2 ∷ over poll ∷ again poll ∷ over poll ∷ handled poll radio_data ∷ sent poll ∷ [];
}

-- The key in position Operation on line 3: T0 is 10,000 until A answers t with X, and 20,000 from then on.
abbrev pub in_operation : Run
in_operation = record {
  line = 3;
  from = 0;
  events =
      act (turns (code "X")) ∷ mtick 9999 room ∷ mtick 10000 room ∷ whole 10010 room ∷ whole 10020 room ∷ mtick 29999 room ∷ mtick 30000 room ∷
      whole 30010 room ∷ whole 30020 room ∷ [];
  history =
      answered next_poll (telegram "08A1AX8D") 1 ∷ over next_poll ∷ handled next_poll (telegram "08A1AX8D") ∷ sent next_poll ∷
      answered poll (telegram "08A0AX8E") 1 ∷ over poll ∷ handled poll (telegram "08A0AX8E") ∷ sent poll ∷ [];
}

-- The poll of line 2, r for 5 every 5,000: the answer to the first is lost, and the second sending gets the stored one.
abbrev pub stop_request : Tel (List ℕ)
stop_request = (0, telegram "08r0B57F")

abbrev pub next_stop_request : Tel (List ℕ)
next_stop_request = (1, telegram "08r1B57E")

abbrev pub stop_asked : Run
stop_asked = record {
  line = 2;
  from = 0;
  events =
      act (sets (Stop (code "-"))) ∷ mtick 4999 room ∷ mtick 5000 room ∷ whole 5010 room ∷ lost ∷ mtick 7000 room ∷ whole 7010 room ∷ whole 7020 room ∷
      mtick 11999 room ∷ mtick 12000 room ∷ whole 12010 room ∷ whole 12020 room ∷ [];
  history =
      answered next_stop_request (telegram "0851U-B0") 1 ∷ over next_stop_request ∷ handled next_stop_request (telegram "0851U-B0") ∷ sent next_stop_request ∷
      answered stop_request (telegram "0850U-B1") 2 ∷ over stop_request ∷ again stop_request ∷ over stop_request ∷
      handled stop_request (telegram "0850U-B1") ∷ sent stop_request ∷ [];
}

-- Through the clock's zero on line 1: the answer to a poll is lost, and T2 and T0 run out behind zero, at 2,000 and 20,000 and not before.
abbrev pub request : Tel (List ℕ)
request = (0, telegram "08r0BB72")

abbrev pub next_request : Tel (List ℕ)
next_request = (1, telegram "08r1BB71")

abbrev pub through_zero : Run
through_zero = record {
  line = 1;
  from = 4294946500;
  events =
      act (sets (TrainData 125 90 120 88)) ∷ mtick 4294966500 room ∷ whole 4294966510 room ∷ lost ∷ mtick 1203 room ∷ mtick 1204 room ∷
      whole 1214 room ∷ whole 1224 room ∷ mtick 21203 room ∷ mtick 21204 room ∷ whole 21214 room ∷ whole 21224 room ∷ [];
  history =
      answered next_request (telegram "21B1L125%090H120R88EB") 1 ∷ over next_request ∷ handled next_request (telegram "21B1L125%090H120R88EB") ∷
      sent next_request ∷ answered request (telegram "21B0L125%090H120R88EC") 2 ∷ over request ∷ again request ∷ over request ∷
      handled request (telegram "21B0L125%090H120R88EC") ∷ sent request ∷ [];
}

-- Answered but not handled: the answer is lost, then two more sendings, and the master gives up; the next telegram has number 0 again, is
-- taken for a repeat, and gets the stored answer.
abbrev pub place : Tel (List ℕ)
place = (1, telegram "11F0P12340E")

abbrev pub stale : Run
stale = record {
  line = 2;
  from = 0;
  events =
      offer 0 (Idling (code "t")) room ∷ whole 10 room ∷ lost ∷ mtick 2000 room ∷ lost ∷ mtick 4000 room ∷ lost ∷ mtick 6000 room ∷
      offer 6001 (Position 1234) room ∷ whole 6010 room ∷ whole 6020 room ∷ [];
  history =
      answered place approved 1 ∷ over place ∷ sent place ∷ gave_up poll 3 ∷ over poll ∷ again poll ∷ over poll ∷ again poll ∷ over poll ∷
      handled poll approved ∷ sent poll ∷ [];
}

-- Refused calls: an offer without room and one while the master waits do nothing, and a call under 66 bytes of room hears nothing, so that
-- the sending and the answer are lost.
abbrev pub cramped : Run
cramped = record {
  line = 2;
  from = 0;
  events =
      offer 0 (Idling (code "t")) [] ∷ offer 0 (Idling (code "t")) room ∷ offer 5 (Idling (code "t")) room ∷ whole 10 (replicate 65 0) ∷
      mtick 2000 room ∷ whole 2010 room ∷ whole 2020 (replicate 65 0) ∷ whole 2030 room ∷ [];
  history = over poll ∷ handled poll approved ∷ again poll ∷ over poll ∷ sent poll ∷ [];
}

-- What the line does not bring: bytes that were not sent and pass checks 1 to 7, and a sending still on the line when the master gives up.
abbrev pub withheld : Run
withheld = record {
  line = 2;
  from = 0;
  events =
      offer 0 (Idling (code "t")) room ∷ spoilt 10 (telegram "11F0P12340E") room ∷ lost ∷ mtick 2000 room ∷ lost ∷ mtick 4000 room ∷
      mtick 6000 room ∷ whole 6010 room ∷ [];
  history = gave_up poll 3 ∷ again poll ∷ over poll ∷ again poll ∷ over poll ∷ sent poll ∷ [];
}

-- Handled twice: the call that hears the second sending notes the lost line first. A supposition that allows the note in the hearing call
-- itself is too weak.
abbrev pub twice : Run
twice = record {
  line = 2;
  from = 0;
  events = offer 0 (Idling (code "t")) room ∷ whole 10 room ∷ lost ∷ mtick 28005 room ∷ whole 28010 room ∷ [];
  history = over poll ∷ handled poll approved ∷ noted ∷ again poll ∷ over poll ∷ handled poll approved ∷ sent poll ∷ [];
}

-- Handled twice: the lost line is noted while no sending is under way, and then the master sends again. A supposition that looks only at
-- the sendings made so far is too weak.
abbrev pub later : Run
later = record {
  line = 2;
  from = 0;
  events = offer 0 (Idling (code "t")) room ∷ whole 10 room ∷ lost ∷ dtick 28010 ∷ mtick 28020 room ∷ whole 28030 room ∷ [];
  history = over poll ∷ handled poll approved ∷ again poll ∷ noted ∷ over poll ∷ handled poll approved ∷ sent poll ∷ [];
}

-- runs in which the supposition and the promise hold, and runs in which they fail
abbrev pub kept_runs : List Run
kept_runs = usual ∷ polled ∷ cleared ∷ in_operation ∷ stop_asked ∷ through_zero ∷ stale ∷ cramped ∷ withheld ∷ []

abbrev pub broken_runs : List Run
broken_runs = twice ∷ later ∷ []

-- what happens in each
abbrev pub Runs : Type 0
Runs = All Happens kept_runs × All Happens broken_runs

-- Each is a run of the demand's line, but for `withheld`.
abbrev pub AllowedRuns : Type 0
AllowedRuns = All Allowed (usual ∷ polled ∷ cleared ∷ in_operation ∷ stop_asked ∷ through_zero ∷ stale ∷ cramped ∷ broken_runs) × (Allowed withheld → ⊥)
