-- Runs of our two ends outside of what the demand supposes, and what happens in them: things that arrive late, ends that restart, and a spoiled
-- sending that passes checks 1 to 7 (rules J3, J9). Assumes nothing.
use Rattle.std.specs.Prelude.{◌≡◌, List, [], ◌∷◌, ℕ, T as So}
use Prim.Native.Char.{code}
use Rattle.laws.specs.Truth.{All}
use Rattle.records.specs.declared.records.Record.TheVariants.{Idling, Position}
use Rattle.protocol.specs.History.{Tel, sent, again, handled, over, answered}
use Rattle.protocol.specs.Ends.{Sys, Ev, run, start, happened, mdo, ddo, sys, offer, mtick, lost, whole, spoilt, empty}
use Rattle.demand3.specs.Ours.{ours}
use Rattle.demand3.specs.Allowed.{allowed}
use Rattle.demand3.specs.Runs.{History, room, telegram, poll, place, approved, next_approved}

-- a run on line 2 from the start at 0
abbrev ran_on2 : List (Ev (ours 2)) → Sys (ours 2)
ran_on2 es = run (start (ours 2) 0 []) es

abbrev on2 : Sys (ours 2) → History
on2 s = happened {E = ours 2} s

-- No event does what follows, so it is done to the state behind a run: the desk hears these bytes for a sending of y,
abbrev desk_hears : ℕ → Tel (List ℕ) → List ℕ → Sys (ours 2) → Sys (ours 2)
desk_hears at y bytes (sys m d w x h) = ddo ((ours 2).dhear d at bytes room) m y h

-- the master hears this answer,
abbrev master_hears : ℕ → List ℕ → Sys (ours 2) → Sys (ours 2)
master_hears at answer (sys m d w x h) = mdo ((ours 2).mhear m at answer room) d empty x h

-- an end restarts
abbrev desk_restarts : Sys (ours 2) → Sys (ours 2)
desk_restarts (sys m d w x h) = sys m (ours 2).dstart w x h

abbrev master_restarts : ℕ → Sys (ours 2) → Sys (ours 2)
master_restarts at (sys m d w x h) = sys ((ours 2).mstart at) d w x h

abbrev pub next_place : Tel (List ℕ)
next_place = (1, telegram "11F1P12340D")

abbrev pub last_place : Tel (List ℕ)
last_place = (2, telegram "11F0P43210E")

-- A first sending, kept back until the next telegram was handled, would be handled again, out of order.
abbrev late_sending : History
late_sending =
    on2 (desk_hears 2050 poll poll.1 (ran_on2 (offer 0 (Idling (code "t")) room ∷ mtick 2000 room ∷ whole 2010 room ∷ whole 2020 room ∷
    offer 2030 (Position 1234) room ∷ whole 2040 room ∷ [])))

abbrev pub late_sending_history : History
late_sending_history =
    over poll ∷ handled poll approved ∷ over next_place ∷ handled next_place next_approved ∷ sent next_place ∷ answered poll approved 2 ∷ over poll ∷
    handled poll approved ∷ again poll ∷ sent poll ∷ []

-- An answer, kept back until the next telegram with its number was sent, would be taken for the answer to that one, which was not handled.
abbrev late_answer : History
late_answer =
    on2 (master_hears 2070 approved (ran_on2 (offer 0 (Idling (code "t")) room ∷ whole 10 room ∷ mtick 2000 room ∷ whole 2010 room ∷ whole 2020 room ∷
    offer 2030 (Position 1234) room ∷ whole 2040 room ∷ whole 2050 room ∷ offer 2060 (Position 4321) room ∷ [])))

abbrev pub late_answer_history : History
late_answer_history =
    answered last_place approved 1 ∷ sent last_place ∷ answered next_place next_approved 1 ∷ over next_place ∷ handled next_place next_approved ∷ sent next_place ∷
    answered poll approved 2 ∷ over poll ∷ again poll ∷ over poll ∷ handled poll approved ∷ sent poll ∷ []

-- The answer is lost and the desk restarts: it no longer knows the number, and handles the next sending of the same telegram.
abbrev desk_restart : History
desk_restart =
    on2 (run (desk_restarts (ran_on2 (offer 0 (Idling (code "t")) room ∷ whole 10 room ∷ lost ∷ []))) (mtick 2000 room ∷ whole 2010 room ∷ whole 2020 room ∷ []))

abbrev pub desk_restart_history : History
desk_restart_history =
    answered poll approved 2 ∷ over poll ∷ handled poll approved ∷ again poll ∷ over poll ∷ handled poll approved ∷ sent poll ∷ []

-- A telegram is answered and the master restarts: its number is 0 again, the desk takes the next telegram for a repeat, and the stored answer
-- is taken for that one's. No telegram was given up.
abbrev master_restart : History
master_restart =
    on2 (run (master_restarts 30 (ran_on2 (offer 0 (Idling (code "t")) room ∷ whole 10 room ∷ whole 20 room ∷ [])))
    (offer 40 (Position 1234) room ∷ whole 50 room ∷ whole 60 room ∷ []))

abbrev pub master_restart_history : History
master_restart_history =
    answered place approved 1 ∷ over place ∷ sent place ∷ answered poll approved 1 ∷ over poll ∷ handled poll approved ∷ sent poll ∷ []

-- P1234 is spoiled to P2134, two bits in each of two bytes: no parity bit, count or checksum tells. The desk handles what was not sent, and
-- the master reports its own telegram answered.
abbrev pub first_place : Tel (List ℕ)
first_place = (0, telegram "11F0P12340E")

abbrev pub spoilt_place : Tel (List ℕ)
spoilt_place = (0, telegram "11F0P21340E")

abbrev spoilt_passes : History
spoilt_passes = on2 (run (desk_hears 10 first_place spoilt_place.1 (ran_on2 (offer 0 (Position 1234) room ∷ []))) (whole 20 room ∷ []))

abbrev pub spoilt_passes_history : History
spoilt_passes_history = answered first_place approved 1 ∷ over first_place ∷ handled spoilt_place approved ∷ sent first_place ∷ []

-- what happens in each
abbrev pub OutsideRuns : Type 0
OutsideRuns =
    (late_sending ≡ late_sending_history) × (late_answer ≡ late_answer_history) × (desk_restart ≡ desk_restart_history) × (master_restart ≡ master_restart_history)
    × (spoilt_passes ≡ spoilt_passes_history)

-- A sending that arrives at the last millisecond before T2 runs out is allowed.
abbrev in_time : List (Ev (ours 2))
in_time = offer 0 (Idling (code "t")) room ∷ whole 1999 room ∷ []

-- None of these is: it arrives as T2 runs out; it arrives as other bytes that pass the checks; the next is sent while it is on the line; the
-- time goes back.
abbrev unallowed : List (List (Ev (ours 2)))
unallowed =
    (offer 0 (Idling (code "t")) room ∷ whole 2000 room ∷ []) ∷ (offer 0 (Position 1234) room ∷ spoilt 10 spoilt_place.1 room ∷ []) ∷
    (offer 0 (Idling (code "t")) room ∷ mtick 2000 room ∷ []) ∷ (offer 10 (Idling (code "t")) room ∷ whole 9 room ∷ []) ∷ []

abbrev AllowedOn2 : List (Ev (ours 2)) → Type 0
AllowedOn2 es = So (allowed 2 0 (start (ours 2) 0 []) es)

abbrev pub NotAllowed : Type 0
NotAllowed = AllowedOn2 in_time × All (λ es. AllowedOn2 es → ⊥) unallowed
