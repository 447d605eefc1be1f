-- Runs on a live line at the limits of ticks and arrivals, and one millisecond past each: the limits are exact (rules J15, J16). Assumes nothing.
use Rattle.std.specs.Prelude.{◌≡◌, List, [], ◌∷◌, ℕ, ◌+◌}
use Prim.Native.Char.{code}
use Rattle.records.specs.declared.records.Record.TheVariants.{Idling}
use Rattle.conduct.specs.Times.{clock_after}
use Rattle.master.specs.Sending.{t2_limit}
use Rattle.protocol.specs.History.{sent, again, noted, handled, over, answered, gave_up}
use Rattle.protocol.specs.Ends.{offer, mtick, lost, whole}
use Rattle.demand3.specs.Runs.{History, room, poll, approved}
use Rattle.demand3.specs.Live.{Clocks, Timed, Live, Quick, Ticked, history, tick_limit, wide_tick_limit}

-- the master's clock passes zero 20,000 after the true time 0, and the desk's reads something else
abbrev clocks : Clocks
clocks = record { master = 4294947296; desk = 1000000 }

-- events on line 2 at their true times: the master is offered t, or ticks; the desk hears, or the master does; what is on the line is lost
abbrev offered : ℕ → Timed 2
offered at = (at, offer (clock_after clocks.master at) (Idling (code "t")) room)

abbrev tick : ℕ → Timed 2
tick at = (at, mtick (clock_after clocks.master at) room)

abbrev desk_hears : ℕ → Timed 2
desk_hears at = (at, whole (clock_after clocks.desk at) room)

abbrev master_hears : ℕ → Timed 2
master_hears at = (at, whole (clock_after clocks.master at) room)

abbrev loses : ℕ → Timed 2
loses at = (at, lost)

-- on a live line these events make this history
abbrev Makes : List (Timed 2) → History → Type 0
Makes es h = Live 2 clocks 0 es × (history 2 clocks 0 es ≡ h)

abbrev QuickIn : ℕ → List (Timed 2) → Type 0
QuickIn quick es = Quick 2 clocks quick 0 es

abbrev TickedIn : ℕ → List (Timed 2) → Type 0
TickedIn gap es = Ticked 2 clocks gap 0 es

-- Handled at 0, its answer and the second sending lost; the third finds the line good, at the last millisecond of T1 and of its own T2.
abbrev at_bound : List (Timed 2)
at_bound =
    offered 0 ∷ desk_hears 0 ∷ loses 0 ∷ tick 1999 ∷ tick 13000 ∷ loses 13000 ∷ tick 14999 ∷ tick 26000 ∷ desk_hears 27999 ∷ master_hears 27999 ∷ []

abbrev pub at_bound_history : History
at_bound_history =
    answered poll approved 3 ∷ over poll ∷ again poll ∷ over poll ∷ again poll ∷ over poll ∷ handled poll approved ∷ sent poll ∷ []

-- Each tick one millisecond later: the third is handled a second time.
abbrev ticks_later : List (Timed 2)
ticks_later = offered 0 ∷ desk_hears 0 ∷ loses 0 ∷ tick 1999 ∷ tick 13001 ∷ loses 13001 ∷ tick 15000 ∷ tick 26002 ∷ desk_hears 28000 ∷ []

-- The third sending arrives one millisecond later: the same.
abbrev arrives_later : List (Timed 2)
arrives_later = offered 0 ∷ desk_hears 0 ∷ loses 0 ∷ tick 1999 ∷ tick 13000 ∷ loses 13000 ∷ tick 14999 ∷ tick 26000 ∷ desk_hears 28000 ∷ []

abbrev pub past_bound_history : History
past_bound_history =
    over poll ∷ handled poll approved ∷ noted ∷ again poll ∷ over poll ∷ again poll ∷ over poll ∷ handled poll approved ∷ sent poll ∷ []

-- Where a sending may arrive when T2 has run out: the third finds the line good, and is then given up.
abbrev at_wide_bound : List (Timed 2)
at_wide_bound =
    offered 0 ∷ desk_hears 0 ∷ loses 0 ∷ tick 1999 ∷ tick 9333 ∷ loses 9333 ∷ tick 11332 ∷ tick 18666 ∷ tick 20665 ∷ desk_hears 27999 ∷ tick 27999 ∷ []

abbrev pub at_wide_bound_history : History
at_wide_bound_history =
    gave_up poll 3 ∷ over poll ∷ again poll ∷ over poll ∷ again poll ∷ over poll ∷ handled poll approved ∷ sent poll ∷ []

-- Each tick one millisecond later.
abbrev wide_ticks_later : List (Timed 2)
wide_ticks_later =
    offered 0 ∷ desk_hears 0 ∷ loses 0 ∷ tick 1999 ∷ tick 9334 ∷ loses 9334 ∷ tick 11333 ∷ tick 18668 ∷ tick 20667 ∷ desk_hears 28000 ∷ []

-- at the limits,
abbrev pub AtBounds : Type 0
AtBounds =
    Makes at_bound at_bound_history × QuickIn t2_limit at_bound × TickedIn tick_limit at_bound × Makes at_wide_bound at_wide_bound_history × TickedIn wide_tick_limit at_wide_bound

-- and past them
abbrev pub PastBounds : Type 0
PastBounds =
    Makes ticks_later past_bound_history × QuickIn t2_limit ticks_later × TickedIn (tick_limit + 1) ticks_later
    × Makes arrives_later past_bound_history × QuickIn (t2_limit + 1) arrives_later × TickedIn tick_limit arrives_later
    × Makes wide_ticks_later past_bound_history × TickedIn (wide_tick_limit + 1) wide_ticks_later
