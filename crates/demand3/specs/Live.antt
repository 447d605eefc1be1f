-- A live line: one true time that never goes back, two clocks that run as fast as it, a line that is quick, and a master that is ticked often
-- enough. There the supposition of demand 3 holds by itself (rules J12 to J16). Assumes nothing.
use Rattle.std.specs.Prelude.{◌≡◌, Bool, true, false, not, cond, List, [], ◌∷◌, map, ℕ, ◌+◌, ◌*◌, ◌^◌, ◌≤◌, ◌<◌, T as So, leb, ltb, eqb, length}
use Rattle.laws.specs.Truth.{both, either, implies}
use Rattle.characters.specs.Marks.{longest}
use Rattle.forms.specs.Lines.{is_line}
use Rattle.conduct.specs.Times.{clock_after}
use Rattle.master.specs.Sending.{t2_limit}
use Rattle.desk.specs.Panel.{t1_limit}
use Rattle.protocol.specs.History.{Hist, all_sendings, unended}
use Rattle.protocol.specs.Demand.{NoLostInside, Promise}
use Rattle.protocol.specs.Ends.{Line, Ev, Sys, empty, there, back, sys, step, start, ran, happened, offer, mtick, dtick, act, lost, whole, spoilt}
use Rattle.demand3.specs.Ours.{ours}

-- what the two clocks read at the true time 0; both run as fast as it, and start again at zero after 2^32
pub record Clocks : Type 0 where
  pub master : ℕ
  pub desk : ℕ

module _ {F : Type 0} where
  -- something is on the line
  abbrev pub holds : Line F → Bool
  holds empty = false
  holds (there f) = true
  holds (back f) = true

  -- the desk hears what is on the line, or the master does
  abbrev pub to_desk : Line F → Bool
  to_desk empty = false
  to_desk (there f) = true
  to_desk (back f) = false

  abbrev pub to_master : Line F → Bool
  to_master empty = false
  to_master (there f) = false
  to_master (back f) = true

-- an event with its true time
abbrev pub Timed : ℕ → Type 0
Timed line = ℕ × Ev (ours line)

module _ (line : ℕ) where
  abbrev pub on_line : Sys (ours line) → Line (List ℕ)
  on_line (sys m d w x h) = w

  -- no true time goes back
  abbrev pub forward : ℕ → List (Timed line) → Bool
  forward now [] = true
  forward now (e ∷ es) = both (leb now e.0) (forward e.0 es)

  -- whether an event made a sending, by the states before and behind it
  abbrev pub sends : Sys (ours line) → Sys (ours line) → Bool
  sends s s' = not (eqb (all_sendings (happened s')) (all_sendings (happened s)))

  -- the true time of the newest sending behind an event
  abbrev pub since_after : ℕ → Timed line → Sys (ours line) → ℕ
  since_after since e s = cond (sends s (step e.1 s)) e.0 since

  -- a test of each event, with the true time of the newest sending and the state before the event
  abbrev pub always : (ℕ → Timed line → Sys (ours line) → Bool) → ℕ → Sys (ours line) → List (Timed line) → Bool
  always test since s [] = true
  always test since s (e ∷ es) = both (test since e s) (always test (since_after since e s) (step e.1 s) es)

  -- a call of the desk carries what the desk's clock reads at its true time,
  abbrev pub desk_reads : Clocks → ℕ → Timed line → Sys (ours line) → Bool
  desk_reads c since (at, offer t o r) s = true
  desk_reads c since (at, mtick t r) s = true
  desk_reads c since (at, dtick t) s = eqb t (clock_after c.desk at)
  desk_reads c since (at, act a) s = true
  desk_reads c since (at, lost) s = true
  desk_reads c since (at, whole t r) s = implies (to_desk (on_line s)) (eqb t (clock_after c.desk at))
  desk_reads c since (at, spoilt t g r) s = implies (to_desk (on_line s)) (eqb t (clock_after c.desk at))

  -- and one of the master what the master's reads
  abbrev pub master_reads : Clocks → ℕ → Timed line → Sys (ours line) → Bool
  master_reads c since (at, offer t o r) s = eqb t (clock_after c.master at)
  master_reads c since (at, mtick t r) s = eqb t (clock_after c.master at)
  master_reads c since (at, dtick t) s = true
  master_reads c since (at, act a) s = true
  master_reads c since (at, lost) s = true
  master_reads c since (at, whole t r) s = implies (to_master (on_line s)) (eqb t (clock_after c.master at))
  master_reads c since (at, spoilt t g r) s = implies (to_master (on_line s)) (eqb t (clock_after c.master at))

  -- less than `quick` after the newest sending, what is on the line is lost or has arrived
  abbrev pub soon : ℕ → ℕ → Timed line → Sys (ours line) → Bool
  soon quick since e s = implies (holds (on_line s)) (ltb e.0 (since + quick))

  -- until a telegram has ended, at most T2 and `late` pass from one sending of it to the next, or to its end
  abbrev pub not_late : ℕ → ℕ → Timed line → Sys (ours line) → Bool
  not_late late since e s = implies (unended (happened s)) (leb e.0 (since + t2_limit + late))

  -- a tick of the master that has room, and so is not refused
  abbrev pub ticks : Ev (ours line) → Bool
  ticks (offer t o r) = false
  ticks (mtick t r) = leb longest (length r)
  ticks (dtick t) = false
  ticks (act a) = false
  ticks lost = false
  ticks (whole t r) = false
  ticks (spoilt t g r) = false

  -- until a telegram has ended, at most `gap` pass from its newest sending, and from each tick after it, to the next tick
  abbrev pub ticked : ℕ → ℕ → Sys (ours line) → List (Timed line) → Bool
  ticked gap last s [] = true
  ticked gap last s (e ∷ es) =
      both (implies (unended (happened s)) (leb e.0 (last + gap)))
      (ticked gap (cond (either (ticks e.1) (sends s (step e.1 s))) e.0 last) (step e.1 s) es)

  -- All this of a run of our two ends from their start at a true time.
  abbrev pub begin : Clocks → ℕ → Sys (ours line)
  begin c from = start (ours line) (clock_after c.master from) []

  abbrev pub Forward : ℕ → List (Timed line) → Type 0
  Forward from es = So (forward from es)

  abbrev pub DeskClock : Clocks → ℕ → List (Timed line) → Type 0
  DeskClock c from es = So (always (desk_reads c) from (begin c from) es)

  abbrev pub MasterClock : Clocks → ℕ → List (Timed line) → Type 0
  MasterClock c from es = So (always (master_reads c) from (begin c from) es)

  abbrev pub Quick : Clocks → ℕ → ℕ → List (Timed line) → Type 0
  Quick c quick from es = So (always (soon quick) from (begin c from) es)

  abbrev pub OnTime : Clocks → ℕ → ℕ → List (Timed line) → Type 0
  OnTime c late from es = So (always (not_late late) from (begin c from) es)

  abbrev pub Ticked : Clocks → ℕ → ℕ → List (Timed line) → Type 0
  Ticked c gap from es = So (ticked gap from (begin c from) es)

  -- one true time and two clocks
  abbrev pub Live : Clocks → ℕ → List (Timed line) → Type 0
  Live c from es = Forward from es × DeskClock c from es × MasterClock c from es

  -- what happened; demand 3 speaks of the events without their true times
  abbrev pub untimed : List (Timed line) → List (Ev (ours line))
  untimed es = map (λ (e : Timed line). e.1) es

  abbrev pub history : Clocks → ℕ → List (Timed line) → Hist (List ℕ) (List ℕ)
  history c from es = ran (ours line) (clock_after c.master from) [] (untimed es)

-- The supposition holds by itself where the third sending, with the two before it as late as may be, is over before T1 can run out. The
-- master's clock may read anything here.
abbrev pub LiveSupposed : Type 0
LiveSupposed =
    (line : ℕ) → is_line line ≡ true → (c : Clocks) (late quick from : ℕ) (es : List (Timed line)) → 2 * (t2_limit + late) + quick ≤ t1_limit
    → Forward line from es → DeskClock line c from es → Quick line c quick from es → OnTime line c late from es → NoLostInside (history line c from es)

-- A master that is ticked at least every late + 1 milliseconds is at most `late` late; a tick without room does not count. The desk's clock may
-- read anything here.
abbrev pub TickedOnTime : Type 0
TickedOnTime =
    (line : ℕ) → is_line line ≡ true → (c : Clocks) (late from : ℕ) (es : List (Timed line)) → t2_limit + late + 1 < 2 ^ 32
    → Forward line from es → MasterClock line c from es → Ticked line c (late + 1) from es → OnTime line c late from es

-- how many milliseconds there may be between two ticks, where each sending is lost or arrives while the master waits on it,
abbrev pub tick_limit : ℕ
tick_limit = 11001

-- and where it may also arrive later, until the next sending or the telegram's end
abbrev pub wide_tick_limit : ℕ
wide_tick_limit = 7334

-- With such ticks supposition and promise hold of every run on a live line, and nothing else is supposed.
abbrev pub LivePromised : Type 0
LivePromised =
    (line : ℕ) → is_line line ≡ true → (c : Clocks) (from : ℕ) (es : List (Timed line))
    → Live line c from es → Quick line c t2_limit from es → Ticked line c tick_limit from es → NoLostInside (history line c from es) × Promise (history line c from es)

abbrev pub WidePromised : Type 0
WidePromised =
    (line : ℕ) → is_line line ≡ true → (c : Clocks) (from : ℕ) (es : List (Timed line))
    → Live line c from es → Ticked line c wide_tick_limit from es → NoLostInside (history line c from es) × Promise (history line c from es)
