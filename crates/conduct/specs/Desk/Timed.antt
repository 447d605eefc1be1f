-- Under 28,000 milliseconds after T1's start the line stays good, from there on it is lost: in every state and at every reading of the
-- clock (rules D4, K4). Assumes nothing.
use Rattle.std.specs.Prelude.{◌≡◌, true, false, List, ℕ, ◌^◌, ◌≤◌, ◌<◌}
use Rattle.records.specs.declared.records.Record.{Record}
use Rattle.records.specs.Answers.{accepted}
use Rattle.reading.specs.Reading.{reading_of}
use Rattle.desk.specs.Deciding.{repeat, handle, matter_in}
use Rattle.desk.specs.Answers.{done, lost}
use Rattle.desk.specs.Panel.{with_good, tick_of}
use Rattle.desk.specs.Hearing.{ruling}
use Rattle.desk.specs.declared.state.Desk.{Desk}
use Rattle.conduct.specs.Times.{clock_after}
use Rattle.conduct.specs.Desk.Calls.{Fine, noted}

-- on a good line a tick so long after T1's start changes nothing
abbrev pub TickKeeps : ℕ → Type 0
TickKeeps ms = (d : Desk) → Fine d → d.good ≡ true → d.t1 < 2 ^ 32 → tick_of d (clock_after d.t1 ms) ≡ (d, done)

-- or it notes the line lost, and changes nothing else
abbrev pub TickLoses : ℕ → Type 0
TickLoses ms = (d : Desk) → Fine d → d.good ≡ true → d.t1 < 2 ^ 32 → tick_of d (clock_after d.t1 ms) ≡ (with_good d false, lost)

-- a telegram with the last number taken, heard so long after it, is a repeat
abbrev pub HearRepeats : ℕ → Type 0
HearRepeats ms =
    (d : Desk) → Fine d → d.good ≡ true → d.t1 < 2 ^ 32 → (frame : List ℕ) (rec : Record) → reading_of d.line frame ≡ accepted rec d.last.0
    → ruling (noted d (clock_after d.t1 ms)) frame ≡ repeat d.last.0 (matter_in d.line rec)

-- or it is handled anew
abbrev pub HearHandles : ℕ → Type 0
HearHandles ms =
    (d : Desk) → Fine d → d.good ≡ true → d.t1 < 2 ^ 32 → (frame : List ℕ) (rec : Record) → reading_of d.line frame ≡ accepted rec d.last.0
    → ruling (noted d (clock_after d.t1 ms)) frame ≡ handle d.last.0 (matter_in d.line rec)

-- before T1 has run out
abbrev pub TicksBeforeT1 : Type 0
TicksBeforeT1 = (ms : ℕ) → ms < 28000 → TickKeeps ms

abbrev pub HearsBeforeT1 : Type 0
HearsBeforeT1 = (ms : ℕ) → ms < 28000 → HearRepeats ms

-- from then on
abbrev pub TicksFromT1 : Type 0
TicksFromT1 = (ms : ℕ) → 28000 ≤ ms → ms < 2 ^ 32 → TickLoses ms

abbrev pub HearsFromT1 : Type 0
HearsFromT1 = (ms : ℕ) → 28000 ≤ ms → ms < 2 ^ 32 → HearHandles ms

-- a tick on a lost line changes nothing, at any time
abbrev pub TicksLost : Type 0
TicksLost = (d : Desk) → Fine d → d.good ≡ false → (at : ℕ) → tick_of d at ≡ (d, done)

-- the bench cases
abbrev pub TicksAt27999 : Type 0
TicksAt27999 = TickKeeps 27999

abbrev pub TicksAt28000 : Type 0
TicksAt28000 = TickLoses 28000

abbrev pub HearsAt27999 : Type 0
HearsAt27999 = HearRepeats 27999

abbrev pub HearsAt28000 : Type 0
HearsAt28000 = HearHandles 28000
