-- When the master's next tick does something: earlier ticks do nothing, and that one does it (rules M19, K6). Assumes nothing.
use Rattle.std.specs.Prelude.{◌≡◌, true, false, List, [], ◌∷◌, map, ℕ, ◌^◌, ◌≤◌, ◌<◌, length}
use Rattle.laws.specs.Truth.{All}
use Rattle.characters.specs.Marks.{longest}
use Rattle.records.specs.Refusals.{No}
use Rattle.clock.specs.Due.{after, never}
use Rattle.clock.specs.Due as w
use Rattle.master.specs.Rules.{poll_of}
use Rattle.master.specs.Answers.{Told, nothing, silence, poll}
use Rattle.master.specs.Answers as t
use Rattle.master.specs.State.{is_free}
use Rattle.master.specs.Sending.{sending_of, failed_of, tick_of}
use Rattle.master.specs.Due.{due_of}
use Rattle.master.specs.declared.state.Master.{Master}
use Rattle.conduct.specs.Times.{clock_after}
use Rattle.conduct.specs.Master.Calls.{Call, ticks, output_of, run}
use Rattle.conduct.specs.Master.Calls as c

-- now, and the starts of T0 and T2, are readings of the clock
pub record Read (m : Master) (at : ℕ) : Type 0 where
  pub present : at < 2 ^ 32
  pub polling : m.t0 < 2 ^ 32
  pub waiting : m.t2 < 2 ^ 32

-- something is always due
abbrev pub AlwaysDue : Type 0
AlwaysDue = (m : Master) (at : ℕ) → ¬ (due_of m at ≡ never)

-- a tick before what is due changes nothing and sends nothing
abbrev pub EarlierRests : Type 0
EarlierRests =
    (m : Master) (at n : ℕ) → Read m at → due_of m at ≡ after n → (out : List ℕ) → longest ≤ length out → (ms : ℕ) → ms < n
    → tick_of m (clock_after at ms) out ≡ (m, (nothing, out))

-- while free, the tick that is due sends the poll
abbrev pub DuePolls : Type 0
DuePolls =
    (m : Master) (at n : ℕ) → Read m at → due_of m at ≡ after n → (out : List ℕ) → longest ≤ length out → is_free m ≡ true
    → tick_of m (clock_after at n) out ≡ sending_of poll m (poll_of m.line) 1 (clock_after at n) out

-- while not free it takes the sending for failed: it sends again, or gives up and notes the line lost
abbrev pub DueFails : Type 0
DueFails =
    (m : Master) (at n : ℕ) → Read m at → due_of m at ≡ after n → (out : List ℕ) → longest ≤ length out → is_free m ≡ false
    → tick_of m (clock_after at n) out ≡ failed_of silence false m (clock_after at n) out

-- a refusal is that of each tick
abbrev pub RefusedAlike : Type 0
RefusedAlike = (m : Master) (at : ℕ) (x : No) → due_of m at ≡ w.refused x → (later : ℕ) (out : List ℕ) → tick_of m later out ≡ (m, (t.refused x, out))

-- what calls answer, and the output behind each
abbrev pub answers : Master → List Call → List (Told × List ℕ)
answers m [] = []
answers m (call ∷ calls) = (c.after m call).1 ∷ answers (c.after m call).0 calls

-- calls that leave the state as it was, say so and write nothing
abbrev pub Rest : Master → List Call → Type 0
Rest m calls = (run m calls ≡ m) × (answers m calls ≡ map (λ (call : Call). (nothing, output_of call)) calls)

-- a tick, so long from now on, with an output
abbrev pub Tick : Type 0
Tick = ℕ × List ℕ

-- so many ticks before what is due, in any order, do nothing
abbrev pub EarlierRest : Type 0
EarlierRest =
    (m : Master) (at n : ℕ) → Read m at → due_of m at ≡ after n → (given : List Tick) → All (λ (x : Tick). (x.0 < n) × (longest ≤ length x.1)) given
    → Rest m (map (λ (x : Tick). ticks (clock_after at x.0) x.1) given)
