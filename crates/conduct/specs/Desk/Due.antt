-- When the desk's next tick does something: earlier ticks do nothing, and that one does it (rules D19, K6). Assumes nothing.
use Rattle.std.specs.Prelude.{◌≡◌, false, List, [], ◌∷◌, map, ℕ, ◌^◌, ◌<◌}
use Rattle.laws.specs.Truth.{All}
use Rattle.records.specs.Refusals.{No}
use Rattle.clock.specs.Due.{after, never}
use Rattle.clock.specs.Due as w
use Rattle.desk.specs.Answers.{done, lost}
use Rattle.desk.specs.Answers as o
use Rattle.desk.specs.Panel.{with_good, tick_of}
use Rattle.desk.specs.Due.{due_of}
use Rattle.desk.specs.declared.state.Desk.{Desk}
use Rattle.conduct.specs.Times.{clock_after}
use Rattle.conduct.specs.Desk.Calls.{Call, ticks, Answered, did, run}
use Rattle.conduct.specs.Desk.Calls as c

-- now, and T1's start, are readings of the clock
pub record Read (d : Desk) (at : ℕ) : Type 0 where
  pub present : at < 2 ^ 32
  pub start : d.t1 < 2 ^ 32

-- a tick before what is due changes nothing
abbrev pub EarlierRests : Type 0
EarlierRests = (d : Desk) (at n : ℕ) → Read d at → due_of d at ≡ after n → (ms : ℕ) → ms < n → tick_of d (clock_after at ms) ≡ (d, done)

-- the tick that is due notes the line lost, and changes nothing else
abbrev pub DueLoses : Type 0
DueLoses = (d : Desk) (at n : ℕ) → Read d at → due_of d at ≡ after n → tick_of d (clock_after at n) ≡ (with_good d false, lost)

-- where none is due, no tick does anything, at any time
abbrev pub NeverRests : Type 0
NeverRests = (d : Desk) (at : ℕ) → due_of d at ≡ never → (later : ℕ) → tick_of d later ≡ (d, done)

-- a refusal is that of each tick
abbrev pub RefusedAlike : Type 0
RefusedAlike = (d : Desk) (at : ℕ) (x : No) → due_of d at ≡ w.refused x → (later : ℕ) → tick_of d later ≡ (d, o.refused x)

-- what calls answer, one after the other
abbrev pub answers : Desk → List Call → List Answered
answers d [] = []
answers d (call ∷ calls) = (c.after d call).1 ∷ answers (c.after d call).0 calls

-- calls that leave the state as it was, and answer that they are done
abbrev pub Rest : Desk → List Call → Type 0
Rest d calls = (run d calls ≡ d) × (answers d calls ≡ map (λ (call : Call). did done) calls)

-- so many ticks before what is due, in any order, do nothing
abbrev pub EarlierRest : Type 0
EarlierRest =
    (d : Desk) (at n : ℕ) → Read d at → due_of d at ≡ after n → (times : List ℕ) → All (λ (ms : ℕ). ms < n) times
    → Rest d (map (λ (ms : ℕ). ticks (clock_after at ms)) times)

-- where none is due, no ticks do anything
abbrev pub NeverRest : Type 0
NeverRest = (d : Desk) (at : ℕ) → due_of d at ≡ never → (times : List ℕ) → Rest d (map ticks times)
