-- What a handled frame leaves: all but what the rules change is as it was (rules D8, D10, D11). Assumes nothing.
use Rattle.std.specs.Prelude.{◌≡◌, true, List, ℕ, ◌≤◌, length}
use Rattle.characters.specs.Marks.{longest}
use Rattle.records.specs.declared.records.Record.{Record}
use Rattle.desk.specs.Replying.{Origin}
use Rattle.desk.specs.Replying as o
use Rattle.desk.specs.Hearing.{hear_of}
use Rattle.desk.specs.declared.state.Desk.{Desk}
use Rattle.conduct.specs.Desk.Calls.{Fine}
use Rattle.conduct.specs.Desk.Polls.{Same}
use Rattle.conduct.specs.Desk.Handled.{ReplyRow, New}

-- line good, the number kept as last taken, T1 restarted; the record set for r, the key position and the queue as they were, but for
-- an answer from the queue
pub record Afterwards (d e : Desk) (at n : ℕ) (origin : Origin) : Type 0 where
  pub good : e.good ≡ true
  pub last : e.last.0 ≡ n
  pub timer : e.t1 ≡ at
  pub set : e.requested ≡ d.requested
  pub turned : e.key ≡ d.key
  pub waiting : ¬ (origin ≡ o.queue) → Same d e

-- a frame of a row that is no repeat leaves this
abbrev pub RowLeaves : Type 0
RowLeaves =
    (d : Desk) → Fine d → (at : ℕ) (frame out : List ℕ) → longest ≤ length out → (n : ℕ) (rec : Record) (origin : Origin) → ReplyRow d frame n rec origin → New d at n
    → Afterwards d (hear_of d at frame out).0 at n origin

-- whatever is heard, in any state, the record set for r stays set
abbrev pub SetStays : Type 0
SetStays = (d : Desk) (at : ℕ) (frame out : List ℕ) → (hear_of d at frame out).0.requested ≡ d.requested
