-- What clearing leaves: nothing waits, or nothing is set, and all else is as it was; a repeat is answered with the same bytes
-- (rules D17, D18, D7). Assumes nothing.
use Rattle.std.specs.Prelude.{◌≡◌, List, [], ℕ, ◌≤◌, length, None}
use Rattle.characters.specs.Marks.{longest}
use Rattle.desk.specs.Answers.{Done, done}
use Rattle.desk.specs.Deciding.{What, repeat}
use Rattle.desk.specs.Clearing.{clear_queue_of, clear_set_of}
use Rattle.desk.specs.Hearing.{Hearing, ruling, hear_of}
use Rattle.desk.specs.declared.state.Desk.{Desk}
use Rattle.conduct.specs.Desk.Calls.{Fine, noted}
use Rattle.conduct.specs.Desk.Polls.{waiting, Same}

-- line, last number, T1, stored answer and key position are as they were
pub record Stays (d e : Desk) : Type 0 where
  pub line : e.line ≡ d.line
  pub good : e.good ≡ d.good
  pub last : e.last ≡ d.last
  pub timer : e.t1 ≡ d.t1
  pub kept : e.kept ≡ d.kept
  pub stored : e.stored ≡ d.stored
  pub turned : e.key ≡ d.key

-- behind a clearing of the queue none waits, and the record set for r is as it was
abbrev pub QueueCleared : Type 0
QueueCleared =
    (d : Desk) → Fine d
    → ((clear_queue_of d).1 ≡ done) × (waiting (clear_queue_of d).0 ≡ []) × ((clear_queue_of d).0.requested ≡ d.requested) × Stays d (clear_queue_of d).0

-- behind a clearing of the record set for r none is set, and the queue is as it was
abbrev pub SetCleared : Type 0
SetCleared = (d : Desk) → Fine d → ((clear_set_of d).1 ≡ done) × ((clear_set_of d).0.requested ≡ None) × Same d (clear_set_of d).0 × Stays d (clear_set_of d).0

-- what is told of a hearing, and its output, are those of another
abbrev pub Alike : Hearing → Hearing → Type 0
Alike a b = (a.1 ≡ b.1) × (a.2 ≡ b.2)

-- a frame that repeats the last telegram is answered behind a clearing as it was before
abbrev pub RepeatsOn : (Desk → Desk × Done) → Type 0
RepeatsOn clear =
    (d : Desk) → Fine d → (at : ℕ) (frame out : List ℕ) → longest ≤ length out → (n : ℕ) (what : What) → ruling (noted d at) frame ≡ repeat n what
    → Alike (hear_of (clear d).0 at frame out) (hear_of d at frame out)

abbrev pub RepeatsQueueCleared : Type 0
RepeatsQueueCleared = RepeatsOn clear_queue_of

abbrev pub RepeatsSetCleared : Type 0
RepeatsSetCleared = RepeatsOn clear_set_of
