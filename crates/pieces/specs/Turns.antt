-- Work on an input of any length, a turn at a time (rules P5, Q14). Assumes nothing.
use Rattle.std.specs.Prelude.{ℕ, ◌-◌, Bool, cond, List, ltb, leb, length}
use Rattle.laws.specs.Truth.{both, either}
use Rattle.records.specs.Refusals.{no}
use Rattle.records.specs.Answers.{Fault, good, fails, Outcome, refused}
use Rattle.pieces.specs.declared.wants.Wants.{Wants}

-- the state behind a turn, its answer, the buffer and the output
abbrev pub Turned : Type 0 → Type 0
Turned S = S × (Outcome × (List ℕ × List ℕ))

-- where only the output changes
abbrev pub beside : {S : Type 0} → List ℕ → S × (Outcome × List ℕ) → Turned S
beside buf t = (t.0, (t.1.0, (buf, t.1.1)))

-- a work, by its states: whether a state is in its ranges, how many bytes it holds in front of the buffer, and what it wants next; what a turn does, with so
-- many bytes got behind those held; the shortest buffer and the shortest output of a turn
pub record Work (S : Type 0) : Type 0 where
  pub fits : S → Bool
  pub held : S → ℕ
  pub wants : S → Wants
  pub does : S → List ℕ → ℕ → List ℕ → Turned S
  pub buffer : ℕ
  pub output : ℕ

-- what refuses a turn, given the lengths of its buffer, of what was got and of its output: 15 where the state is out of its ranges, or the bytes held and got
-- are not in the buffer; then 14 where the output or the buffer is too short
unfoldable pub room_fault : Bool → ℕ → ℕ → ℕ → ℕ → ℕ → ℕ → Fault
room_fault fits held buffer output len got room =
    cond (both fits (both (leb held len) (leb got (len - held)))) (cond (either (ltb room output) (ltb len buffer)) (fails (no 14 0)) good) (fails (no 15 0))

abbrev pub fault_by : {S : Type 0} → Work S → S → ℕ → ℕ → ℕ → Fault
fault_by w m len got room = room_fault (w.fits m) (w.held m) w.buffer w.output len got room

-- a refused turn changes nothing
abbrev pub unless_refused : {S : Type 0} → Fault → S → List ℕ → List ℕ → Turned S → Turned S
unless_refused good m buf out turned = turned
unless_refused (fails x) m buf out turned = (m, (refused x, (buf, out)))

-- a turn: got bytes were read behind those held, and text is put from the front of the output
unfoldable pub turn_by : {S : Type 0} → Work S → S → List ℕ → ℕ → List ℕ → Turned S
turn_by w m buf got out = unless_refused (fault_by w m (length buf) got (length out)) m buf out (w.does m buf got out)
