-- What the proof of demand 3 uses of the two ends: the link rules without times, bytes and panel (rules M14, M15, D4, D5, D7, D8). It is no part of the
-- statement; the small definitions in front are shared by what the ends must do and by what the proof lets them do. Assumes nothing.
use Rattle.std.specs.Prelude.{◌≡◌, Bool, true, false, not, ℕ, ◌+◌, T as So}
use Rattle.protocol.specs.Ends.{Did, Said, nothing, first, resent, got, gave, silent, says, handles}

-- answered: the number changes
abbrev pub answered_number : Bool → Bool
answered_number n = not n

-- given up: the number becomes 0
abbrev pub given_up_number : Bool → Bool
given_up_number n = false

-- a good frame with the last number taken is a repeat where the line is good
abbrev pub MayRepeat : Bool → Type 0
MayRepeat good = So good

-- a good frame is handled otherwise
abbrev pub MayHandle : Bool → Bool → Bool → Type 0
MayHandle good last n = So good → last ≡ not n

module _ {F : Type 0} where
  -- a repeat gets the stored answer, not one made anew
  abbrev pub repeated_answer : F → F → F
  repeated_answer stored anew = stored

  -- behind an N with 1 the stored answer is what it was
  abbrev pub stored_behind : F → F → F
  stored_behind stored fault = stored

-- a reading by checks 1 to 7: refused, or a good frame with its number
pub data Reading : Type 0 where
  bad : Reading
  frame : Bool → Reading

-- what is seen of the master: free with its number to send; or not free, with its number, what it sends again and its sending count
pub data MView (F : Type 0) : Type 0 where
  free : Bool → MView F
  waits : Bool → F → ℕ → MView F

-- what is seen of the desk: whether its line is good, its last number taken and its stored answer
pub data DView (F : Type 0) : Type 0 where
  view : Bool → Bool → F → DView F

-- the desk's first rule, with whether a lost line is noted
pub data First {F : Type 0} : DView F → Bool → DView F → Type 0 where
  stays : {v : DView F} → First v false v
  loses : {l : Bool} {a : F} → First (view true l a) true (view false l a)

module _ {F : Type 0} where
  -- a call of the master that hears nothing; P holds of what it sends
  pub data MActs (read : F → Reading) (P : F → Type 0) : MView F → Did F → MView F → Type 0 where
    rests : {v : MView F} → MActs read P v nothing v
    sends : {n : Bool} {f : F} → read f ≡ frame n → P f → MActs read P (free n) (first f) (waits n f 1)
    resends : {n : Bool} {f : F} {k : ℕ} → MActs read P (waits n f k) (resent f) (waits n f (k + 1))
    gives : {n : Bool} {f : F} {k : ℕ} → MActs read P (waits n f k) (gave k) (free (given_up_number n))

  -- it hears g, which reads as r; nak is N with 1 or 2
  pub data MHears (nak : F → Bool) (g : F) : Reading → MView F → Did F → MView F → Type 0 where
    ignores : {r : Reading} {v : MView F} → MHears nak g r v nothing v
    resends : {n : Bool} {f : F} {k : ℕ} {r : Reading} → MHears nak g r (waits n f k) (resent f) (waits n f (k + 1))
    gives : {n : Bool} {f : F} {k : ℕ} {r : Reading} → MHears nak g r (waits n f k) (gave k) (free (given_up_number n))
    takes : {n b : Bool} {f : F} {k : ℕ} → nak g ≡ false → MHears nak g (frame b) (waits n f k) (got g k) (free (answered_number n))

  -- behind its first rule the desk hears g, which reads as r; Q holds of each answer it makes
  pub data DHears (nak : F → Bool) (Q : F → Type 0) (g : F) : Reading → DView F → Said F → DView F → Type 0 where
    mute : {r : Reading} {v : DView F} → DHears nak Q g r v silent v
    faults : {r : Reading} {b l : Bool} {a f : F} → nak f ≡ true → DHears nak Q g r (view b l a) (says f) (view b l (stored_behind a f))
    repeats : {n b : Bool} {a : F} (z : F) → MayRepeat b → DHears nak Q g (frame n) (view b n a) (says (repeated_answer a z)) (view b n a)
    takes : {n b l : Bool} {a f : F} → MayHandle b l n → Q f → DHears nak Q g (frame n) (view b l a) (handles g f) (view true n f)
