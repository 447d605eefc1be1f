-- A run of any work, turn after turn, whatever each read brings (rules P5, Q14). Assumes nothing.
use Rattle.std.specs.Prelude.{◌≡◌, List, [], ◌∷◌, ◌++◌, ℕ, ◌≤◌, ◌<◌, length, take}
use Rattle.records.specs.Answers.{good, Outcome, written, refused}
use Rattle.pieces.specs.declared.wants.Wants.TheVariants.{Read, Again, End}
use Rattle.pieces.specs.Turns.{Turned, Work, fault_by, turn_by}

-- where a run stands: the state and the buffer that a turn left, all bytes that were read and all that were written
pub record Stand (S : Type 0) : Type 0 where
  pub state : S
  pub buf : List ℕ
  pub read : List ℕ
  pub written : List ℕ

-- what a turn is given: the bytes read behind those held, whatever the buffer has behind them, and any output
pub record Given : Type 0 where
  pub piece : List ℕ
  pub rest : List ℕ
  pub out : List ℕ

-- what is written of an output: as much as the answer says
abbrev pub front_of : Outcome → List ℕ → List ℕ
front_of (written n) out = take n out
front_of (refused x) out = []

-- what a turn writes
abbrev pub put_by : {S : Type 0} → Turned S → List ℕ
put_by t = front_of t.1.0 t.1.1.1

-- where a run begins, with any buffer
abbrev pub beginning : {S : Type 0} → S → List ℕ → Stand S
beginning m buf = record { state = m; buf = buf; read = []; written = [] }

-- where it stands behind a turn
abbrev pub stand_behind : {S : Type 0} → Stand S → List ℕ → Turned S → Stand S
stand_behind s piece t = record { state = t.0; buf = t.1.1.0; read = s.read ++ piece; written = s.written ++ put_by t }

module _ {S : Type 0} (w : Work S) where
  -- the bytes held, and the buffer of a turn, of which only these are the last turn's
  abbrev pub held_in : Stand S → List ℕ
  held_in s = take (w.held s.state) s.buf

  abbrev pub buffer_of : Stand S → Given → List ℕ
  buffer_of s g = held_in s ++ (g.piece ++ g.rest)

  -- the next turn
  abbrev pub step_of : Stand S → Given → Turned S
  step_of s g = turn_by w s.state (buffer_of s g) (length g.piece) g.out

  abbrev pub next_stand : Stand S → Given → Stand S
  next_stand s g = stand_behind s g.piece (step_of s g)

  -- a turn may be made until the end, with room enough in the buffer and in the output; it may be given no byte, or any number of them
  pub record MayTurn (s : Stand S) (g : Given) : Type 0 where
    pub going : w.wants s.state ≡ End → ⊥
    pub buffer : w.buffer ≤ length (buffer_of s g)
    pub output : w.output ≤ length g.out

  -- a run is what each of its turns is given
  abbrev pub stand_after : Stand S → List Given → Stand S
  stand_after s [] = s
  stand_after s (g ∷ gs) = stand_after (next_stand s g) gs

  abbrev pub MayRun : Stand S → List Given → Type 0
  MayRun s [] = Unit {0}
  MayRun s (g ∷ gs) = MayTurn s g × MayRun (next_stand s g) gs

  -- at the end of any run, what was written is f of all that was read
  abbrev pub Whole : (List ℕ → List ℕ) → Stand S → Type 0
  Whole f s = (gs : List Given) → MayRun s gs → w.wants (stand_after s gs).state ≡ End → (stand_after s gs).written ≡ f (stand_after s gs).read

  -- of each turn: it is not refused; it is to be made again only where it wrote something; a read of nothing ends the run; else it ends only where f would be
  -- the same whatever was read behind
  pub record GoodTurn (f : List ℕ → List ℕ) (s : Stand S) (g : Given) : Type 0 where
    pub taken : good ≡ fault_by w s.state (length (buffer_of s g)) (length g.piece) (length g.out)
    pub again : w.wants (next_stand s g).state ≡ Again → length s.written < length (next_stand s g).written
    pub over : w.wants s.state ≡ Read → g.piece ≡ [] → w.wants (next_stand s g).state ≡ End
    pub settled : w.wants (next_stand s g).state ≡ End → 0 < length g.piece → (more : List ℕ) → (next_stand s g).written ≡ f ((next_stand s g).read ++ more)

  abbrev pub Turns : (List ℕ → List ℕ) → Stand S → Type 0
  Turns f s = (gs : List Given) → MayRun s gs → (g : Given) → MayTurn (stand_after s gs) g → GoodTurn f (stand_after s gs) g

  -- where bytes are to be read, fewer are held than any buffer has
  abbrev pub Room : Stand S → Type 0
  Room s = (gs : List Given) → MayRun s gs → w.wants (stand_after s gs).state ≡ Read → w.held (stand_after s gs).state < w.buffer
