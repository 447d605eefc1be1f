-- A run of a replay, turn after turn, whatever each read brings (rule Q14). Assumes nothing.
use Rattle.std.specs.Prelude.{◌≡◌, ℕ, ◌≤◌, true, List, [], ◌++◌, length}
use Rattle.forms.specs.Lines.{is_line}
use Rattle.records.specs.Answers.{Outcome}
use Rattle.pieces.specs.Runs.{Stand, front_of, beginning, Whole, Turns, Room}
use Rattle.recordings.specs.Replay.Texts.{row_room}
use Rattle.recordings.specs.declared.replay.state.Replayer.{Replayer}
use Rattle.recordings.specs.Replay.State.{begun_on}
use Rattle.recordings.specs.Replay.Turn.{opened_of, replaying}
use Rattle.recordings.specs.Replay.Whole.{replay_on, replay_of}
use Rattle.recordings.specs.Replay.Calls.{input_by_hand}

-- a run begins on a line that there is, with any buffer
abbrev pub begun : ℕ → List ℕ → Stand Replayer
begun line buf = beginning (begun_on line) buf

-- at the end, what was written is the replay of all that was read
abbrev pub WholeReplay : Type 0
WholeReplay = (line : ℕ) → is_line line ≡ true → (buf : List ℕ) → Whole replaying (replay_on line) (begun line buf)

-- a run on an input: its first byte is read alone, if there is one
abbrev pub opened_at : Replayer × (Outcome × List ℕ) → List ℕ → Stand Replayer
opened_at o buf = record { state = o.0; buf = buf; read = []; written = front_of o.1.0 o.1.1 }

abbrev pub opened : List ℕ → List ℕ → List ℕ → Stand Replayer
opened first out buf = opened_at (opened_of first out) buf

-- at the end, what was written is the replay of the whole input
abbrev pub WholeInput : Type 0
WholeInput = (first out buf : List ℕ) → length first ≤ 1 → row_room ≤ length out → Whole replaying (λ (read : List ℕ). replay_of (first ++ read)) (opened first out buf)

-- and that is the desk run by hand over the calls of the log
abbrev pub InputByHand : Type 0
InputByHand = (first out buf : List ℕ) → length first ≤ 1 → row_room ≤ length out → Whole replaying (λ (read : List ℕ). input_by_hand (first ++ read)) (opened first out buf)

-- of each turn: it is not refused; it is to be made again only where it wrote something; a read of nothing ends the run; else it ends only where the replay
-- would be the same whatever was read behind
abbrev pub EachTurn : Type 0
EachTurn = (line : ℕ) → is_line line ≡ true → (buf : List ℕ) → Turns replaying (replay_on line) (begun line buf)

abbrev pub EachTurnOnInput : Type 0
EachTurnOnInput = (first out buf : List ℕ) → length first ≤ 1 → row_room ≤ length out → Turns replaying (λ (read : List ℕ). replay_of (first ++ read)) (opened first out buf)

-- where bytes are to be read, at most 72 are held, and a buffer has more
abbrev pub RoomToRead : Type 0
RoomToRead = (line : ℕ) → is_line line ≡ true → (buf : List ℕ) → Room replaying (begun line buf)
