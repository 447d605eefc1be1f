-- A part of a log, replayed into an output, and what is left of it (rule Q14). Assumes nothing.
use Rattle.std.specs.Prelude.{◌≡◌, ℕ, ◌+◌, ◌<◌, ◌≤◌, true, List, [], ◌++◌, length, take, drop, ◌≢◌}
use Rattle.pieces.specs.Counts.{wrapped}
use Rattle.desk.specs.declared.state.Desk.{Desk}
use Rattle.conduct.specs.Desk.Calls.{run, Fine}
use Rattle.logs.specs.Whole.{log_of, waits_at}
use Rattle.recordings.specs.declared.replay.part.Stop.TheVariants.{Waits, Over}
use Rattle.recordings.specs.declared.replay.part.Replayed.{Replayed}
use Rattle.recordings.specs.Replay.Texts.{row_room, text_of}
use Rattle.recordings.specs.Replay.Calls.{calls_of}
use Rattle.recordings.specs.Replay.Part.{part_of}

-- the rows put, and those of what is left and any bytes b behind it, are the rows of all; the replay is over where no bytes behind could change them;
-- it waits where no record is left; else something is put. The desk is the one behind the calls of the records that are not left, so it is fine if it was
pub record Parted (d : Desk) (ordinal base : ℕ) (s out : List ℕ) (r : Replayed) (x : List ℕ) : Type 0 where
  pub on : (r.stop ≢ Over) → (b : List ℕ)
      → take r.filled x ++ text_of r.desk r.ordinal (wrapped (base + r.next)) (log_of (drop r.next s ++ b)) ≡ text_of d ordinal (wrapped base) (log_of (s ++ b))
  pub over : r.stop ≡ Over → (b : List ℕ) → take r.filled x ≡ text_of d ordinal (wrapped base) (log_of (s ++ b))
  pub within : r.next ≤ length s
  pub waits : r.stop ≡ Waits → ((log_of (drop r.next s)).0 ≡ []) × (waits_at (log_of (drop r.next s)).1 ≡ true)
  pub desk : (b : List ℕ) → run r.desk (calls_of (log_of (drop r.next s ++ b)).0) ≡ run d (calls_of (log_of (s ++ b)).0)
  pub fine : Fine d → Fine r.desk
  pub full : (r.stop ≢ Waits) → (r.stop ≢ Over) → row_room ≤ length out → 0 < length (take r.filled x)

abbrev pub InParts : Type 0
InParts = (d : Desk) (ordinal base : ℕ) (s out : List ℕ) → Parted d ordinal base s out (part_of d ordinal base s out).0 (part_of d ordinal base s out).1

-- where no record is left, the desk is the one behind the calls of all records
abbrev pub DeskByHand : Type 0
DeskByHand = (d : Desk) (ordinal base : ℕ) (s out : List ℕ) → (part_of d ordinal base s out).0.stop ≡ Waits → (part_of d ordinal base s out).0.desk ≡ run d (calls_of (log_of s).0)
