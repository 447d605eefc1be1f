-- From the start, under any calls in any order with any inputs, the desk's state is in its ranges (rules E3, E10). Assumes nothing.
use Rattle.std.specs.Prelude.{◌≡◌, true, List, ℕ, ◌≤◌, length}
use Rattle.forms.specs.Lines.{is_line}
use Rattle.characters.specs.Marks.{longest}
use Rattle.desk.specs.State.{in_ranges, start_of}
use Rattle.desk.specs.declared.state.Desk.{Desk}
use Rattle.conduct.specs.Desk.Calls.{Call, after, run, refused_by}

-- the bounds of a state: at most 8 queued of 8 places, and at most 66 bytes kept of 66
pub record Bounds (d : Desk) : Type 0 where
  pub few : d.queued ≤ 8
  pub short : d.kept ≤ longest
  pub places : length d.queue ≡ 8
  pub bytes : length d.stored ≡ longest

-- from the start the state is in its ranges and bounds behind any calls, on the line of the start, and no further call is refused 15
abbrev pub Never15 : Type 0
Never15 =
    (line : ℕ) → is_line line ≡ true → (calls : List Call) (call : Call)
    → (in_ranges (run (start_of line).0 calls) ≡ true)
    × Bounds (run (start_of line).0 calls)
    × ((run (start_of line).0 calls).line ≡ line)
    × ¬ (refused_by (after (run (start_of line).0 calls) call).1 ≡ 15)
