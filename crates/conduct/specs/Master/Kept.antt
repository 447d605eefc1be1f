-- From the start, under any calls in any order with any inputs, the master's state is in its ranges (rules E3, E11). Assumes nothing.
use Rattle.std.specs.Prelude.{◌≡◌, true, List, ℕ}
use Rattle.forms.specs.Lines.{is_line}
use Rattle.records.specs.Refusals.{No}
use Rattle.master.specs.Answers.{Told}
use Rattle.master.specs.State.{in_ranges, started}
use Rattle.conduct.specs.Master.Calls.{Call, after, run}

-- from the start the state is in its ranges behind any calls, and no further call is refused 15
abbrev pub Never15 : Type 0
Never15 =
    (line at : ℕ) → is_line line ≡ true → (calls : List Call) (call : Call)
    → (in_ranges (run (started line at) calls) ≡ true) × ((x : No) → (after (run (started line at) calls) call).1.0 ≡ Told.refused x → ¬ (x.number ≡ 15))
