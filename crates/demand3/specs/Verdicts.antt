-- What the demand says of the runs: the promise is not empty, the supposition and the exception are needed, and readings near by are false.
-- Assumes nothing.
use mathlib.Core.List.{List, [], ◌∷◌, Memᴰ}
use Rattle.std.specs.Prelude.{ℕ}
use Rattle.laws.specs.Truth.{All}
use Rattle.protocol.specs.History.{Tel, mades, gots}
use Rattle.protocol.specs.Demand.{Was, NoLostInside, Promise, InOrder, NoneTwice, Kept, UpToLast}
use Rattle.demand3.specs.Runs.{History, Run, stale, kept_runs, broken_runs}
use Rattle.demand3.specs.Outside.{late_sending_history, late_answer_history, desk_restart_history, master_restart_history, spoilt_passes_history}
use Rattle.demand3.specs.LiveRuns.{past_bound_history}

-- the supposition and the promise hold of the first runs,
abbrev pub Promises : Type 0
Promises = All (λ (r : Run). NoLostInside r.history × Promise r.history) kept_runs

-- the supposition fails of the others, and of what happens past the limits of a live line,
abbrev pub NotSupposed : Type 0
NotSupposed = All (λ (r : Run). NoLostInside r.history → ⊥) broken_runs × (NoLostInside past_bound_history → ⊥)

-- and a telegram is handled twice in them.
abbrev pub NotPromised : Type 0
NotPromised = All (λ (r : Run). NoneTwice r.history → ⊥) broken_runs × (NoneTwice past_bound_history → ⊥)

-- No lost line is noted in the runs outside of what the demand supposes, and its promise fails: a telegram is handled twice, where a sending comes
-- late and where the desk restarts;
abbrev pub OutsideTwice : Type 0
OutsideTwice = All (λ h. NoLostInside h × (NoneTwice h → ⊥)) (late_sending_history ∷ desk_restart_history ∷ [])

-- one is answered that was not handled, where an answer comes late and where the master restarts;
abbrev pub OutsideAnswered : Type 0
OutsideAnswered = All (λ h. NoLostInside h × (Kept h → ⊥)) (late_answer_history ∷ master_restart_history ∷ [])

-- one is handled that was not sent, where a spoiled sending passes the checks.
abbrev pub OutsideUnsent : Type 0
OutsideUnsent = NoLostInside spoilt_passes_history × (InOrder spoilt_passes_history → ⊥)

-- "A telegram the master reports answered was handled", without the exception that follows
abbrev pub AnsweredHandled : History → Type 0
AnsweredHandled h = (x : Tel (List ℕ)) (a : List ℕ) → Memᴰ (x, a) (gots h) → Was x h

-- In `stale`, where one was given up, that fails, and so does what the demand says of runs where none was.
abbrev pub StaleNot : Type 0
StaleNot = (AnsweredHandled stale.history → ⊥) × (UpToLast (gots stale.history) (mades stale.history) → ⊥)
