-- When an end's next tick does something (rule K6; our own addition). Assumes nothing.
use Rattle.std.specs.Prelude.{◌≡◌, ℕ, ◌-◌, Option, None, Some, Result, Ok, Err}
use Rattle.records.specs.Refusals.{No, refusal_of}
use Rattle.clock.specs.Clock.{elapsed_of}
use Rattle.records.specs.declared.refusals.Refusal.{Refusal}

-- a refusal; that no tick does anything; or the milliseconds until one does
pub data When : Type 0 where
  refused : No → When
  never : When
  after : ℕ → When

abbrev pub when_of : Result (Option ℕ) Refusal → When
when_of (Err x) = refused (refusal_of x)
when_of (Ok None) = never
when_of (Ok (Some n)) = after n

-- how long a timer still runs: its limit less elapsed time, and 0 where it has run out
unfoldable pub time_left : ℕ → ℕ → ℕ → ℕ
time_left at start limit = limit - elapsed_of at start

-- a promise through these definitions allows one answer only
abbrev pub OneDue : Type 0
OneDue = (a b : Result (Option ℕ) Refusal) → when_of a ≡ when_of b → a ≡ b
