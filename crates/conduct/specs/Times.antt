-- What the clock reads so long after a timer's start (rules K1 to K3). Assumes nothing.
use Rattle.std.specs.Prelude.{◌≡◌, ℕ, ◌+◌, ◌%◌, ◌^◌, ◌<◌}
use Rattle.clock.specs.Clock.{elapsed_of}

-- so many milliseconds after a start, on a clock that starts again at zero after 2^32 of them
abbrev pub clock_after : ℕ → ℕ → ℕ
clock_after start ms = (start + ms) % 2 ^ 32

-- elapsed time is those milliseconds,
abbrev pub Elapsed : Type 0
Elapsed = (start ms : ℕ) → start < 2 ^ 32 → ms < 2 ^ 32 → elapsed_of (clock_after start ms) start ≡ ms

-- and each reading of the clock is so long after the start
abbrev pub EachReading : Type 0
EachReading = (start at : ℕ) → start < 2 ^ 32 → at < 2 ^ 32 → clock_after start (elapsed_of at start) ≡ at

-- the case of rule K2: start at 4,294,967,000 and now 1,704
abbrev pub WrapsAt2000 : Type 0
WrapsAt2000 = clock_after 4294967000 2000 ≡ 1704
