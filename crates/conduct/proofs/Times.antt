-- A timer has not run out under its limit and has from it on, whatever the clock read at its start (rules K1 to K3). Assumes nothing.
use mathlib.Core.Path.{◌≡◌, refl}
use mathlib.Core.Bool.{true, false}
use Prim.Native.Nat.{ℕ, ◌-◌, ◌^◌, ◌≤◌, ◌<◌}
use native.Mathlib.Omega.{arith}
use borrow.Author.Tests.{le-leb, lt-leb}
use Rattle.clock.specs.Clock.{elapsed_of, run_out}
use Rattle.clock.specs.Due.{time_left}
use Rattle.conduct.specs.Times.{clock_after, Elapsed, EachReading, WrapsAt2000}

pub elapsed : Elapsed
elapsed start ms h k = omega arith

pub each-reading : EachReading
each-reading start at h k = omega arith

pub wraps-at-2000 : WrapsAt2000
wraps-at-2000 = refl

module _ (start ms limit : ℕ) (h : start < 2 ^ 32) (k : ms < 2 ^ 32) where
  pub still-runs : ms < limit → run_out (clock_after start ms) start limit ≡ false
  unfolding run_out
  still-runs l = lt-leb limit (elapsed_of (clock_after start ms) start) (omega (arith, elapsed start ms h k))

  pub has-run-out : limit ≤ ms → run_out (clock_after start ms) start limit ≡ true
  unfolding run_out
  has-run-out l = le-leb limit (elapsed_of (clock_after start ms) start) (omega (arith, elapsed start ms h k))

-- the time that is left of a timer, at a reading of the clock: it runs before that has passed, and has run out when it has
module _ (at start limit : ℕ) (h : at < 2 ^ 32) (k : start < 2 ^ 32) (l : limit < 2 ^ 32) where
  pub runs-before : (ms : ℕ) → ms < time_left at start limit → run_out (clock_after at ms) start limit ≡ false
  unfolding run_out time_left
  runs-before ms m = lt-leb limit (elapsed_of (clock_after at ms) start) (omega (arith, m))

  pub out-when-due : run_out (clock_after at (time_left at start limit)) start limit ≡ true
  unfolding run_out time_left
  out-when-due = le-leb limit (elapsed_of (clock_after at (limit - elapsed_of at start)) start) (omega arith)
