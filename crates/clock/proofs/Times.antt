-- Elapsed time is the difference of two readings of the clock, modulo 2^32. Assumes nothing.
use Rattle.std.proofs.Common.{◌≡◌, ℕ, ◌+◌, ◌-◌, ◌^◌, ◌<◌, ◌≤◌, arith}
use Rattle.clock.specs.Clock.{elapsed_of}

-- where the clock has not started again
pub later : (at start : ℕ) → start ≤ at → at < 2 ^ 32 → elapsed_of at start ≡ at - start
later at start h k = omega arith

-- and where it has: a clock that reads a little before the start counts as far behind it
pub around : (at start : ℕ) → at < start → start < 2 ^ 32 → elapsed_of at start ≡ at + 2 ^ 32 - start
around at start h k = omega arith
