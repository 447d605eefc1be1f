-- Time and timers (rules K1 to K3). Assumes nothing.
use Rattle.std.specs.Prelude.{ℕ, ◌+◌, ◌-◌, ◌%◌, ◌^◌, Bool, nat_le}

-- elapsed time is now less start, modulo 2^32
abbrev pub elapsed_of : ℕ → ℕ → ℕ
elapsed_of at start = (at + (2 ^ 32 - start)) % 2 ^ 32

-- a timer has run out when elapsed time is at or above its limit
unfoldable pub run_out : ℕ → ℕ → ℕ → Bool
run_out at start limit = nat_le limit (elapsed_of at start)
