-- Ordinals and offsets, counted over all pieces (rules P2, Q11). Assumes nothing.
use Rattle.std.specs.Prelude.{ℕ, ◌%◌, ◌^◌}

-- they are 64-bit numbers
abbrev pub wrapped : ℕ → ℕ
wrapped n = n % 2 ^ 64
