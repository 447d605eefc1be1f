-- What holds of a read, whatever it brings. Assumes nothing.
use Rattle.std.specs.Prelude.{◌≡◌, List, ℕ, ◌-◌, ◌≤◌, length, take, Option, Some, None}

-- how many bytes were got, none where the read failed
abbrev pub count_of : Option ℕ → ℕ
count_of (Some n) = n
count_of None = 0

-- no more than there is room for behind the place, and what lies before it stays
pub record Reads (got : Option ℕ) (place : ℕ) (before after : List ℕ) : Type 0 where
  pub room : count_of got ≤ length before - place
  pub front : take place after ≡ take place before
