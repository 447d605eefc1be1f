-- The bytes that begin and end a telegram, and how long it may be (rules B1, B2). Assumes nothing.
use Rattle.std.specs.Prelude.{ℕ, ◌-◌}

-- line feed, its first byte
abbrev pub lf : ℕ
lf = 0x0A

-- carriage return, its last byte
abbrev pub cr : ℕ
cr = 0x0D

-- the fewest bytes of a telegram, LF and CR included
abbrev pub shortest : ℕ
shortest = 10

-- the most bytes of a telegram, LF and CR included
abbrev pub longest : ℕ
longest = 66

-- the most bytes of a telegram that lacks its CR
abbrev pub unfinished : ℕ
unfinished = longest - 1
