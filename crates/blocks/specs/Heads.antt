-- What the blocks of states share. Assumes nothing.
use Rattle.std.specs.Prelude.{Bool, cond, List, [], ◌∷◌, ℕ, ltb}

-- a count as a byte; 255, which no count may be, where it is larger
unfoldable pub count_byte : ℕ → ℕ
count_byte n = cond (ltb n 256) n 255

-- 1 or 0
abbrev pub flag_byte : Bool → ℕ
flag_byte on = cond on 1 0

-- the first four bytes of an end: its line, whether it is good, its number and one byte more
abbrev pub head_bytes : ℕ → Bool → ℕ → ℕ → List ℕ
head_bytes line good number more = line ∷ flag_byte good ∷ number ∷ more ∷ []
