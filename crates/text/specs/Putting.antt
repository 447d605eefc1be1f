-- Text put into an output at a place. Assumes nothing.
use Rattle.std.specs.Prelude.{ℕ, suc, ◌+◌, cond, List, [], ◌∷◌, ◌++◌, length, take, drop, nat_lt, slice_set}

-- text put byte after byte, while there is room: the place behind what was put, and the output
unfoldable pub puts : List ℕ → ℕ → List ℕ → ℕ × List ℕ
puts [] at out = (at, out)
puts (b ∷ text) at out = cond (nat_lt at (length out)) (puts text (suc at) (slice_set out at b)) (at, out)

-- text at a place of an output, with what lies around it kept: what is put where all of it has room
unfoldable pub placed : List ℕ → ℕ → List ℕ → ℕ × List ℕ
placed text at out = (at + length text, take at out ++ (text ++ drop (at + length text) out))
