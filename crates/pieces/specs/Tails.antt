-- The last bytes of a buffer, moved to its front (rule P5). Assumes nothing.
use Rattle.std.specs.Prelude.{ℕ, ◌-◌, List, take, drop}
use Rattle.text.specs.Putting.{placed}

-- the bytes from a place up to an end, put to the front, with what lies behind them kept
abbrev pub tail_of : ℕ → ℕ → List ℕ → List ℕ
tail_of place end s = take (end - place) (drop place s)

unfoldable pub tail_put : ℕ → ℕ → List ℕ → ℕ × List ℕ
tail_put place end s = placed (tail_of place end s) 0 s
