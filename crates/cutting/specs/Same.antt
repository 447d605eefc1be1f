-- The step and the search cut the same telegrams (rule C8). Assumes nothing.
use Rattle.std.specs.Prelude.{◌≡◌, List, [], ◌∷◌, ℕ, zero, suc, ◌≤◌, length}
use Rattle.cutting.specs.Gather.{at_start}
use Rattle.cutting.specs.Streams.{fed}
use Rattle.cutting.specs.Search.{Span, Found, Nothing, span_of, part_of}

-- what a search finds, before what later searches do from its end on
abbrev pub finding : List ℕ → Span → (ℕ → List (List ℕ)) → List (List ℕ)
finding s (Found start end) later = part_of s (Found start end) ∷ later end
finding s Nothing later = []

-- the telegrams that at most n searches find, each from the end of the last
unfoldable pub searched : ℕ → List ℕ → ℕ → List (List ℕ)
searched zero s from = []
searched (suc n) s from = finding s (span_of s from) (searched n s)

-- Feeding a slice's bytes to the step from the start hands out the same telegrams, byte for byte and in the same order, as repeated
-- searching, each search from the end of the last; as many searches as there are bytes are enough.
abbrev pub SameTelegrams : Type 0
SameTelegrams = (s : List ℕ) (n : ℕ) → length s ≤ n → fed at_start s ≡ searched n s 0
