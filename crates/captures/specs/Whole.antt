-- A capture read in pieces is listed as in one go (rule P5). Assumes nothing.
use Rattle.std.specs.Prelude.{◌≡◌, ℕ, ◌+◌, ◌≤◌, List, [], ◌∷◌, ◌++◌, length, drop}
use Rattle.characters.specs.Marks.{unfinished}
use Rattle.pieces.specs.Counts.{wrapped}
use Rattle.captures.specs.Part.{spans_of, lines_of, kept_from}

-- the end of the last telegram, and the next ordinal
abbrev pub last_end : ℕ → List (ℕ × ℕ) → ℕ
last_end place [] = place
last_end place ((start, end) ∷ ps) = last_end end ps

abbrev pub next_ordinal : ℕ → List (ℕ × ℕ) → ℕ
next_ordinal ordinal [] = ordinal
next_ordinal ordinal (p ∷ ps) = next_ordinal (wrapped (ordinal + 1)) ps

-- the lines of a stream a ++ b that are left behind the telegrams of a, listed from the bytes kept of a on, with ordinal and offset moved on
abbrev pub lines_left : List ℕ → List ℕ → ℕ → ℕ → ℕ → ℕ → List (ℕ × ℕ) → List ℕ
lines_left a b line ordinal base place ps =
    lines_of line (next_ordinal ordinal ps) (wrapped (base + kept_from (last_end place ps) (length a))) (drop (kept_from (last_end place ps) (length a)) a ++ b) 0

-- listing a, keeping its bytes from behind the last telegram on but at most the last 65, and listing these and b, gives the lines of a ++ b
abbrev pub InTwo : Type 0
InTwo =
    (a b : List ℕ) (line ordinal base place : ℕ) → place ≤ length a
    → lines_of line ordinal base (a ++ b) place ≡ lines_of line ordinal base a place ++ lines_left a b line ordinal base place (spans_of a place)

-- where the kept bytes of a piece begin
abbrev pub kept_of : List ℕ → ℕ
kept_of s = kept_from (last_end 0 (spans_of s 0)) (length s)

-- at most 65 bytes are kept, whatever the input's length
abbrev pub FewKept : Type 0
FewKept = (s : List ℕ) → length (drop (kept_of s) s) ≤ unfinished

-- the lines of pieces, each listed behind the bytes kept of what came before it
unfoldable pub run_of : ℕ → ℕ → ℕ → List ℕ → List (List ℕ) → List ℕ
run_of line ordinal base kept [] = []
run_of line ordinal base kept (piece ∷ pieces) =
    lines_of line ordinal base (kept ++ piece) 0
    ++ run_of line (next_ordinal ordinal (spans_of (kept ++ piece) 0)) (wrapped (base + kept_of (kept ++ piece))) (drop (kept_of (kept ++ piece)) (kept ++ piece)) pieces

abbrev pub joined : List (List ℕ) → List ℕ
joined [] = []
joined (piece ∷ pieces) = piece ++ joined pieces

-- whatever the pieces, their lines are those of the whole capture
abbrev pub InPieces : Type 0
InPieces = (line : ℕ) (pieces : List (List ℕ)) → run_of line 1 0 [] pieces ≡ lines_of line 1 0 (joined pieces) 0
