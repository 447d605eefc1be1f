-- The lines of a slice's telegrams (rules P2, P5), and what is kept of a slice for the next piece. Assumes nothing.
use Rattle.std.specs.Prelude.{ℕ, zero, suc, ◌+◌, ◌-◌, max, Bool, true, false, cond, List, [], ◌∷◌, ◌++◌, length, nat_le, Option, None, Some, Result, Ok, Err}
use Rattle.characters.specs.Marks.{unfinished}
use Rattle.records.specs.Answers.{Outcome, written, refused}
use Rattle.reading.specs.Reading.{reading_of}
use Rattle.cutting.specs.Search.{Span, Found, Nothing, span_of, part_of}
use Rattle.captures.specs.declared.part.Listed.{Listed}
use Rattle.text.specs.Putting.{placed}
use Rattle.pieces.specs.Counts.{wrapped}
use Rattle.captures.specs.Listing.{line_text, line_room, putting}
use Rattle.records.specs.declared.refusals.Refusal.{Refusal}
use Rattle.captures.specs.declared.part.Line.{Line}

-- what a search finds, before what later searches find from its end on
abbrev pub spanning : Span → (ℕ → List (ℕ × ℕ)) → List (ℕ × ℕ)
spanning (Found start end) later = (start, end) ∷ later end
spanning Nothing later = []

-- the starts and ends of the telegrams that at most n searches find, each from the end of the last
unfoldable pub spans_on : ℕ → List ℕ → ℕ → List (ℕ × ℕ)
spans_on zero s place = []
spans_on (suc n) s place = spanning (span_of s place) (spans_on n s)

-- as many searches as there are bytes are enough
unfoldable pub spans_of : List ℕ → ℕ → List (ℕ × ℕ)
spans_of s place = spans_on (length s) s place

-- the line of the telegram from start to end of s, which begins at an offset of its own
unfoldable pub line_at : ℕ → ℕ → ℕ → List ℕ → ℕ × ℕ → List ℕ
line_at line ordinal base s (start, end) = line_text ordinal (wrapped (base + start)) (reading_of line (part_of s (Found start end)))

unfoldable pub lines_in : ℕ → ℕ → ℕ → List ℕ → List (ℕ × ℕ) → List ℕ
lines_in line ordinal base s [] = []
lines_in line ordinal base s (p ∷ ps) = line_at line ordinal base s p ++ lines_in line (wrapped (ordinal + 1)) base s ps

-- the lines of the telegrams that repeated searching finds in s from a place on
unfoldable pub lines_of : ℕ → ℕ → ℕ → List ℕ → ℕ → List ℕ
lines_of line ordinal base s place = lines_in line ordinal base s (spans_of s place)

-- what the next telegram's line is: of so many bytes, for a telegram that ends at a place; or it has no room, or none is left
pub data NextLine : Type 0 where
  put : ℕ → ℕ → NextLine
  full : NextLine
  none_left : NextLine

abbrev pub next_of : Result (Option Line) Refusal → NextLine
next_of (Ok (Some line)) = put line.end line.len
next_of (Ok None) = none_left
next_of (Err x) = full

-- the line of the next telegram, from the front of an output
abbrev pub next_for : ℕ → Outcome → NextLine
next_for end (written n) = put end n
next_for end (refused x) = full

abbrev pub next_at : ℕ → ℕ → ℕ → List ℕ → Span → List ℕ → NextLine × List ℕ
next_at line ordinal base s (Found start end) out =
    (next_for end (putting (line_at line ordinal base s (start, end)) out).0, (putting (line_at line ordinal base s (start, end)) out).1)
next_at line ordinal base s Nothing out = (none_left, out)

unfoldable pub next_line_of : ℕ → ℕ → ℕ → List ℕ → ℕ → List ℕ → NextLine × List ℕ
next_line_of line ordinal base s place out = next_at line ordinal base s (span_of s place) out

-- how far a listing got
abbrev pub stopped : ℕ → ℕ → ℕ → Bool → Listed
stopped place ordinal filled done = record { next = place; ordinal = ordinal; filled = filled; done = done }

-- the lines of telegrams, put into an output behind so many bytes of lines, while it has room for any line
unfoldable pub listed_in : ℕ → ℕ → List ℕ → List (ℕ × ℕ) → ℕ → ℕ → ℕ → List ℕ → Listed × List ℕ
listed_in line base s [] place ordinal filled out = (stopped place ordinal filled true, out)
listed_in line base s ((start, end) ∷ ps) place ordinal filled out =
    cond (nat_le line_room (length out - filled))
    (listed_in line base s ps end (wrapped (ordinal + 1)) (filled + length (line_at line ordinal base s (start, end))) (placed (line_at line ordinal base s (start, end)) filled out).1)
    (stopped place ordinal filled false, out)

unfoldable pub list_part : ℕ → ℕ → ℕ → List ℕ → ℕ → List ℕ → Listed × List ℕ
list_part line ordinal base s place out = listed_in line base s (spans_of s place) place ordinal 0 out

-- where the bytes begin that are kept for the next piece: behind the last telegram, and an unfinished one has at most 65
abbrev pub kept_from : ℕ → ℕ → ℕ
kept_from end len = max end (len - unfinished)
