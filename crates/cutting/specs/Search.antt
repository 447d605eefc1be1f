-- The search for the next telegram in bytes (rules C7, C9). Assumes nothing.
use Rattle.std.specs.Prelude.{◌≡◌, ℕ, ◌+◌, ◌-◌, List, [], ◌∷◌, length, take, drop, Option, None, Some}
use Rattle.cutting.specs.declared.turns.Turn.{Turn}
use Rattle.cutting.specs.declared.turns.Turn.TheVariants.{Joins, Ends, Drops}
use Rattle.cutting.specs.declared.search.Span as s
use Rattle.cutting.specs.Turns.{turn_of}

-- a telegram from its LF at a place to behind its CR, or none
pub data Span : Type 0 where
  Found : ℕ → ℕ → Span
  Nothing : Span

abbrev pub found_of : Option s.Span → Span
found_of (Some span) = Found span.start span.end
found_of None = Nothing

-- a promise through this definition allows one span only
abbrev pub OneSpan : Type 0
OneSpan = (a b : Option s.Span) → found_of a ≡ found_of b → a ≡ b

-- what the turn of the byte at place i finds, or how the search goes on with so many bytes gathered
abbrev pub on_turn : Turn → ℕ → (ℕ → Span) → Span
on_turn (Joins at) i go = go (at + 1)
on_turn (Ends at) i go = Found (i - at) (i + 1)
on_turn Drops i go = go 0

-- what is found in bytes of which the first stands at place i, with len bytes gathered before it
unfoldable pub cut_from : List ℕ → ℕ → ℕ → Span
cut_from [] len i = Nothing
cut_from (byte ∷ rest) len i = on_turn (turn_of len byte) i (λ n. cut_from rest n (i + 1))

-- the next telegram of s, looking from a place on
unfoldable pub span_of : List ℕ → ℕ → Span
span_of s from = cut_from (drop from s) 0 from

-- the bytes that a span names
abbrev pub part_of : List ℕ → Span → List ℕ
part_of s (Found start end) = take (end - start) (drop start s)
part_of s Nothing = []

abbrev pub offset_of : Span → ℕ → ℕ
offset_of (Found start end) other = start
offset_of Nothing other = other

-- the offset of a span and its bytes; none: an empty part at the end
abbrev pub offset_part : List ℕ → Span → ℕ × List ℕ
offset_part s span = (offset_of span (length s), part_of s span)
