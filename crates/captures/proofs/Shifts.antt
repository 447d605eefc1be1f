-- Searching in a stream from a place on is searching in what is left from there (rule C7). Assumes nothing.
use Rattle.std.proofs.Common.{◌≡◌, ℕ, zero, suc, ◌+◌, ◌-◌, ◌≤◌, List, [], ◌∷◌, ◌++◌, length, drop, refl, ap, ◌∙◌, ap₂, arith, length-drop, drop-drop}
use Rattle.cutting.specs.declared.turns.Turn.{Turn}
use Rattle.cutting.specs.declared.turns.Turn.TheVariants.{Joins, Ends, Drops}
use Rattle.cutting.specs.Turns.{turn_of}
use Rattle.cutting.specs.Search.{Span, Found, Nothing, on_turn, cut_from, span_of}
use Rattle.cutting.proofs.Cases.{joins_at, ends_at}
use Rattle.pieces.specs.Counts.{wrapped}
use Rattle.captures.specs.Part.{spanning, spans_on, spans_of, line_at, lines_in, lines_of}
use Rattle.captures.proofs.Spans.{enough}

-- a span, k places further on
abbrev pub further : ℕ → Span → Span
further k (Found start end) = Found (k + start) (k + end)
further k Nothing = Nothing

cut-further : (l : List ℕ) (k len i : ℕ) → len ≤ i → cut_from l len (k + i) ≡ further k (cut_from l len i)
unfolding cut_from
cut-further [] k len i h = refl
cut-further (byte ∷ rest) k len i h = turn (turn_of len byte) refl (λ n g. cut-further rest k n (i + 1) g)
  where
    on : k + i + 1 ≡ k + (i + 1)
    on = omega arith

    turn : (t : Turn) → turn_of len byte ≡ t → ((n : ℕ) → n ≤ i + 1 → cut_from rest n (k + (i + 1)) ≡ further k (cut_from rest n (i + 1)))
        → on_turn t (k + i) (λ n. cut_from rest n (k + i + 1)) ≡ further k (on_turn t i (λ n. cut_from rest n (i + 1)))
    turn (Joins at) e go = rw on (go (at + 1) (omega (arith, (joins_at len byte at e).0)))
    turn (Ends at) e go = ap₂ (λ (o e : ℕ). Found o e) (omega (arith, ends_at len byte at e)) on
    turn Drops e go = rw on (go 0 (omega arith))

pub span-further : (s : List ℕ) (k place : ℕ) → span_of s (k + place) ≡ further k (span_of (drop k s) place)
unfolding span_of
span-further s k place = rw (drop-drop place k s) (cut-further (drop (k + place) s) k 0 place (omega arith))

module _ (line base k : ℕ) (s : List ℕ) where
  -- the line of a telegram is the same, its offset counted from a place
  line-further : (ordinal start end : ℕ) → line_at line ordinal base s (k + start, k + end) ≡ line_at line ordinal (wrapped (base + k)) (drop k s) (start, end)
  unfolding line_at
  line-further ordinal start end =
      let o : wrapped (base + (k + start)) ≡ wrapped (wrapped (base + k) + start) = omega arith in
      let n : k + end - (k + start) ≡ end - start = omega arith in
      rw (o, n, drop-drop start k s)

  lines-on : (n ordinal place : ℕ) → lines_in line ordinal base s (spans_on n s (k + place)) ≡ lines_in line ordinal (wrapped (base + k)) (drop k s) (spans_on n (drop k s) place)
  unfolding spans_on lines_in
  lines-on zero ordinal place = refl
  lines-on (suc n) ordinal place = rw (span-further s k place) (go (span_of (drop k s) place) (λ e. lines-on n (wrapped (ordinal + 1)) e))
    where
      go : (p : Span) → ((e : ℕ) → lines_in line (wrapped (ordinal + 1)) base s (spans_on n s (k + e)) ≡ lines_in line (wrapped (ordinal + 1)) (wrapped (base + k)) (drop k s) (spans_on n (drop k s) e))
          → lines_in line ordinal base s (spanning (further k p) (spans_on n s)) ≡ lines_in line ordinal (wrapped (base + k)) (drop k s) (spanning p (spans_on n (drop k s)))
      go (Found start end) same = ap₂ (λ (x y : List ℕ). x ++ y) (line-further ordinal start end) (same end)
      go Nothing same = refl

  -- the lines from a place on are those of what is left from there
  pub lines-further : (ordinal place : ℕ) → lines_of line ordinal base s (k + place) ≡ lines_of line ordinal (wrapped (base + k)) (drop k s) place
  unfolding lines_of spans_of
  lines-further ordinal place =
      lines-on (length s) ordinal place
      ∙ ap (lines_in line ordinal (wrapped (base + k)) (drop k s)) (enough (length s) (length (drop k s)) (drop k s) place (omega (arith, length-drop k s)) (omega arith))
