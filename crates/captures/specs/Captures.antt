-- The listing of a whole capture (rules P1 to P3). Assumes nothing.
use Rattle.std.specs.Prelude.{ℕ, cond, List, [], ◌∷◌}
use Rattle.forms.specs.Lines.{is_line}
use Rattle.captures.specs.Part.{lines_of}
use Rattle.pieces.specs.Line.{bad_line, line_named}

-- what the program prints for a whole input: ordinals from 1, offsets from 0 after the digit
unfoldable pub listing_of : List ℕ → List ℕ
listing_of [] = bad_line
listing_of (digit ∷ s) = cond (is_line (line_named digit)) (lines_of (line_named digit) 1 0 s 0) bad_line
