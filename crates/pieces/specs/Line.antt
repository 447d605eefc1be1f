-- The line that the first byte of an input names (rules P1, P3). Assumes nothing.
use Rattle.std.specs.Prelude.{ℕ, ◌-◌, cond, List, [], ◌∷◌, ◌++◌}
use Prim.Native.Char.{code}
use Rattle.laws.specs.Text.{codes}
use Rattle.characters.specs.Marks.{lf}
use Rattle.forms.specs.Lines.{is_line}

-- the line that a capture's first byte names, 0 where it names none
unfoldable pub line_named : ℕ → ℕ
line_named digit = cond (is_line (digit - code "0")) (digit - code "0") 0

-- what is printed where the first byte names no line
abbrev pub bad_line : List ℕ
bad_line = codes "no 15 0" ++ (lf ∷ [])
