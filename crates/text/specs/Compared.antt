-- The row of a thing that is compared (rule P7). Assumes nothing.
use Rattle.std.specs.Prelude.{ℕ, Bool, true, false, List, [], ◌∷◌, ◌++◌}
use Rattle.laws.specs.Text.{codes}
use Rattle.characters.specs.Marks.{lf}
use Rattle.text.specs.Fields.{same_text}

-- the end of a row, with a mark where what came is not what was expected
abbrev pub end_text : Bool → List ℕ
end_text true = lf ∷ []
end_text false = codes ", DIFFERS" ++ (lf ∷ [])

-- a name, what was expected, and what came
unfoldable pub row_text : List ℕ → List ℕ → List ℕ → List ℕ
row_text name expected came =
    name ++ ((codes ": expected " ++ expected) ++ ((codes ", came " ++ came) ++ end_text (same_text expected came)))
