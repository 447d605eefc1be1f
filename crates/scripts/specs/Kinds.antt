-- What a row of a script is of (docs/SCENES.md). Assumes nothing.
use Rattle.std.specs.Prelude.{cond, List, ℕ, eqb, length, get_or}
use Prim.Native.Char.{code}
use Rattle.laws.specs.Text.{codes}
use Rattle.text.specs.Fields.{word_of, word_place}
use Rattle.scripts.specs.Numbers.{are_numbers}
use Rattle.scripts.specs.declared.kinds.Kind.{Kind}
use Rattle.scripts.specs.declared.kinds.Kind.TheVariants.{Desk, Master, Elapsed, Comment, Unknown}

-- an empty row and one that begins with # are comments; any other names no call
unfoldable pub unnamed_of : List ℕ → Kind
unnamed_of row = cond (eqb (length row) 0) Comment (cond (eqb (get_or row 0 0) (code "#")) Comment Unknown)

-- elapsed time takes two numbers
unfoldable pub elapsed_row : List ℕ → Kind
elapsed_row row = cond (are_numbers 1 3 row) Elapsed Unknown

-- by the number of the first word among those that name a row
unfoldable pub kind_numbered : ℕ → List ℕ → Kind
kind_numbered n row = cond (eqb n 0) Desk (cond (eqb n 1) Master (cond (eqb n 2) (elapsed_row row) (unnamed_of row)))

unfoldable pub kind_of : List ℕ → Kind
kind_of row = kind_numbered (word_place (codes "desk master elapsed") 3 (word_of 0 row)) row
