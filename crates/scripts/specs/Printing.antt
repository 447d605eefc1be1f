-- What rows print (docs/SCENES.md). Assumes nothing.
use Rattle.std.specs.Prelude.{Bool, cond, List, [], ◌∷◌, ◌++◌, ℕ, zero, suc, eqb, length, take, get_or}
use Prim.Native.Char.{code}
use Rattle.laws.specs.Text.{codes}
use Rattle.characters.specs.Marks.{lf}
use Rattle.clock.specs.Clock.{elapsed_of}
use Rattle.text.specs.Frames.{shown_as}
use Rattle.text.specs.Numbers.{decimal_text}
use Rattle.text.specs.Fields.{word_value}

-- a row said again, and below it, two spaces in, its answer
unfoldable pub began_text : List ℕ → List ℕ
began_text row = row ++ (lf ∷ codes "  ")

-- a comment is only said again
unfoldable pub comment_text : List ℕ → List ℕ
comment_text row = row ++ (lf ∷ [])

-- a row that names no call
unfoldable pub unknown_text : List ℕ → List ℕ
unknown_text row = began_text row ++ (codes "no such row" ++ (lf ∷ []))

-- elapsed time: now and start are the words behind the first
unfoldable pub elapsed_text : List ℕ → List ℕ
elapsed_text row = began_text row ++ (decimal_text (elapsed_of (word_value 1 row) (word_value 2 row)) ++ (lf ∷ []))

-- a number behind a word
unfoldable pub number_text : List ℕ → ℕ → List ℕ
number_text word n = word ++ decimal_text n

-- a line is good or lost
abbrev pub line_text : Bool → List ℕ
line_text good = cond good (codes "; line good") (codes "; line lost")

-- what every row ends with: the line, and two numbers of the state, each behind its word
unfoldable pub end_text : Bool → List ℕ → ℕ → List ℕ → ℕ → List ℕ
end_text good word n other m = line_text good ++ (number_text word n ++ (number_text other m ++ (lf ∷ [])))

-- how many of the first n bytes there are up to the last that is not #
unfoldable pub filled_in : ℕ → List ℕ → ℕ
filled_in zero s = 0
filled_in (suc n) s = cond (eqb (get_or s n 0) (code "#")) (filled_in n s) (suc n)

unfoldable pub filled_of : List ℕ → ℕ
filled_of s = filled_in (length s) s

-- the first n bytes behind a word; where there are none, nothing
unfoldable pub first_text : List ℕ → List ℕ → ℕ → List ℕ
first_text word bytes n = cond (eqb n 0) [] (word ++ shown_as (take n bytes))

-- all that an output holds up to the last byte that is not #
unfoldable pub output_text : List ℕ → List ℕ
output_text sent = first_text (codes " ") sent (filled_of sent)
