-- The table of forms has the byte counts of rules L6 to L19. Assumes nothing.
use Rattle.std.specs.Prelude.{◌≡◌, List, [], ◌∷◌, map, ℕ, ◌+◌}
use Prim.Native.Char.{Char, code}
use Rattle.forms.specs.Forms.{forms, width_of}
use Rattle.forms.specs.declared.rows.Form.{Form}

-- a type, and the byte count of its telegrams
pub record Count : Type 0 where
  pub type : ℕ
  pub bytes : ℕ

abbrev pub counts : Char → ℕ → Count
counts type bytes = record { type = code type; bytes = bytes }

-- the paper's table
abbrev pub paper : List Count
paper =
    counts "A" 08 ∷
    counts "N" 08 ∷
    counts "r" 08 ∷
    counts "t" 08 ∷
    counts "c" 08 ∷
    counts "5" 08 ∷
    counts "o" 09 ∷
    counts "G" 10 ∷
    counts "F" 11 ∷
    counts "n" 13 ∷
    counts "B" 21 ∷
    counts "K" 28 ∷
    counts "O" 35 ∷
    counts "1" 36 ∷
    []

-- what a row of the table of forms says: the byte count is the telegram's length less 2, and 8 bytes of it are no packet's
abbrev pub count_of_form : Form → Count
count_of_form f = record { type = f.kind; bytes = width_of f + 6 }

-- row by row they are the same
abbrev pub SameCounts : Type 0
SameCounts = map count_of_form forms ≡ paper
