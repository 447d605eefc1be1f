-- The table of forms (rules L1 to L19). Assumes nothing.
use Rattle.std.specs.Prelude.{ℕ, ◌+◌, List, [], ◌∷◌, map, Bool, true, false, length}
use Prim.Native.Char.{Char, code}
use Rattle.laws.specs.Truth.{one_of, pad}
use Rattle.laws.specs.Text.{codes}
use Rattle.forms.specs.Lines.{line_numbers}
use Rattle.forms.specs.declared.rows.Form.{Form}

-- who sends a form
abbrev pub master : Bool
master = true

abbrev pub slave : Bool
slave = false

-- a row of the document's table: type, the digits of its lines, sender, packet letters and value lengths
abbrev pub row : Char → List ℕ → Bool → List ℕ → List ℕ → Form
row kind on sender letters lens =
    record {
      kind = code kind;
      lines = map (λ (line : ℕ). one_of on (code "0" + line)) line_numbers;
      master = sender;
      count = length lens;
      letters = pad 10 letters;
      lens = pad 10 lens;
    }

unfoldable pub forms : List Form
forms =
    row "A" (codes "123") slave (codes "A") (1 ∷ []) ∷
    row "N" (codes "123") slave (codes "N") (1 ∷ []) ∷
    row "r" (codes "123") master (codes "B") (1 ∷ []) ∷
    row "t" (codes "123") master (codes "B") (1 ∷ []) ∷
    row "c" (codes "1") master (codes "m") (1 ∷ []) ∷
    row "5" (codes "2") slave (codes "U") (1 ∷ []) ∷
    row "o" (codes "3") master (codes "S") (2 ∷ []) ∷
    row "G" (codes "1") master (codes "E") (3 ∷ []) ∷
    row "F" (codes "12") master (codes "P") (4 ∷ []) ∷
    row "n" (codes "3") master (codes "T") (6 ∷ []) ∷
    row "B" (codes "1") slave (codes "L%HR") (3 ∷ 3 ∷ 3 ∷ 2 ∷ []) ∷
    row "K" (codes "3") slave (codes "FDCMVP") (3 ∷ 2 ∷ 2 ∷ 2 ∷ 3 ∷ 4 ∷ []) ∷
    row "O" (codes "3") master (codes "FDCMVPT") (3 ∷ 2 ∷ 2 ∷ 2 ∷ 3 ∷ 4 ∷ 6 ∷ []) ∷
    row "1" (codes "2") master (codes "FDCMVPWXYZ") (3 ∷ 2 ∷ 2 ∷ 2 ∷ 3 ∷ 4 ∷ 1 ∷ 1 ∷ 1 ∷ 1 ∷ []) ∷
    []
