-- How many rows there are, and how many of them differ. Assumes nothing.
use Rattle.std.specs.Prelude.{ℕ, ◌+◌, ◌%◌, ◌^◌, Bool, cond, List, [], ◌∷◌, ◌++◌}
use Rattle.laws.specs.Text.{codes}
use Rattle.characters.specs.Marks.{lf}
use Rattle.text.specs.Numbers.{decimal_text}
use Rattle.text.specs.declared.tally.Tally.{Tally}

abbrev pub no_rows : Tally
no_rows = record { rows = 0; differ = 0 }

-- one row more, and one more that differs where the two are not the same; modulo 2^64
abbrev pub counted_of : Tally → Bool → Tally
counted_of t same = record { rows = (t.rows + 1) % 2 ^ 64; differ = cond same t.differ ((t.differ + 1) % 2 ^ 64) }

unfoldable pub tally_text : Tally → List ℕ
tally_text t = decimal_text t.rows ++ (codes " rows, " ++ (decimal_text t.differ ++ (codes " differ" ++ (lf ∷ []))))
