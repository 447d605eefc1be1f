-- Amounts in rows (docs/SCENES.md). Assumes nothing.
use Rattle.std.specs.Prelude.{ℕ, List, ◌++◌}
use Rattle.laws.specs.Text.{codes}
use Rattle.text.specs.Numbers.{decimal_text}

-- how many bytes were sent
unfoldable pub bytes_text : ℕ → List ℕ
bytes_text n = decimal_text n ++ codes " bytes"

-- a sending count
unfoldable pub count_said : ℕ → List ℕ
count_said n = codes ", count " ++ decimal_text n
