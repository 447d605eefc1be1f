-- What is due of an end, as rows say it (docs/SCENES.md). Assumes nothing.
use Rattle.std.specs.Prelude.{List, ℕ}
use Rattle.laws.specs.Text.{codes}
use Rattle.clock.specs.Due.{When, refused, never, after}
use Rattle.text.specs.Items.{refusal_text}
use Rattle.scripts.specs.Printing.{number_text}

-- a refusal; that nothing is due; or after how many milliseconds something is
abbrev pub due_text : When → List ℕ
due_text (refused x) = refusal_text x
due_text never = codes "due never"
due_text (after n) = number_text (codes "due after ") n
