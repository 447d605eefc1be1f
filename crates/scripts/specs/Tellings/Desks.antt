-- The desk's answers as rows say them (docs/SCENES.md). Assumes nothing.
use Rattle.std.specs.Prelude.{Bool, cond, List, [], ◌++◌, ℕ}
use Rattle.laws.specs.Text.{codes}
use Rattle.records.specs.Refusals.{No}
use Rattle.desk.specs.Replying.{Origin}
use Rattle.desk.specs.Answers.{Done}
use Rattle.desk.specs.Answers as d
use Rattle.desk.specs.Heard.{Told}
use Rattle.desk.specs.Heard as t
use Rattle.text.specs.Items.{refusal_text}
use Rattle.text.specs.Amounts.{bytes_text}
use Rattle.scripts.specs.Tellings.Sources.{origin_text}

-- a call that hears nothing is done, or notes the line lost, or refuses
abbrev pub done_text : Done → List ℕ
done_text d.done = codes "done"
done_text d.lost = codes "line noted lost"
done_text (d.refused x) = refusal_text x

-- before what was heard, where this call noted the line lost
abbrev pub noted_text : Bool → List ℕ
noted_text lost = cond lost (codes "line noted lost, ") []

unfoldable pub silent_text : Bool → No → List ℕ
silent_text lost x = noted_text lost ++ (codes "silent, " ++ refusal_text x)

unfoldable pub fault_text : Bool → ℕ → List ℕ
fault_text lost n = noted_text lost ++ (codes "fault, " ++ bytes_text n)

unfoldable pub repeat_text : ℕ → List ℕ
repeat_text n = codes "repeat, " ++ bytes_text n

-- a telegram is handled, and this is where the answer comes from and how many bytes it has
unfoldable pub handling_text : Bool → List ℕ
handling_text lost = noted_text lost ++ codes "handled, "

unfoldable pub answering_text : Origin → ℕ → List ℕ
answering_text origin n = origin_text origin ++ (codes ", " ++ bytes_text n)

unfoldable pub handled_text : Bool → Origin → ℕ → List ℕ
handled_text lost origin n = handling_text lost ++ answering_text origin n

-- a call that hears
abbrev pub told_text : Told → List ℕ
told_text (t.refused x) = refusal_text x
told_text (t.silent lost x) = silent_text lost x
told_text (t.fault lost value n) = fault_text lost n
told_text (t.repeat n) = repeat_text n
told_text (t.handled lost origin n) = handled_text lost origin n
