-- A row names the record that was handled (rule Q11). Assumes nothing.
use Rattle.std.specs.Prelude.{◌≡◌, ℕ, Bool, true, List}
use Rattle.records.specs.Answers.{accepted}
use Rattle.records.specs.declared.records.Record.{Record}
use Rattle.reading.specs.Reading.{reading_of}
use Rattle.scripts.specs.Tellings.Sources.{panel_text, origin_text}
use Rattle.desk.specs.Replying.{Origin}
use Rattle.desk.specs.Heard.{handled}
use Rattle.desk.specs.Hearing.{hear_of}
use Rattle.desk.specs.declared.state.Desk.{Desk}
use Rattle.conduct.specs.Desk.Calls.{Fine}
use Rattle.recordings.specs.Replay.Rows.{names}

-- where the source is taken to name what was handled, it names the record that the telegram reads as
abbrev pub SourceNames : Type 0
SourceNames =
    (d : Desk) → Fine d → (at : ℕ) (frame out : List ℕ) (lost : Bool) (origin : Origin) (n : ℕ) → (hear_of d at frame out).1 ≡ handled lost origin n → names origin ≡ true
    → (rec : Record) (number : ℕ) → reading_of d.line frame ≡ accepted rec number → origin_text origin ≡ panel_text rec
