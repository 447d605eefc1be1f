-- A row names the record that was handled (rule Q11). Assumes nothing.
use Rattle.std.proofs.Common.{◌≡◌, ℕ, true, List, ap}
use Rattle.laws.proofs.Truths.{clash}
use Rattle.records.specs.Answers.{accepted}
use Rattle.records.specs.declared.records.Record.{Record}
use Rattle.reading.specs.Reading.{reading_of}
use Rattle.scripts.specs.Tellings.Sources.{panel_text, origin_text}
use Rattle.desk.specs.Replying.{Origin}
use Rattle.desk.specs.declared.state.Desk.{Desk}
use Rattle.conduct.specs.Desk.Handled.{ReplyRow, contents, not_master, requested, nothing_set, queue, key, panel}
use Rattle.conduct.proofs.Desk.Handled.{only-rows}
use Rattle.recordings.specs.Replay.Rows.{names}
use Rattle.recordings.specs.Replay.Named.{SourceNames}

-- only the panel's row does, and its record is the one read
row-names : (d : Desk) (frame : List ℕ) (number : ℕ) (answer : Record) (origin : Origin) → ReplyRow d frame number answer origin → names origin ≡ true
    → (rec : Record) (n : ℕ) → reading_of d.line frame ≡ accepted rec n → origin_text origin ≡ panel_text rec
row-names d frame number answer origin (contents h lo hi) e rec n q = clash e
row-names d frame number answer origin (not_master h m) e rec n q = clash e
row-names d frame number answer origin (requested h t s) e rec n q = clash e
row-names d frame number answer origin (nothing_set h t s) e rec n q = clash e
row-names d frame number answer origin (queue h t s) e rec n q = clash e
row-names d frame number answer origin (key h t s) e rec n q = clash e
row-names d frame number answer origin (panel {rec = own} h m not_r not_t) e rec n q = let same : own ≡ rec = cc in ap panel_text same

pub source_names : SourceNames
source_names d f at frame out lost origin n told e rec number q =
    let w = only-rows d f at frame out lost origin n told in
    row-names d frame w.number w.answer origin w.row e rec number q
