-- Where an answer of the desk comes from, as rows say it (docs/SCENES.md). Assumes nothing.
use Rattle.std.specs.Prelude.{List, [], ◌∷◌, ◌++◌, ℕ}
use Rattle.laws.specs.Text.{codes}
use Rattle.records.specs.declared.records.Record.{Record}
use Rattle.records.specs.Refusals.{No}
use Rattle.desk.specs.Replying.{Origin}
use Rattle.desk.specs.Replying as o
use Rattle.text.specs.Items.{refusal_text, record_text}

-- where an answer comes from
unfoldable pub key_text : ℕ → List ℕ
key_text key = codes "key " ++ (key ∷ [])

abbrev pub panel_text : Record → List ℕ
panel_text rec = codes "panel " ++ record_text rec

unfoldable pub contents_text : No → List ℕ
contents_text x = codes "contents " ++ refusal_text x

abbrev pub origin_text : Origin → List ℕ
origin_text o.requested = codes "requested"
origin_text o.queue = codes "queue"
origin_text (o.key position) = key_text position
origin_text (o.panel value rec) = panel_text rec
origin_text (o.contents value x) = contents_text x
origin_text (o.not_master value) = codes "not the master's"
origin_text (o.nothing_set value) = codes "nothing set"
