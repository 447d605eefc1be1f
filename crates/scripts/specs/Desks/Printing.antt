-- What a row of the desk prints (docs/SCENES.md). Assumes nothing.
use Rattle.std.specs.Prelude.{Bool, List, [], ◌∷◌, ◌++◌, ℕ, zero, suc, Option, None, Some}
use Rattle.laws.specs.Text.{codes}
use Rattle.records.specs.declared.records.Record.{Record}
use Rattle.desk.specs.declared.waiting.Waiting.{Waiting}
use Rattle.desk.specs.declared.state.Desk.{Desk}
use Rattle.desk.specs.Answers.{Done}
use Rattle.desk.specs.Heard.{Told}
use Rattle.clock.specs.Due.{When}
use Rattle.text.specs.Items.{record_text}
use Rattle.scripts.specs.Printing.{began_text, number_text, end_text, first_text, output_text}
use Rattle.scripts.specs.Tellings.Desks.{done_text, told_text}
use Rattle.scripts.specs.Tellings.Due.{due_text}

-- what every row ends with: line, last number taken, queued records
abbrev pub numbers_text : Bool → ℕ → ℕ → List ℕ
numbers_text good last queued = end_text good (codes ", last ") last (codes ", queued ") queued

-- a call that hears nothing: what it answers, and the state's numbers
unfoldable pub stepped_text : List ℕ → Done → Bool → ℕ → ℕ → List ℕ
stepped_text row did good last queued = began_text row ++ (done_text did ++ numbers_text good last queued)

-- what is due, and the state's numbers
unfoldable pub asked_text : List ℕ → When → Bool → ℕ → ℕ → List ℕ
asked_text row due good last queued = began_text row ++ (due_text due ++ numbers_text good last queued)

-- a hearing: what it answers, what its output holds, and the state's numbers
unfoldable pub heard_text : List ℕ → Told → List ℕ → Bool → ℕ → ℕ → List ℕ
heard_text row told sent good last queued = began_text row ++ (told_text told ++ (output_text sent ++ numbers_text good last queued))

-- an altered state
unfoldable pub altered_text : List ℕ → Bool → ℕ → ℕ → List ℕ
altered_text row good last queued = began_text row ++ (codes "altered" ++ numbers_text good last queued)

-- the line, T1's start, the key position and the stored answer
unfoldable pub starts_text : ℕ → ℕ → ℕ → List ℕ → ℕ → List ℕ
starts_text line t1 key stored kept = number_text (codes "line ") line ++ (number_text (codes ", T1 ") t1 ++ (codes ", key " ++ ((key ∷ []) ++ first_text (codes ", stored ") stored kept)))

-- the record set for r
unfoldable pub set_text : List ℕ → List ℕ
set_text said = codes ", set " ++ said

abbrev pub wanted_text : Option Record → List ℕ
wanted_text None = []
wanted_text (Some rec) = set_text (record_text rec)

-- a record that waits
abbrev pub waiting_text : Waiting → List ℕ
waiting_text waiting = codes ", waits " ++ record_text waiting.rec

-- the first so many that wait, the oldest first
unfoldable pub queue_text : ℕ → List Waiting → List ℕ
queue_text queued [] = []
queue_text zero (waiting ∷ queue) = []
queue_text (suc queued) (waiting ∷ queue) = waiting_text waiting ++ queue_text queued queue

-- the whole state: its numbers, the record set for r and those that wait
unfoldable pub whole_text : List ℕ → Desk → List ℕ
whole_text row d =
    began_text row
    ++ (starts_text d.line d.t1 d.key d.stored d.kept
    ++ (wanted_text d.requested
    ++ (queue_text d.queued d.queue
    ++ numbers_text d.good d.last.0 d.queued)))
