-- What a row of the master prints (docs/SCENES.md). Assumes nothing.
use Rattle.std.specs.Prelude.{Bool, cond, List, [], ◌++◌, ℕ, eqb}
use Rattle.laws.specs.Text.{codes}
use Rattle.records.specs.declared.records.Record.{Record}
use Rattle.master.specs.declared.state.Master.{Master}
use Rattle.master.specs.Answers.{Told}
use Rattle.clock.specs.Due.{When}
use Rattle.text.specs.Items.{record_text}
use Rattle.scripts.specs.Printing.{began_text, number_text, end_text, output_text}
use Rattle.scripts.specs.Tellings.Due.{due_text}
use Rattle.scripts.specs.Tellings.Masters.{told_text}

-- what every row ends with: line, number to send, sending count
abbrev pub numbers_text : Bool → ℕ → ℕ → List ℕ
numbers_text good number count = end_text good (codes ", number ") number (codes ", count ") count

-- what a call did, what its output holds, and the state's numbers
unfoldable pub did_text : List ℕ → Told → List ℕ → Bool → ℕ → ℕ → List ℕ
did_text row told sent good number count = began_text row ++ (told_text told ++ (output_text sent ++ numbers_text good number count))

-- what is due, and the state's numbers
unfoldable pub asked_text : List ℕ → When → Bool → ℕ → ℕ → List ℕ
asked_text row due good number count = began_text row ++ (due_text due ++ numbers_text good number count)

-- an altered state
unfoldable pub altered_text : List ℕ → Bool → ℕ → ℕ → List ℕ
altered_text row good number count = began_text row ++ (codes "altered" ++ numbers_text good number count)

-- whether the key is known to be in position Operation
abbrev pub operation_text : Bool → List ℕ
operation_text operation = cond operation (codes ", operation") []

-- the line, T0's start, and the key position by which T0 is
unfoldable pub starts_text : ℕ → ℕ → Bool → List ℕ
starts_text line t0 operation = number_text (codes "line ") line ++ (number_text (codes ", T0 ") t0 ++ operation_text operation)

-- while it is not free, T2's start and what is sent
unfoldable pub busy_text : ℕ → ℕ → Record → List ℕ
busy_text count t2 rec = cond (eqb count 0) [] (number_text (codes ", T2 ") t2 ++ (codes ", sends " ++ record_text rec))

-- the whole state
unfoldable pub whole_text : List ℕ → Master → List ℕ
whole_text row m =
    began_text row
    ++ (starts_text m.line m.t0 m.operation
    ++ (busy_text m.count m.t2 m.rec
    ++ numbers_text m.good m.number.0 m.count))
