-- The master's poll and the permitted answers are those of the paper, row by row (rules M7, M12).
-- Assumes nothing.
use Rattle.std.specs.Prelude.{◌≡◌, Bool, true, false, cond, List, [], ◌∷◌, ◌++◌, map, ℕ, eqb}
use Prim.Native.Char.{code}
use Prim.Native.String.{String}
use Rattle.laws.specs.Truth.{both, either, one_of, every, All}
use Rattle.laws.specs.Text.{codes}
use Rattle.characters.specs.Marks.{lf, cr}
use Rattle.forms.specs.Lines.{line_numbers}
use Rattle.forms.specs.Forms.{by_master, forms}
use Rattle.forms.specs.declared.rows.Form.{Form}
use Rattle.records.specs.declared.records.Record.{Record}
use Rattle.records.specs.declared.records.Record.TheVariants.{Request, Idling}
use Rattle.writing.specs.Writing.{telegram_of}
use Rattle.master.specs.Rules.{poll_of, permitted_answer}

-- the telegram of a text, with LF and CR
abbrev pub telegram : String → List ℕ
telegram text = lf ∷ (codes text ++ (cr ∷ []))

-- a line, the record that its master polls with, and the poll's telegrams with number 0 and 1
abbrev pub PollRow : Type 0
PollRow = ℕ × (Record × (List ℕ × List ℕ))

-- on line 1 r for B (001 section 6.2), on line 2 r for 5 (section 7.3), on line 3 t (section 8.6)
abbrev pub paper_polls : List PollRow
paper_polls =
    (1, (Request (code "B"), (telegram "08r0BB72", telegram "08r1BB71"))) ∷
    (2, (Request (code "5"), (telegram "08r0B57F", telegram "08r1B57E"))) ∷
    (3, (Idling (code "t"), (telegram "08t0Bt3E", telegram "08t1Bt3D"))) ∷
    []

-- each line's poll is that of its row
abbrev pub EachPoll : Type 0
EachPoll = map (λ (line : ℕ). (line, (poll_of line, (telegram_of line (poll_of line) 0, telegram_of line (poll_of line) 1)))) line_numbers ≡ paper_polls

-- on a line, to these types, these answers
pub record AnswerRow : Type 0 where
  pub line : ℕ
  pub sent : List ℕ
  pub answers : List ℕ

abbrev pub answers : ℕ → String → String → AnswerRow
answers line sent got = record { line = line; sent = codes sent; answers = codes got }

-- permitted: to r the wanted type or N; to t the slave's data type, A or N; to others A or N
abbrev pub paper_answers : List AnswerRow
paper_answers =
    answers 1 "cFG" "AN" ∷ answers 1 "r" "BN" ∷ answers 1 "t" "BAN" ∷
    answers 2 "1F" "AN" ∷ answers 2 "r" "5N" ∷ answers 2 "t" "5AN" ∷
    answers 3 "Oon" "AN" ∷ answers 3 "r" "KN" ∷ answers 3 "t" "KAN" ∷
    []

-- of every byte: it is a permitted answer to a type just where the type's row lists it
abbrev pub PermitsSo : AnswerRow → Type 0
PermitsSo row = All (λ (sent : ℕ). (got : ℕ) → permitted_answer row.line sent got ≡ one_of row.answers got) row.sent

abbrev pub EachAnswer : Type 0
EachAnswer = All PermitsSo paper_answers

-- a type has a row on a line
abbrev pub is_listed : List AnswerRow → ℕ → ℕ → Bool
is_listed [] line sent = false
is_listed (row ∷ rows) line sent = either (both (eqb line row.line) (one_of row.sent sent)) (is_listed rows line sent)

-- each type of the table of forms has one on each line where the master sends it
abbrev pub EachTypeListed : Type 0
EachTypeListed = every (λ (line : ℕ). every (λ (f : Form). cond (by_master line f.kind) (is_listed paper_answers line f.kind) true) forms) line_numbers ≡ true
