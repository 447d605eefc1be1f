-- Words for a person: of the refusals, and of the desk's and the master's answers (include/in656.h; rules F14 to F16). Assumes nothing.
use Rattle.std.specs.Prelude.{◌≡◌, ℕ, suc, ◌<◌, ◌≤◌, cond, List, [], ◌∷◌, ◌++◌, eqb, leb, length, drop, get_or, Result, Bool}
use Prim.Native.Char.{code}
use Rattle.laws.specs.Text.{codes}
use Rattle.records.specs.Refusals.{no, refusal_of}
use Rattle.records.specs.declared.refusals.Refusal.{Refusal}
use Rattle.records.specs.declared.refusals.Refusal.{Refusal}
use Rattle.desk.specs.declared.heard.Heard.{Heard}
use Rattle.desk.specs.Answers.{done_of}
use Rattle.desk.specs.Heard as d
use Rattle.master.specs.declared.answers.Answer.{Answer}
use Rattle.master.specs.Answers as m
use Rattle.in656.specs.declared.results.result.In656Result.{In656Result}
use Rattle.in656.specs.Results.Result.{Call, zeros, refusing, with_written}
use Rattle.in656.specs.Results.Desks.{done_result, heard_result}
use Rattle.in656.specs.Results.Frames.{desk_frame, master_frame}
use Rattle.in656.specs.Results.Masters.{told_result}

-- what stands between the words of one outcome, and between the outcomes, in the program's tables
abbrev pub bar : ℕ
bar = code "|"

abbrev pub line_feed : ℕ
line_feed = 10

-- a table of words: a row for each outcome from 0 on, in it the words of each detail from 0 on; no words where nothing stands
abbrev pub Table : Type 0
Table = List (List (List ℕ))

abbrev pub words_of : Table → ℕ → ℕ → List ℕ
words_of table outcome detail = get_or (get_or table outcome []) detail []

-- an outcome without details
abbrev pub plain : List ℕ → List (List ℕ)
plain words = words ∷ []

-- an outcome that always has a detail: from 1 on
abbrev pub detailed : List (List ℕ) → List (List ℕ)
detailed rows = [] ∷ rows

-- the refusals
abbrev pub refusal_table : Table
refusal_table =
    plain (codes "not refused") ∷
    plain (codes "under 10 bytes") ∷
    plain (codes "over 66 bytes") ∷
    plain (codes "the first byte is not LF") ∷
    plain (codes "the byte count is not two digits, or not the length less 2") ∷
    plain (codes "the last byte is not CR") ∷
    plain (codes "the checksum is wrong, or not of 0-9 A-F") ∷
    plain (codes "the number is not 0 or 1") ∷
    plain (codes "this line has no telegram of this type") ∷
    plain (codes "a data byte is outside the character set") ∷
    plain (codes "the data field has another length, or a packet letter is wrong") ∷
    plain (codes "a value is not permitted") ∷
    plain (codes "this end does not send this record on this line") ∷
    plain (codes "a value, a number or the key position is out of its range") ∷
    plain (codes "the output has too little room") ∷
    plain (codes "there is no such line, or a state is out of its ranges") ∷
    plain (codes "the master is not free: it has not ended its last telegram") ∷
    plain (codes "the desk's queue is full: eight records wait") ∷
    plain (codes "a record of a log has an unknown mark") ∷
    plain (codes "its length is over 66, or it is a hit with a length") ∷
    plain (codes "the log ends inside a record") ∷
    []

-- the desk's outcomes
abbrev pub desk_table : Table
desk_table =
    [] ∷
    plain (codes "done") ∷
    plain (codes "nothing is sent: the frame is refused") ∷
    plain (codes "a checksum fault: N with 1 is sent") ∷
    plain (codes "a repeat: the stored answer is sent again") ∷
    detailed (
    codes "handled: answered with the record set for r" ∷
    codes "handled: answered with the oldest record of the queue" ∷
    codes "handled: answered with A, since no record waits" ∷
    codes "handled: answered with A, and the record is for the panel" ∷
    codes "handled: answered with N, since the contents are refused" ∷
    codes "handled: answered with N, since the master does not send this telegram" ∷
    codes "handled: answered with N, since no record is set for r" ∷
    []) ∷
    []

-- the master's outcomes
abbrev pub master_table : Table
master_table =
    [] ∷
    plain (codes "nothing to do") ∷
    detailed (codes "sent: the record that was offered" ∷ codes "sent: the same telegram again" ∷ codes "sent: a poll" ∷ []) ∷
    plain (codes "answered") ∷
    plain (codes "an answer of another kind") ∷
    detailed (codes "given up: no answer came, and the line is noted lost" ∷ codes "given up: the last sending was rejected" ∷ []) ∷
    detailed (
    codes "ignored: the master waits on no telegram" ∷
    codes "ignored: T2 has run out" ∷
    codes "ignored: the frame is refused" ∷
    codes "ignored: it has the other number" ∷
    []) ∷
    []

-- words at the front of an output, with a 0 behind them: 13 where there are none, then 14 where they and the 0 are longer than the output
unfoldable pub worded : List ℕ → List ℕ → Call
worded words out =
    cond (eqb (length words) 0) (refusing (no 13 0), out)
    (cond (leb (length out) (length words)) (refusing (no 14 0), out)
    (with_written zeros (length words), words ++ (0 ∷ drop (suc (length words)) out)))

unfoldable pub refusal_words : ℕ → List ℕ → Call
refusal_words refusal out = worded (words_of refusal_table refusal 0) out

unfoldable pub desk_words : ℕ → ℕ → List ℕ → Call
desk_words outcome detail out = worded (words_of desk_table outcome detail) out

unfoldable pub master_words : ℕ → ℕ → List ℕ → Call
master_words outcome detail out = worded (words_of master_table outcome detail) out

-- there are words for an outcome and its detail
abbrev pub Said : Table → ℕ → ℕ → Type 0
Said table outcome detail = 0 < length (words_of table outcome detail)

-- room for any words, with the 0 behind them
abbrev pub words_length : ℕ
words_length = 96

abbrev pub Room : Table → Type 0
Room table = (outcome detail : ℕ) → length (words_of table outcome detail) < words_length

-- different outcomes or details have different words
abbrev pub Apart : Table → Type 0
Apart table = (o d p e : ℕ) → Said table o d → words_of table o d ≡ words_of table p e → (o ≡ p) × (d ≡ e)

-- each refusal has words, and 0, which is none, has
abbrev pub EachRefusal : Type 0
EachRefusal = (x : Refusal) → Said refusal_table (refusal_of x).number 0

abbrev pub EachNumber : Type 0
EachNumber = (n : ℕ) → n ≤ 20 → Said refusal_table n 0

-- outcome and detail of a result that is no refusal have words
abbrev pub SaidOf : Table → In656Result → Type 0
SaidOf table r = r.refusal ≡ 0 → Said table r.outcome r.detail

-- whatever a desk or a master answers, and a hearing also with what it says of the frame
abbrev pub EachDone : Type 0
EachDone = (answer : Result Bool Refusal) → SaidOf desk_table (done_result (done_of answer))

abbrev pub EachHeard : Type 0
EachHeard = (answer : Result Heard Refusal) (line : ℕ) (frame : List ℕ) → SaidOf desk_table (desk_frame (d.told_of answer) line frame (heard_result (d.told_of answer)))

abbrev pub EachTold : Type 0
EachTold = (answer : Result Answer Refusal) → SaidOf master_table (told_result (m.told_of answer))

abbrev pub EachFrame : Type 0
EachFrame = (answer : Result Answer Refusal) (line : ℕ) (frame : List ℕ) → SaidOf master_table (master_frame (m.told_of answer) line frame (told_result (m.told_of answer)))
