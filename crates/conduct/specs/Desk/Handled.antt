-- What answers a good frame that is no repeat, row by row, and which answers are N with A (rules D8 to D13). Assumes nothing.
use Rattle.std.specs.Prelude.{◌≡◌, Bool, true, false, List, ℕ, ◌≤◌, length, get_or, take, None, Some}
use Prim.Native.Char.{code}
use Rattle.characters.specs.Marks.{longest}
use Rattle.forms.specs.Forms.{by_master}
use Rattle.records.specs.Refusals.{No}
use Rattle.records.specs.Records.{type_of}
use Rattle.records.specs.declared.records.Record.{Record}
use Rattle.records.specs.declared.records.Record.TheVariants.{Approved, Rejected}
use Rattle.records.specs.Answers.{accepted}
use Rattle.records.specs.Answers as w
use Rattle.reading.specs.Reading.{reading_of}
use Rattle.writing.specs.Writing.{telegram_of}
use Rattle.clock.specs.Counters.{number_in}
use Rattle.desk.specs.Deciding.{repeats}
use Rattle.desk.specs.Replying.{Origin, key_on}
use Rattle.desk.specs.Replying as o
use Rattle.desk.specs.Heard.{handled}
use Rattle.desk.specs.Panel.{loses_line}
use Rattle.desk.specs.Queue.{oldest}
use Rattle.desk.specs.Hearing.{hear_of}
use Rattle.desk.specs.declared.state.Desk.{Desk}
use Rattle.conduct.specs.Desk.Calls.{Fine, noted}
use Rattle.conduct.specs.Desk.Polls.{Answers}

-- the paper's rows: a frame's number, the record that answers it, and what is told of where the answer comes from
pub data ReplyRow (d : Desk) (frame : List ℕ) : ℕ → Record → Origin → Type 0 where
  -- contents refused 8 to 11: N with A
  contents : {x : No} → reading_of d.line frame ≡ w.refused x → 8 ≤ x.number → x.number ≤ 11
      → ReplyRow d frame (number_in (get_or frame 4 0)) (Rejected (code "A")) (o.contents (code "A") x)
  -- a type the master does not send on this line: N with A
  not_master : {rec : Record} {n : ℕ} → reading_of d.line frame ≡ accepted rec n → by_master d.line (type_of rec) ≡ false
      → ReplyRow d frame n (Rejected (code "A")) (o.not_master (code "A"))
  -- r: the record set for it,
  requested : {rec set : Record} {n : ℕ} → reading_of d.line frame ≡ accepted rec n → type_of rec ≡ code "r" → d.requested ≡ Some set → ReplyRow d frame n set o.requested
  -- else N with A
  nothing_set : {rec : Record} {n : ℕ} → reading_of d.line frame ≡ accepted rec n → type_of rec ≡ code "r" → d.requested ≡ None
      → ReplyRow d frame n (Rejected (code "A")) (o.nothing_set (code "A"))
  -- t: the oldest queued record,
  queue : {rec : Record} {n : ℕ} → reading_of d.line frame ≡ accepted rec n → type_of rec ≡ code "t" → ¬ (d.queued ≡ 0) → ReplyRow d frame n (oldest d) o.queue
  -- else A, with the key position on line 3
  key : {rec : Record} {n : ℕ} → reading_of d.line frame ≡ accepted rec n → type_of rec ≡ code "t" → d.queued ≡ 0
      → ReplyRow d frame n (Approved (key_on d.line d.key)) (o.key (key_on d.line d.key))
  -- other types of the master: the record goes to the panel, as it was read, and the answer is A with A
  panel : {rec : Record} {n : ℕ} → reading_of d.line frame ≡ accepted rec n → by_master d.line (type_of rec) ≡ true → ¬ (type_of rec ≡ code "r") → ¬ (type_of rec ≡ code "t")
      → ReplyRow d frame n (Approved (code "A")) (o.panel (code "A") rec)

-- after the first rule, the number is not one that makes the frame a repeat
abbrev pub New : Desk → ℕ → ℕ → Type 0
New d at n = repeats (noted d at).good (noted d at).last.0 n ≡ false

-- a frame of a row that is no repeat is handled and answered as the row says,
abbrev pub RowAnswers : Type 0
RowAnswers =
    (d : Desk) → Fine d → (at : ℕ) (frame out : List ℕ) → longest ≤ length out → (n : ℕ) (rec : Record) (origin : Origin) → ReplyRow d frame n rec origin → New d at n
    → Answers d.line rec n (loses_line d at) origin out (hear_of d at frame out)

-- a handled frame: it is no repeat, it has a row, and the row's record with its number was sent
pub record HasRow (d : Desk) (at : ℕ) (frame : List ℕ) (origin : Origin) (sent : List ℕ) : Type 0 where
  pub number : ℕ
  pub answer : Record
  pub row : ReplyRow d frame number answer origin
  pub new : New d at number
  pub telegram : sent ≡ telegram_of d.line answer number

-- and no other frame is handled
abbrev pub OnlyRows : Type 0
OnlyRows =
    (d : Desk) → Fine d → (at : ℕ) (frame out : List ℕ) (noting : Bool) (origin : Origin) (k : ℕ) → (hear_of d at frame out).1 ≡ handled noting origin k
    → HasRow d at frame origin (take k (hear_of d at frame out).2)

-- the origins of N with A: contents refused, a type that is not the master's, r with nothing set
abbrev pub answers_n : Origin → Bool
answers_n o.requested = false
answers_n o.queue = false
answers_n (o.key position) = false
answers_n (o.panel value rec) = false
answers_n (o.contents value x) = true
answers_n (o.not_master value) = true
answers_n (o.nothing_set value) = true

-- a row answers N with A where its origin is one of these, and with no N else
abbrev pub NWithA : Type 0
NWithA =
    (d : Desk) → Fine d → (frame : List ℕ) (n : ℕ) (rec : Record) (origin : Origin) → ReplyRow d frame n rec origin
    → (answers_n origin ≡ true → rec ≡ Rejected (code "A")) × (answers_n origin ≡ false → ¬ (type_of rec ≡ code "N"))
