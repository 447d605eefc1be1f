-- A handled t takes exactly the oldest queued record, and no other hearing takes one (rules D11, D13). Assumes nothing.
use Rattle.std.specs.Prelude.{◌≡◌, Bool, true, false, List, [], ◌∷◌, ◌++◌, map, ℕ, ◌≤◌, length, get_or, take, drop}
use Prim.Native.Char.{code}
use Rattle.forms.specs.Lines.{line_numbers, is_line}
use Rattle.records.specs.Records.{type_of}
use Rattle.records.specs.declared.records.Record.{Record}
use Rattle.records.specs.declared.records.Record.TheVariants.{Approved}
use Rattle.records.specs.Answers.{accepted}
use Rattle.reading.specs.Reading.{reading_of}
use Rattle.writing.specs.Writing.{telegram_of}
use Rattle.characters.specs.Marks.{longest}
use Rattle.desk.specs.Deciding.{poll, handle, repeats, ruling_in}
use Rattle.desk.specs.Replying.{Origin, queue, key, key_on}
use Rattle.desk.specs.Heard.{handled}
use Rattle.desk.specs.Waiting.{blank}
use Rattle.desk.specs.Panel.{loses_line}
use Rattle.desk.specs.Queue.{oldest}
use Rattle.desk.specs.Hearing.{Hearing, ruling, hear_of}
use Rattle.desk.specs.declared.waiting.Waiting.{Waiting}
use Rattle.desk.specs.declared.state.Desk.{Desk}
use Rattle.conduct.specs.Desk.Calls.{Fine, noted}

-- the records that wait in the queue, the oldest first
abbrev pub waiting : Desk → List Waiting
waiting d = take d.queued d.queue

-- a hearing answers with a record from this origin: its telegram, with this number, fills the front of the output
abbrev pub Answers : ℕ → Record → ℕ → Bool → Origin → List ℕ → Hearing → Type 0
Answers line rec n noting origin out h =
    (h.1 ≡ handled noting origin (length (telegram_of line rec n))) × (h.2 ≡ telegram_of line rec n ++ drop (length (telegram_of line rec n)) out)

-- the queue is as it was
abbrev pub Same : Desk → Desk → Type 0
Same d e = (e.queued ≡ d.queued) × (e.queue ≡ d.queue)

-- a handled t is a frame that reads as t with that number,
abbrev pub PollsByT : Type 0
PollsByT =
    (line : ℕ) (good : Bool) (last n : ℕ) (frame : List ℕ) → ruling_in line good last frame ≡ handle n poll
    → (rec : Record) × (reading_of line frame ≡ accepted rec n) × (type_of rec ≡ code "t")

-- and such a frame is a handled t, where it is no repeat
abbrev pub TPolls : Type 0
TPolls =
    (line : ℕ) (good : Bool) (last : ℕ) → is_line line ≡ true → (frame : List ℕ) (rec : Record) (n : ℕ) → reading_of line frame ≡ accepted rec n → type_of rec ≡ code "t"
    → repeats good last n ≡ false → ruling_in line good last frame ≡ handle n poll

-- a handled t with records queued is answered with the oldest, which leaves the queue; the others stay in their order
abbrev pub PollOldest : Type 0
PollOldest =
    (d : Desk) → Fine d → (at : ℕ) (frame out : List ℕ) → longest ≤ length out → (n : ℕ) → ruling (noted d at) frame ≡ handle n poll → ¬ (d.queued ≡ 0)
    → (waiting d ≡ get_or d.queue 0 blank ∷ waiting (hear_of d at frame out).0)
    × Answers d.line (oldest d) n (loses_line d at) queue out (hear_of d at frame out)

-- with an empty queue nothing leaves, and the answer is A: with the key position on line 3, with A else
abbrev pub PollEmpty : Type 0
PollEmpty =
    (d : Desk) → Fine d → (at : ℕ) (frame out : List ℕ) → longest ≤ length out → (n : ℕ) → ruling (noted d at) frame ≡ handle n poll → d.queued ≡ 0
    → (waiting d ≡ [])
    × (waiting (hear_of d at frame out).0 ≡ [])
    × Answers d.line (Approved (key_on d.line d.key)) n (loses_line d at) (key (key_on d.line d.key)) out (hear_of d at frame out)

-- that is what A carries on lines 1, 2 and 3
abbrev pub KeyByLine : Type 0
KeyByLine = (position : ℕ) → map (λ (line : ℕ). key_on line position) line_numbers ≡ code "A" ∷ code "A" ∷ position ∷ []

-- any other hearing leaves the queue as it was: a telegram of another type, a repeat, a silent one
abbrev pub OthersLeave : Type 0
OthersLeave =
    (d : Desk) → Fine d → (at : ℕ) (frame out : List ℕ) → ((n : ℕ) → ¬ (ruling (noted d at) frame ≡ handle n poll)) → Same d (hear_of d at frame out).0
