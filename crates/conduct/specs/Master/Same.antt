-- A sending is the telegram of the offered record, or of the poll, with the number to send, and the same bytes each time until it ends
-- (rules M17, E6). Assumes nothing.
use Rattle.std.specs.Prelude.{◌≡◌, true, List, [], ◌∷◌, ℕ, take, drop}
use Rattle.forms.specs.Lines.{is_line}
use Rattle.records.specs.declared.records.Record.{Record}
use Rattle.writing.specs.Writing.{telegram_of}
use Rattle.master.specs.declared.state.Master.{Master}
use Rattle.master.specs.Answers.{Which, again, Told, nothing, sent, answered, other_kind, given_up, ignored}
use Rattle.master.specs.Answers as t
use Rattle.master.specs.State.{started}
use Rattle.conduct.specs.Master.Calls.{Call, output_of, after, FirstSending}

-- the bytes of a sending, where held are those of the sending before it
pub data Right (held : List ℕ) (m : Master) (call : Call) (which : Which) (bytes : List ℕ) : Type 0 where
  -- a first sending: the telegram of the offered record or of the poll, with the number to send
  first : {rec : Record} → FirstSending m call which rec → bytes ≡ telegram_of m.line rec m.number.0 → Right held m call which bytes
  -- again: the same bytes
  same : which ≡ again → bytes ≡ held → Right held m call which bytes

-- what a call leaves in the output: a sending fills its front and keeps the bytes behind it; a call that sends nothing writes nothing
abbrev pub Leaves : List ℕ → Master → Call → Told → List ℕ → Type 0
Leaves held m call (t.refused x) new = new ≡ output_of call
Leaves held m call nothing new = new ≡ output_of call
Leaves held m call (sent which count n) new = Right held m call which (take n new) × (drop n new ≡ drop n (output_of call))
Leaves held m call (answered rec count) new = new ≡ output_of call
Leaves held m call (other_kind answer count) new = new ≡ output_of call
Leaves held m call (given_up cause count) new = new ≡ output_of call
Leaves held m call (ignored why) new = new ≡ output_of call

-- the bytes of the last sending, behind one more answer
abbrev pub last_sent : List ℕ → Told → List ℕ → List ℕ
last_sent held (t.refused x) new = held
last_sent held nothing new = held
last_sent held (sent which count n) new = take n new
last_sent held (answered rec count) new = held
last_sent held (other_kind answer count) new = held
last_sent held (given_up cause count) new = held
last_sent held (ignored why) new = held

-- each call of a run leaves that in its output
abbrev pub Sent : List ℕ → Master → List Call → Type 0
Sent held m [] = Unit {0}
Sent held m (call ∷ calls) =
    Leaves held m call (after m call).1.0 (after m call).1.1
    × Sent (last_sent held (after m call).1.0 (after m call).1.1) (after m call).0 calls

-- whatever calls are made from the start, each first sending is the telegram of the offered record or of the poll with the number to send,
-- each further one the same bytes, and no other call writes
abbrev pub SameBytes : Type 0
SameBytes = (line at : ℕ) → is_line line ≡ true → (calls : List Call) → Sent [] (started line at) calls
