-- T0 and T2 behind any calls, told by the calls and their answers alone, without the state (rules K4, M3, M18). Assumes nothing.
use Rattle.std.specs.Prelude.{◌≡◌, cond, List, [], ◌∷◌, ◌++◌, ℕ, eqb, get_or}
use Prim.Native.Char.{code}
use Rattle.laws.specs.Truth.{both, All}
use Rattle.records.specs.Records.{type_of, values_of}
use Rattle.master.specs.Rules.{poll_of}
use Rattle.master.specs.declared.state.Master.{Master}
use Rattle.master.specs.Answers.{Which, offered, again, poll, Told, nothing, sent, answered, other_kind, given_up, ignored}
use Rattle.master.specs.Answers as t
use Rattle.master.specs.State.{started}
use Rattle.master.specs.Sending.{t0_limit}
use Rattle.master.specs.Timers.{start_behind}
use Rattle.conduct.specs.Master.Calls.{Call, offers, ticks, hears, call_time, after, run}

-- a call, and what it answered
abbrev pub Event : Type 0
Event = Call × Told

-- calls with their answers, one after the other
abbrev pub events_of : Master → List Call → List Event
events_of m [] = []
events_of m (call ∷ calls) = (call, (after m call).1.0) ∷ events_of (after m call).0 calls

-- the last of a list, and what stands for it where the list is empty
abbrev pub last_in : ℕ → List ℕ → ℕ
last_in none [] = none
last_in none (x ∷ xs) = last_in x xs

-- the type of a call's first sending: that of the offered record, or of the line's poll; a hearing makes none
abbrev pub first_type : ℕ → Call → ℕ
first_type line (offers at rec out) = type_of rec
first_type line (ticks at out) = type_of (poll_of line)
first_type line (hears at frame out) = 0

-- a sending again has the type of the one before it
abbrev pub type_by : ℕ → Which → ℕ → ℕ
type_by before offered first = first
type_by before again first = before
type_by before poll first = first

-- the type that was sent last, behind one more call
abbrev pub sent_type : ℕ → ℕ → Call → Told → ℕ
sent_type line before call (t.refused x) = before
sent_type line before call nothing = before
sent_type line before call (sent which count bytes) = type_by before which (first_type line call)
sent_type line before call (answered rec count) = before
sent_type line before call (other_kind answer count) = before
sent_type line before call (given_up cause count) = before
sent_type line before call (ignored why) = before

-- the key position that an answer to this type tells: the value of an A that answers t; no other answer tells one
abbrev pub position_in : ℕ → Told → List ℕ
position_in kind (t.refused x) = []
position_in kind nothing = []
position_in kind (sent which count bytes) = []
position_in kind (answered rec count) = cond (both (eqb kind (code "t")) (eqb (type_of rec) (code "A"))) (get_or (values_of rec) 0 0 ∷ []) []
position_in kind (other_kind answer count) = []
position_in kind (given_up cause count) = []
position_in kind (ignored why) = []

-- the key positions that were told, the oldest first; the line, and the type that was sent last before
abbrev pub positions : ℕ → ℕ → List Event → List ℕ
positions line kind [] = []
positions line kind (e ∷ es) = position_in kind e.1 ++ positions line (sent_type line kind e.0 e.1) es

-- the last key position told behind calls from the start; before any sending no type was sent, and 0 stands for a position that was never told
abbrev pub last_position : ℕ → ℕ → List Call → ℕ
last_position line at calls = last_in 0 (positions line 0 (events_of (started line at) calls))

-- a line, its T0, and its T0 where the last A that answered t carried X
pub record TimeRow : Type 0 where
  pub line : ℕ
  pub t0 : ℕ
  pub with_x : ℕ

abbrev pub times : ℕ → ℕ → ℕ → TimeRow
times line t0 with_x = record { line = line; t0 = t0; with_x = with_x }

-- line 1 (001 sections 3.2.1, 6.2), line 2 (section 7.3), line 3 (section 8.6)
abbrev pub paper_times : List TimeRow
paper_times = times 1 20000 20000 ∷ times 2 5000 5000 ∷ times 3 10000 20000 ∷ []

-- whatever calls are made from the start, T0's limit is that of the paper, by the last key position that an A told in answer to t
abbrev pub LimitTold : Type 0
LimitTold =
    All (λ (row : TimeRow). (at : ℕ) (calls : List Call)
    → t0_limit (run (started row.line at) calls) ≡ cond (eqb (last_position row.line at calls) (code "X")) row.with_x row.t0) paper_times

-- lines 1 and 2 never change theirs
abbrev pub OneLimit : Type 0
OneLimit = (at : ℕ) (calls : List Call) → (t0_limit (run (started 1 at) calls) ≡ 20000) × (t0_limit (run (started 2 at) calls) ≡ 5000)

-- the start of a timer behind calls: the time of the last that sent, or its start before them
abbrev pub start_after : ℕ → List Event → ℕ
start_after before [] = before
start_after before (e ∷ es) = start_after (start_behind e.1 (call_time e.0) before) es

-- T0 and T2 run from the last sending, or from the start: neither an answer, which may change T0's limit, nor a giving up restarts them
abbrev pub RunsFromSending : Type 0
RunsFromSending = (m : Master) (calls : List Call) → ((run m calls).t0 ≡ start_after m.t0 (events_of m calls)) × ((run m calls).t2 ≡ start_after m.t2 (events_of m calls))
