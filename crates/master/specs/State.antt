-- The master's state: its start, its ranges, and what changes it (rules M1, M3, M14, M15, M18, E9, E11). Assumes nothing.
use Rattle.std.specs.Prelude.{ℕ, Bool, true, false, cond, ltb, eqb}
use Prim.Native.Char.{code}
use Rattle.laws.specs.Truth.{both, either}
use Rattle.forms.specs.Lines.{is_line}
use Rattle.forms.specs.Forms.{by_master}
use Rattle.records.specs.Refusals.{no}
use Rattle.records.specs.Records.{type_of}
use Rattle.records.specs.declared.records.Record.{Record}
use Rattle.records.specs.declared.records.Record.TheVariants.{Idling}
use Rattle.values.specs.Values.{permits_record}
use Rattle.records.specs.Answers.{Fault, good, fails}
use Rattle.characters.specs.Marks.{longest}
use Rattle.clock.specs.Counters.{in_range, changed_of}
use Rattle.master.specs.Times.{operation_fits, operation_after}
use Rattle.clock.specs.declared.counters.ToSend.{ToSend}
use Rattle.master.specs.declared.state.Master.{Master}
use Rattle.master.specs.Answers.{Told, refused, nothing}

-- a number to send
abbrev pub to_send : ℕ → ToSend
to_send n = record { 0 = n }

-- starts free, number 0, line good, T0 running from the start call, and the key not known to be in position Operation
abbrev pub started : ℕ → ℕ → Master
started line at = record { line = line; good = true; number = to_send 0; count = 0; rec = Idling (code "t"); t0 = at; t2 = at; operation = false }

-- what a refused start gives: a fixed state whose line is 0
abbrev pub unstarted : Master
unstarted = record { line = 0; good = false; number = to_send 0; count = 0; rec = Idling (code "t"); t0 = 0; t2 = 0; operation = false }

-- 15 where the line is not 1, 2 or 3
unfoldable pub start_of : ℕ → ℕ → Master × Told
start_of line at = cond (is_line line) (started line at, nothing) (unstarted, refused (no 15 0))

-- free: no sending waits or is to be made again
abbrev pub is_free : Master → Bool
is_free m = eqb m.count 0

-- the master may send a record on a line: it sends the type there, and the values are permitted
unfoldable pub sendable : ℕ → Record → Bool
sendable line rec = both (by_master line (type_of rec)) (permits_record line rec)

-- what is asked of a free state: line 1 to 3, number 0 or 1, and a flag that the line allows
unfoldable pub fits_free : Master → Bool
fits_free m = both (is_line m.line) (both (in_range m.number.0) (operation_fits m.line m.operation))

-- that, and free, or a count of 1 to 3 with a record that the master may send on the line
unfoldable pub in_ranges : Master → Bool
in_ranges m = both (fits_free m) (either (is_free m) (both (ltb m.count 4) (sendable m.line m.rec)))

-- calls that may send: 15 where the state is out of its ranges, then 14 under 66 bytes of room
unfoldable pub call_fault : Master → ℕ → Fault
call_fault m room = cond (in_ranges m) (cond (ltb room longest) (fails (no 14 0)) good) (fails (no 15 0))

-- behind a sending, which restarts T0 and T2
abbrev pub after_sending : Master → Record → ℕ → ℕ → Master
after_sending m rec count at = record { line = m.line; good = m.good; number = m.number; count = count; rec = rec; t0 = at; t2 = at; operation = m.operation }

-- the line noted good or lost
abbrev pub with_line : Master → Bool → Master
with_line m g = record { line = m.line; good = g; number = m.number; count = m.count; rec = m.rec; t0 = m.t0; t2 = m.t2; operation = m.operation }

-- free, with the next number to send
abbrev pub freed : Master → ToSend → Master
freed m number = record { line = m.line; good = m.good; number = number; count = 0; rec = m.rec; t0 = m.t0; t2 = m.t2; operation = m.operation }

-- answered: the number changes
abbrev pub answered_state : Master → Master
answered_state m = freed m (to_send (changed_of m.number.0))

-- the key position as an answer told it
abbrev pub with_operation : Master → Bool → Master
with_operation m operation =
    record { line = m.line; good = m.good; number = m.number; count = m.count; rec = m.rec; t0 = m.t0; t2 = m.t2; operation = operation }

-- answered by a permitted record: an A that answers t tells the key position too, and T0 runs on from its start (001 section 8.6)
abbrev pub answered_with : Master → Record → Master
answered_with m rec = with_operation (answered_state m) (operation_after m.line (type_of m.rec) rec m.operation)

-- given up, for either cause: the number becomes 0
abbrev pub given_up_state : Master → Master
given_up_state m = freed m (to_send 0)
