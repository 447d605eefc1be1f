-- Our two ends on a line, by the definitions that the promises of their functions name, and demand 3 of them. Assumes nothing.
use Rattle.std.specs.Prelude.{◌≡◌, Bool, true, false, List, [], ℕ, take}
use Rattle.forms.specs.Forms.{by_master, by_slave}
use Rattle.records.specs.Records.{type_of}
use Rattle.records.specs.declared.records.Record.{Record}
use Rattle.records.specs.Answers.{Fault, good, fails, first_fault, accepted}
use Rattle.reading.specs.Frame.{frame_checks}
use Rattle.reading.specs.Reading.{reading_of}
use Rattle.master.specs.Answers.{Told, refused, nothing, sent, answered, other_kind, given_up, ignored, offered, again, poll}
use Rattle.master.specs.Sending.{Behind, offer_of, tick_of}
use Rattle.master.specs.Hearing.{hear_of}
use Rattle.master.specs.declared.state.Master.{Master}
use Rattle.master.specs.State as m
use Rattle.desk.specs.Hearing.{Hearing}
use Rattle.desk.specs.declared.state.Desk.{Desk}
use Rattle.desk.specs.Answers as o
use Rattle.desk.specs.Heard as a
use Rattle.desk.specs.State as s
use Rattle.desk.specs.Panel as p
use Rattle.desk.specs.Clearing as c
use Rattle.desk.specs.Hearing as h
use Rattle.protocol.specs.Ends.{Did, Said, MOut, DNote, DOut, Ends, first, resent, got, gave, silent, says, handles}
use Rattle.protocol.specs.Ends as e

-- what the master did, by what it tells: the bytes that it heard, what it tells, and the output behind the call
abbrev pub did_of : List ℕ → Told → List ℕ → Did (List ℕ)
did_of heard (refused x) out = e.nothing
did_of heard nothing out = e.nothing
did_of heard (sent offered count bytes) out = first (take bytes out)
did_of heard (sent again count bytes) out = resent (take bytes out)
did_of heard (sent poll count bytes) out = first (take bytes out)
did_of heard (answered rec count) out = got heard count
did_of heard (other_kind answer count) out = got heard count
did_of heard (given_up cause count) out = gave count
did_of heard (ignored why) out = e.nothing

abbrev pub behind_of : List ℕ → Behind → MOut Master (List ℕ)
behind_of heard behind = record { m = behind.0; did = did_of heard behind.1.0 behind.1.1 }

-- whether the desk noted a lost line, by what it tells; it repeats only on a good line
abbrev pub lost_in : a.Told → Bool
lost_in (a.refused x) = false
lost_in (a.silent lost x) = lost
lost_in (a.fault lost cause bytes) = lost
lost_in (a.repeat bytes) = false
lost_in (a.handled lost origin bytes) = lost

-- what it did with the bytes that it heard; a call that it refuses hears nothing
abbrev pub said_of : List ℕ → a.Told → List ℕ → Said (List ℕ)
said_of heard (a.refused x) out = silent
said_of heard (a.silent lost x) out = silent
said_of heard (a.fault lost cause bytes) out = says (take bytes out)
said_of heard (a.repeat bytes) out = says (take bytes out)
said_of heard (a.handled lost origin bytes) out = handles heard (take bytes out)

abbrev pub hearing_of : List ℕ → Hearing → DOut Desk (List ℕ)
hearing_of heard hearing = record { d = hearing.0; noted = lost_in hearing.1; said = said_of heard hearing.1 hearing.2 }

-- the same for a tick of the desk
abbrev pub is_lost : o.Done → Bool
is_lost o.done = false
is_lost o.lost = true
is_lost (o.refused x) = false

abbrev pub ticking_of : Desk × o.Done → DNote Desk
ticking_of step = record { d = step.0; noted = is_lost step.1 }

-- a call of the panel: it queues a record, sets one for r, sets the key position, clears the queue, or takes back the record set for r
pub data Panel : Type 0 where
  queues : Record → Panel
  sets : Record → Panel
  turns : ℕ → Panel
  clears_queue : Panel
  clears_set : Panel

abbrev pub panel_of : Desk → Panel → Desk
panel_of d (queues rec) = (p.queue_of d rec).0
panel_of d (sets rec) = (p.set_of d rec).0
panel_of d (turns key) = (p.key_of d key).0
panel_of d clears_queue = (c.clear_queue_of d).0
panel_of d clears_set = (c.clear_set_of d).0

-- checks 1 to 7 refuse these bytes
abbrev pub is_fault : Fault → Bool
is_fault good = false
is_fault (fails x) = true

abbrev pub is_refused : List ℕ → Bool
is_refused bytes = is_fault (first_fault 1 (frame_checks bytes))

-- our two ends: what is heard and sent is bytes, and the room is an output of any length
abbrev pub ours : ℕ → Ends
ours line =
    record {
      F = List ℕ;
      M = Master;
      D = Desk;
      Offer = Record;
      Act = Panel;
      Room = List ℕ;
      refused = is_refused;
      mstart = λ at. (m.start_of line at).0;
      offer = λ m at rec out. behind_of [] (offer_of m at rec out);
      mtick = λ m at out. behind_of [] (tick_of m at out);
      mhear = λ m at heard out. behind_of heard (hear_of m at heard out);
      dstart = (s.start_of line).0;
      dtick = λ d at. ticking_of (p.tick_of d at);
      dhear = λ d at heard out. hearing_of heard (h.hear_of d at heard out);
      act = panel_of;
    }

-- bytes that read on a line as a record that the master sends there, or the slave
abbrev pub FromMaster : ℕ → List ℕ → Type 0
FromMaster line bytes = (rec : Record) × (number : ℕ) × (reading_of line bytes ≡ accepted rec number) × (by_master line (type_of rec) ≡ true)

abbrev pub FromSlave : ℕ → List ℕ → Type 0
FromSlave line bytes = (rec : Record) × (number : ℕ) × (reading_of line bytes ≡ accepted rec number) × (by_slave line (type_of rec) ≡ true)
