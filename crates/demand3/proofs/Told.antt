-- What the master reports with an answer is what the bytes that answered read as. Assumes nothing.
use mathlib.Core.Path.{◌≡◌, refl}
use mathlib.Core.Bool.{Bool, true, false, cond}
use mathlib.Core.List.{List}
use Prim.Native.Nat.{ℕ}
use lib.Dec.{eqb}
use lib.ListN.{length, get_or}
use Rattle.records.specs.Records.{type_of}
use Rattle.records.specs.declared.records.Record.{Record}
use Rattle.records.specs.Answers.{Fault, first_fault, Answer, accepted}
use Rattle.records.specs.Answers as w
use Rattle.reading.specs.Frame.{frame_checks}
use Rattle.reading.specs.Reading.{reading_of}
use Rattle.clock.specs.Clock.{run_out}
use Rattle.clock.specs.Counters.{same_number, number_in}
use Rattle.master.specs.Rules.{is_failure, permitted_answer}
use Rattle.master.specs.Answering.{Judged, answered_by, taken_of, unless_bad, judge_of}
use Rattle.master.specs.Answering as j
use Rattle.demand3.specs.Theorems.{Tells, Telling}
use Rattle.master.specs.State.{is_free, call_fault}
use Rattle.master.specs.Sending.{Behind, t2_limit, unless_refused, sending_of, failed_of}
use Rattle.master.specs.Hearing.{settled_of, judged, hear_of}
use Rattle.master.specs.declared.state.Master.{Master}

module _ (line : ℕ) (bytes : List ℕ) where
  record Right (turn : Behind) : Type 0 where
    told : Tells line bytes turn.1.0

  split : (b : Bool) {x y : Behind} → Right x → Right y → Right (cond b x y)
  split true p q = p
  split false p q = q

  passed : (f : Fault) (m : Master) (out : List ℕ) {turn : Behind} → Right turn → Right (unless_refused f m out turn)
  passed w.good m out p = p
  passed (w.fails x) m out p = record { told = tt }

  -- a verdict's record or answer is the reading of these bytes
  abbrev Reads : Judged → Type 0
  Reads (j.refused x) = Unit {0}
  Reads j.other_number = Unit {0}
  Reads j.failed = Unit {0}
  Reads (j.answered rec) = (number : ℕ) × (reading_of line bytes ≡ accepted rec number)
  Reads (j.other_kind answer) = reading_of line bytes ≡ answer

  settled : (m : Master) (at : ℕ) (judged : Judged) (out : List ℕ) → Reads judged → Right (settled_of m at judged out)
  unfolding failed_of sending_of
  settled m at (j.refused x) out e = record { told = tt }
  settled m at j.other_number out e = record { told = tt }
  settled m at j.failed out e = split (eqb m.count 3) (record { told = tt }) (record { told = tt })
  settled m at (j.answered rec) out e = record { told = e }
  settled m at (j.other_kind answer) out e = record { told = e }

  -- what a frame is judged is what it reads as
  record-reads : (kind : ℕ) (rec : Record) (number : ℕ) → reading_of line bytes ≡ accepted rec number → Reads (answered_by line kind rec number)
  unfolding answered_by
  record-reads kind rec number e = go (is_failure rec) (permitted_answer line kind (type_of rec))
    where
      go : (a b : Bool) → Reads (cond a j.failed (cond b (j.answered rec) (j.other_kind (accepted rec number))))
      go true b = tt
      go false true = (number, e)
      go false false = e

  answer-reads : (kind : ℕ) (answer : Answer) → reading_of line bytes ≡ answer → Reads (taken_of line kind answer)
  answer-reads kind (accepted rec number) e = record-reads kind rec number e
  answer-reads kind (w.refused x) e = e

  frame-reads : (number kind : ℕ) → Reads (judge_of line number kind bytes)
  unfolding judge_of
  frame-reads number kind = go (first_fault 1 (frame_checks bytes)) (same_number number (number_in (get_or bytes 4 0)))
    where
      go : (f : Fault) (b : Bool) → Reads (unless_bad f (cond b (taken_of line kind (reading_of line bytes)) j.other_number))
      go w.good true = answer-reads kind (reading_of line bytes) refl
      go w.good false = tt
      go (w.fails x) b = tt

module _ (m : Master) (at : ℕ) (bytes out : List ℕ) where
  heard : Right m.line bytes (hear_of m at bytes out)
  unfolding hear_of
  heard =
      passed m.line bytes (call_fault m (length out)) m out
      (split m.line bytes (is_free m) (record { told = tt })
      (split m.line bytes (run_out at m.t2 t2_limit) (record { told = tt })
      (settled m.line bytes m at (judged m bytes) out (frame-reads m.line bytes m.number.0 (type_of m.rec)))))

pub tells : Telling
tells m at bytes out = (heard m at bytes out).told
