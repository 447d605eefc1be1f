-- Our desk keeps the laws. Assumes nothing.
use mathlib.Core.Path.{◌≡◌, refl, sym, ◌∙◌, ap}
use mathlib.Core.Bool.{Bool, true, false, cond}
use mathlib.Core.List.{List, []}
use Prim.Native.Nat.{ℕ, ◌<◌}
use Prim.Native.Char.{code}
use lib.Dec.{T as So, eqb, leb, ltb}
use lib.ListN.{length, take, drop, replicate}
use lib.Seq.{take-append_seam}
use borrow.Author.Tests.{ltb-true}
use Rattle.laws.proofs.Truths.{clash, both_left}
use Rattle.forms.specs.Lines.{is_line}
use Rattle.forms.specs.Forms.{by_slave}
use Rattle.records.specs.Records.{type_of}
use Rattle.records.specs.declared.records.Record.{Record}
use Rattle.records.specs.declared.records.Record.TheVariants.{Rejected}
use Rattle.values.specs.Values.{permits_record}
use Rattle.records.specs.Answers.{Fault, good, fails}
use Rattle.writing.specs.Writing.{telegram_of, sent_of}
use Rattle.writing.proofs.Trips.{written-reads}
use Rattle.characters.specs.Marks.{longest}
use Rattle.desk.specs.Deciding.{What, Ruling, silent, fault, repeat, handle, answers_with}
use Rattle.desk.proofs.Numbers.{ruling_number}
use Rattle.desk.proofs.Permitted.{fault-permitted}
use Rattle.master.specs.Rules.{is_failure}
use Rattle.conduct.proofs.Master.Calls.{rejects}
use Rattle.desk.specs.Answers.{Done, done, lost}
use Rattle.desk.specs.State.{in_ranges, stored_of, start_of}
use Rattle.desk.specs.Panel.{loses_line, noted_of, faultless, record_fault, key_fault, with_queued, tick_of, queue_of, set_of, key_of}
use Rattle.desk.specs.Clearing.{clear_queue_of, clear_set_of}
use Rattle.desk.specs.Queue.{reply_to}
use Rattle.desk.specs.Hearing.{Hearing, faulted_of, repeated_of, handled_of, applied_of, ruling, heard_of, hear_of}
use Rattle.desk.specs.declared.state.Desk.{Desk}
use Rattle.desk.proofs.Answering.{answer-permitted}
use Rattle.conduct.proofs.Desk.Stored.{reply-sent}
use Rattle.conduct.proofs.Desk.Kept as k
use Rattle.conduct.specs.Desk.Calls as c
use Rattle.protocol.specs.Ends.{Said}
use Rattle.demand3.specs.Ours.{lost_in, said_of, is_lost, Panel, queues, sets, turns, clears_queue, clears_set, panel_of, FromSlave}
use Rattle.protocol.specs.Rules.{Reading, DView, First, DHears, frame, view}
use Rattle.demand3.proofs.Numbers.{is_one, differ-other, read}
use Rattle.demand3.proofs.Settled.{Settled, settled}
use Rattle.demand3.proofs.MasterKeeps.{nak}

-- what is seen of the desk
abbrev pub dview : Desk → DView (List ℕ)
dview d = view d.good (is_one d.last.0) (stored_of d)

-- in its ranges, on the line of its start
pub record Fine (line : ℕ) (d : Desk) : Type 0 where
  pub fine : c.Fine d
  pub lined : d.line ≡ line

keeps-fine : {line : ℕ} {d e : Desk} → Fine line d → k.Keeps d e → Fine line e
keeps-fine i q = record { fine = q.fine; lined = q.line ∙ i.lined }

-- the first rule
loses-good : {l : Bool} {a : List ℕ} (g : Bool) → g ≡ true → First (view g l a) true (view false l a)
loses-good true e = First.loses
loses-good false e = clash e

first_of : (d : Desk) (b : Bool) → (b ≡ true → d.good ≡ true) → First (dview d) b (dview (noted_of d b))
unfolding noted_of
first_of d true p = loses-good d.good (p refl)
first_of d false p = First.stays

first-rule : (d : Desk) (at : ℕ) → First (dview d) (loses_line d at) (dview (noted_of d (loses_line d at)))
first-rule d at = first_of d (loses_line d at) (unfold loses_line in (both_left d.good _))

-- a line that is good behind it was not noted lost
not_noted : (d : Desk) (b : Bool) → (noted_of d b).good ≡ true → b ≡ false
unfolding noted_of
not_noted d true e = sym e
not_noted d false e = refl

same-note : {u v : DView (List ℕ)} {b c : Bool} → b ≡ c → First u b v → First u c v
same-note e f = rw e at f

-- a test's two ways
split : (P : Hearing → Type 0) (b : Bool) {x y : Hearing} → (b ≡ true → P x) → (b ≡ false → P y) → P (cond b x y)
split P true f g = f refl
split P false f g = g refl

-- the bytes of a sending
sent_front : (t out : List ℕ) → take (sent_of t out).0 (sent_of t out).1 ≡ t
unfolding sent_of
sent_front t out = take-append_seam t (drop (length t) out)

-- a permitted record of the slave, written, reads as one that it sends
from-slave : (a line : ℕ) → a ≡ line → (rec : Record) (number : ℕ) → permits_record a rec ≡ true → by_slave a (type_of rec) ≡ true → number < 2 → FromSlave line (telegram_of a rec number)
from-slave a line e rec number p s n = rw (← e) (rec, number, written-reads a rec number p n, s)

pub so-true : (b : Bool) → So b → b ≡ true
so-true true p = refl
so-true false p = absurd p

-- what it hears, seen from a state d behind the first rule
module _ (line : ℕ) (d : Desk) (i : Fine line d) (at : ℕ) (bytes out : List ℕ) where
  -- what the desk does with it
  abbrev Heard : Hearing → Type 0
  Heard turn = DHears (nak line) (FromSlave line) bytes (read bytes) (dview d) (said_of bytes turn.1 turn.2) (dview turn.0)

  lined : is_line d.line ≡ true
  lined = (k.fits d i.fine).lined

  fault-rejects : (number : ℕ) → number < 2 → nak line (telegram_of line (Rejected (code "1")) number) ≡ true
  unfolding is_failure
  fault-rejects number n =
      let p = fault-permitted line (rw i.lined at lined) in
      ap rejects (written-reads line (Rejected (code "1")) number p n)

  wrong-sum : (noting : Bool) (number : ℕ) → number < 2 → Heard (faulted_of d noting number out)
  unfolding faulted_of
  wrong-sum noting number n = rw (sent_front (telegram_of d.line (Rejected (code "1")) number) out, i.lined) (DHears.faults (fault-rejects number n))

  -- a repeat, as it is seen
  repeats-seen : (g l : Bool) (a : List ℕ) (r : Reading) → g ≡ true → r ≡ frame l → DHears (nak line) (FromSlave line) bytes r (view g l a) (Said.says a) (view g l a)
  repeats-seen g l a r e q = rw (e, q) (DHears.repeats a tt)

  repeated : d.good ≡ true → read bytes ≡ frame (is_one d.last.0) → Heard (repeated_of d out)
  unfolding repeated_of
  repeated g e =
      rw (sent_front (stored_of d) out) (repeats-seen d.good (is_one d.last.0) (stored_of d) (read bytes) g e)

  handled : (noting : Bool) (number : ℕ) (what : What) → number < 2 → read bytes ≡ frame (is_one number) → (d.good ≡ true → eqb d.last.0 number ≡ false)
      → Heard (handled_of d noting at number (reply_to d what) out)
  unfolding handled_of
  handled noting number what n e g =
      let t = telegram_of d.line (reply_to d what).0 number in
      let l = ltb-true d.last.0 2 (k.fits d i.fine).numbered in
      let s = from-slave d.line line i.lined (reply_to d what).0 number (answer-permitted d i.fine.holds (k.fits d i.fine) what) (reply-sent d i.fine what) n in
      rw (sent_front t out, take-append_seam t (drop (length t) (replicate longest 0)), e)
      (DHears.takes (λ q. differ-other number d.last.0 n l (g (so-true d.good q))) s)

-- a call of hearing: the first rule, and then what it hears
abbrev Lawful : ℕ → Desk → List ℕ → Hearing → Type 0
Lawful line d bytes turn =
    (v : DView (List ℕ)) × First (dview d) (lost_in turn.1) v × DHears (nak line) (FromSlave line) bytes (read bytes) v (said_of bytes turn.1 turn.2) (dview turn.0)

module _ (line : ℕ) (d : Desk) (i : Fine line d) (at : ℕ) (bytes out : List ℕ) where
  -- the state behind the first rule
  abbrev noted : Desk
  noted = noted_of d (loses_line d at)

  noted-fine : Fine line noted
  noted-fine = keeps-fine i (k.noted-keeps d i.fine (loses_line d at))

  applied : (r : Ruling) → Settled noted bytes r → answers_with r < 2 → Lawful line d bytes (applied_of noted (loses_line d at) at r out)
  unfolding faulted_of repeated_of handled_of
  applied (silent x) s n = (dview noted, first-rule d at, DHears.mute)
  applied (fault x number) s n = (dview noted, first-rule d at, wrong-sum line noted noted-fine at bytes out (loses_line d at) number n)
  applied (repeat number what) s n =
      let f = same-note (not_noted d (loses_line d at) s.0) (first-rule d at) in
      (dview noted, f, repeated line noted noted-fine at bytes out s.0 s.1)
  applied (handle number what) s n = (dview noted, first-rule d at, handled line noted noted-fine at bytes out (loses_line d at) number what n s.0 s.1)

  pub hear-lawful : Fine line (hear_of d at bytes out).0 × Lawful line d bytes (hear_of d at bytes out)
  unfolding hear_of heard_of
  hear-lawful = (
    keeps-fine i (k.hear-keeps d i.fine at bytes out),
    split (Lawful line d bytes) (in_ranges d)
        (λ _. split (Lawful line d bytes) (leb longest (length out))
        (λ _. applied (ruling noted bytes) (settled noted bytes) (ruling_number noted.line noted.good noted.last.0 bytes))
        (λ _. (dview d, First.stays, DHears.mute)))
        (λ e. clash (sym e ∙ i.fine.ranged)),
  )

module _ (line : ℕ) (d : Desk) (i : Fine line d) where
  lost-told : (b : Bool) → is_lost (cond b lost done) ≡ b
  lost-told true = refl
  lost-told false = refl

  pub tick-lawful : (at : ℕ) → Fine line (tick_of d at).0 × First (dview d) (is_lost (tick_of d at).1) (dview (tick_of d at).0)
  unfolding tick_of
  tick-lawful at = (keeps-fine i (k.tick-keeps d i.fine at), rw (i.fine.ranged, lost-told (loses_line d at)) (first-rule d at))

  -- the panel changes nothing that is seen
  unseen : (f : Fault) (step : Desk × Done) → dview step.0 ≡ dview d → dview (faultless f d step).0 ≡ dview d
  unseen good step e = e
  unseen (fails x) step e = refl

  either-unseen : (b : Bool) (e : Desk) (told : Done) → dview e ≡ dview d → dview (cond {A = Desk × Done} b (e, done) (d, told)).0 ≡ dview d
  either-unseen true e told q = q
  either-unseen false e told q = refl

  pub panel-lawful : (a : Panel) → Fine line (panel_of d a) × (dview (panel_of d a) ≡ dview d)
  unfolding queue_of set_of key_of clear_queue_of clear_set_of
  panel-lawful (queues rec) = (keeps-fine i (k.queue-keeps d i.fine rec), unseen (record_fault d rec) _ (either-unseen (ltb d.queued 8) (with_queued d rec) _ refl))
  panel-lawful (sets rec) = (keeps-fine i (k.set_keeps d i.fine rec), unseen (record_fault d rec) _ refl)
  panel-lawful (turns key) = (keeps-fine i (k.key-keeps d i.fine key), unseen (key_fault d key) _ refl)
  panel-lawful clears_queue = (keeps-fine i (k.clear-queue-keeps d i.fine), either-unseen (in_ranges d) _ _ refl)
  panel-lawful clears_set = (keeps-fine i (k.clear-set-keeps d i.fine), either-unseen (in_ranges d) _ _ refl)

pub start-lawful : (line : ℕ) → is_line line ≡ true → Fine line (start_of line).0 × ((l : Bool) × (a : List ℕ) × (dview (start_of line).0 ≡ view false l a))
unfolding start_of
start-lawful line h = (record { fine = k.start_fine line h; lined = k.start-line line h }, (false, [], rw h refl))
