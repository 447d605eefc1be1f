-- Our master keeps the laws. Assumes nothing.
use mathlib.Core.Path.{◌≡◌, refl, ◌∙◌}
use mathlib.Core.Bool.{Bool, true, false}
use mathlib.Core.List.{List, []}
use Prim.Native.Nat.{ℕ, ◌+◌, ◌<◌}
use native.Mathlib.Omega.{arith}
use lib.ListN.{take}
use lib.Seq.{take-append_seam}
use borrow.Author.Tests.{ne_eqb}
use Rattle.laws.proofs.Truths.{both_left}
use Rattle.forms.specs.Lines.{is_line}
use Rattle.forms.specs.Forms.{by_master}
use Rattle.records.specs.Records.{type_of}
use Rattle.records.specs.declared.records.Record.{Record}
use Rattle.values.specs.Values.{permits_record}
use Rattle.reading.specs.Reading.{reading_of}
use Rattle.writing.specs.Writing.{telegram_of, sent_of}
use Rattle.writing.proofs.Trips.{written-reads}
use Rattle.master.specs.Answers.{Told, Which, again}
use Rattle.master.specs.State.{is_free, sendable, in_ranges, with_line, start_of}
use Rattle.master.specs.Sending.{Behind, sending_of, offer_of, tick_of}
use Rattle.master.specs.Hearing.{hear_of}
use Rattle.master.specs.declared.state.Master.{Master}
use Rattle.master.proofs.Ranges.{numbered, sendable_permits}
use Rattle.conduct.specs.Master.Calls.{Call, offers, ticks, hears, call_time, output_of, after, FirstSending, offered, polled}
use Rattle.conduct.proofs.Master.Calls.{rejects, brings, Quiet, barred, idle, unheard, Ends, permitted, strange, Does, stays, begins, repeats, ends, gives_up, does}
use Rattle.conduct.proofs.Master.Kept.{keeps, start-ranged}
use Rattle.protocol.specs.Ends.{Did, nothing, got}
use Rattle.demand3.specs.Ours.{did_of, behind_of, FromMaster}
use Rattle.protocol.specs.Rules.{MView, MActs, MHears, free, waits}
use Rattle.demand3.proofs.Numbers.{is_one, changed-other, read, good-frame, written-good}

-- what is seen of the master
abbrev view_if : Bool → Bool → List ℕ → ℕ → MView (List ℕ)
view_if true n bytes count = free n
view_if false n bytes count = waits n bytes count

abbrev pub mview : Master → MView (List ℕ)
mview m = view_if (is_free m) (is_one m.number.0) (telegram_of m.line m.rec m.number.0) m.count

-- N with 1 or 2 on a line
abbrev pub nak : ℕ → List ℕ → Bool
nak line bytes = rejects (reading_of line bytes)

-- in its ranges, on the line of its start
pub record Fine (line : ℕ) (m : Master) : Type 0 where
  pub ranged : in_ranges m ≡ true
  pub lined : m.line ≡ line

-- a record that the master may send, written, reads as one that it sends
from-master : (line : ℕ) (rec : Record) (number : ℕ) → sendable line rec ≡ true → number < 2 → FromMaster line (telegram_of line rec number)
unfolding sendable
from-master line rec number s n =
    (rec, number, written-reads line rec number (sendable_permits line rec s) n, both_left (by_master line (type_of rec)) (permits_record line rec) s)

-- the call hears
abbrev Hears : Call → Type 0
Hears (offers at rec out) = ⊥
Hears (ticks at out) = ⊥
Hears (hears at frame out) = Unit {0}

module _ (m : Master) (h : in_ranges m ≡ true) where
  quiet : (heard : List ℕ) (told : Told) (out : List ℕ) → Quiet told → did_of heard told out ≡ nothing
  quiet heard told out (barred n) = refl
  quiet heard told out idle = refl
  quiet heard told out unheard = refl

  -- what a sending puts on the line
  sent-bytes : (rec : Record) (out : List ℕ) →
      take (sent_of (telegram_of m.line rec m.number.0) out).0 (sent_of (telegram_of m.line rec m.number.0) out).1 ≡ telegram_of m.line rec m.number.0
  unfolding sent_of
  sent-bytes rec out = take-append_seam (telegram_of m.line rec m.number.0) _

  resent-view : (g : Bool) (at : ℕ) (out : List ℕ) → mview (sending_of again (with_line m g) m.rec (m.count + 1) at out).0
      ≡ waits (is_one m.number.0) (telegram_of m.line m.rec m.number.0) (m.count + 1)
  unfolding sending_of
  resent-view g at out = let z : ¬ (m.count + 1 ≡ 0) = λ q. omega arith in rw (ne_eqb (m.count + 1) 0 z)

  acted : (call : Call) (turn : Behind) → (Hears call → ⊥) → Does m call turn → MActs read (FromMaster m.line) (mview m) (did_of [] turn.1.0 turn.1.1) (mview turn.0)
  unfolding sending_of
  acted call turn n (stays told q) = rw (quiet [] told (output_of call) q) MActs.rests
  acted call turn n (begins sending rec offered f s r) =
      rw (f, sent-bytes rec (output_of call))
      (MActs.sends (written-good m.line rec m.number.0 (sendable_permits m.line rec s) (numbered m h)) (from-master m.line rec m.number.0 s (numbered m h)))
  acted call turn n (begins sending rec polled f s r) =
      rw (f, sent-bytes rec (output_of call))
      (MActs.sends (written-good m.line rec m.number.0 (sendable_permits m.line rec s) (numbered m h)) (from-master m.line rec m.number.0 s (numbered m h)))
  acted call turn n (repeats g f x r) =
      rw (f, resent-view g (call_time call) (output_of call), sent-bytes m.rec (output_of call)) MActs.resends
  acted call turn n (ends told o e f (brings a b)) = absurd (n tt)
  acted call turn n (gives_up cause f c) = rw f MActs.gives

  -- a hearing sends no first time, and an end is reported
  first-unheard : {call : Call} {sending : Which} {rec : Record} → FirstSending m call sending rec → Hears call → ⊥
  first-unheard offered q = q
  first-unheard polled q = q

  ended : (heard : List ℕ) (told : Told) (o : Bool) (out : List ℕ) → Ends m told o → did_of heard told out ≡ got heard m.count
  ended heard told o out permitted = refl
  ended heard told o out strange = refl

  heard : (at : ℕ) (bytes out : List ℕ) (turn : Behind) → Does m (hears at bytes out) turn →
      MHears (nak m.line) bytes (read bytes) (mview m) (did_of bytes turn.1.0 turn.1.1) (mview turn.0)
  unfolding sending_of
  heard at bytes out turn (stays told q) = rw (quiet bytes told out q) MHears.ignores
  heard at bytes out turn (begins sending rec q f s r) = absurd (first-unheard q tt)
  heard at bytes out turn (repeats g f x r) =
      rw (f, resent-view g at out, sent-bytes m.rec out) MHears.resends
  heard at bytes out turn (ends told o e f (brings a b)) =
      rw (f, ended bytes told o out e, good-frame bytes a, changed-other m.number.0 (numbered m h)) (MHears.takes b)
  heard at bytes out turn (gives_up cause f c) = rw f MHears.gives

  same_line : (call : Call) (turn : Behind) → Does m call turn → turn.0.line ≡ m.line
  unfolding sending_of
  same_line call turn (stays told q) = refl
  same_line call turn (begins sending rec q f s r) = refl
  same_line call turn (repeats g f x r) = refl
  same_line call turn (ends told o e f b) = refl
  same_line call turn (gives_up cause f c) = refl

-- the same on one line and on another that is equal to it
acts-on : {v w : MView (List ℕ)} {o : Did (List ℕ)} (a b : ℕ) → a ≡ b → MActs read (FromMaster a) v o w → MActs read (FromMaster b) v o w
acts-on a b e k = rw e at k

hears-on : {v w : MView (List ℕ)} {o : Did (List ℕ)} (bytes : List ℕ) (a b : ℕ) → a ≡ b → MHears (nak a) bytes (read bytes) v o w → MHears (nak b) bytes (read bytes) v o w
hears-on bytes a b e k = rw e at k

module _ (line : ℕ) (m : Master) (i : Fine line m) where
  stays-fine : (call : Call) → Fine line (after m call).0
  stays-fine call =
      record { ranged = keeps m i.ranged call; lined = same_line m i.ranged call (after m call) (does m i.ranged call) ∙ i.lined }

  acts-lawful : (call : Call) → (Hears call → ⊥) →
      Fine line (after m call).0 × MActs read (FromMaster line) (mview m) (did_of [] (after m call).1.0 (after m call).1.1) (mview (after m call).0)
  acts-lawful call n = (stays-fine call, acts-on m.line line i.lined (acted m i.ranged call (after m call) n (does m i.ranged call)))

  pub offer-lawful : (at : ℕ) (rec : Record) (out : List ℕ) → Fine line (offer_of m at rec out).0 ×
      MActs read (FromMaster line) (mview m) (behind_of [] (offer_of m at rec out)).did (mview (offer_of m at rec out).0)
  offer-lawful at rec out = acts-lawful (offers at rec out) (λ q. q)

  pub tick-lawful : (at : ℕ) (out : List ℕ) → Fine line (tick_of m at out).0 ×
      MActs read (FromMaster line) (mview m) (behind_of [] (tick_of m at out)).did (mview (tick_of m at out).0)
  tick-lawful at out = acts-lawful (ticks at out) (λ q. q)

  pub hear-lawful : (at : ℕ) (bytes out : List ℕ) → Fine line (hear_of m at bytes out).0 ×
      MHears (nak line) bytes (read bytes) (mview m) (behind_of bytes (hear_of m at bytes out)).did (mview (hear_of m at bytes out).0)
  hear-lawful at bytes out =
      (stays-fine (hears at bytes out), hears-on bytes m.line line i.lined (heard m i.ranged at bytes out (hear_of m at bytes out) (does m i.ranged (hears at bytes out))))

pub start-lawful : (line at : ℕ) → is_line line ≡ true → Fine line (start_of line at).0 × (mview (start_of line at).0 ≡ free false)
unfolding start_of
start-lawful line at h = rw h (record { ranged = start-ranged line at h; lined = refl }, refl)
