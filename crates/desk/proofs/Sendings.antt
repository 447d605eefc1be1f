-- What a sending does, and what each rule makes of state and output, a lemma for each return. Assumes nothing.
use mathlib.Core.Path.{◌≡◌, ap, ◌∙◌}
use mathlib.Core.Bool.{Bool, true}
use mathlib.Core.List.{List, ◌++◌}
use Prim.Native.Nat.{ℕ, ◌≤◌, ◌<◌}
use Prim.Native.Char.{code}
use native.Mathlib.Omega.{arith}
use lib.ListN.{length, take, drop, replicate, length-append}
use lib.Seq.{take-append_seam, take-length}
use borrow.Author.Tests.{lt-leb, le-leb}
use Rattle.records.specs.Refusals.{no}
use Rattle.records.specs.declared.records.Record.{Record}
use Rattle.records.specs.declared.records.Record.TheVariants.{Rejected}
use Rattle.values.specs.Values.{permits_record}
use Rattle.writing.specs.Writing.{telegram_of, sent_of, send_of}
use Rattle.writing.proofs.Trips.{telegram-length, length-bounds, sent-whole}
use Rattle.characters.specs.Marks.{longest}
use Rattle.desk.specs.Deciding.{What, Ruling}
use Rattle.desk.specs.Replying.{Origin}
use Rattle.desk.specs.State.{in_ranges, stored_of}
use Rattle.desk.specs.Panel.{loses_line, noted_of}
use Rattle.desk.specs.Heard.{Told, fault, repeat, handled}
use Rattle.desk.specs.Queue.{reply_to, taken_by}
use Rattle.desk.specs.Hearing.{with_stored, marked, restarted, faulted_of, repeated_of, handled_of, applied_of, ruling, heard_of, hear_of}
use Rattle.desk.specs.declared.state.Desk.{Desk}

-- a telegram that was sent has at most 66 bytes, and stands in front of the output
module _ (line : ℕ) (rec : Record) (number : ℕ) (out : List ℕ) (p : permits_record line rec ≡ true) (n : number < 2) (room : longest ≤ length out)
    (k : ℕ) (new : List ℕ) (e : (k, new) ≡ send_of line rec number out) where
  pub as-sent : (k, new) ≡ sent_of (telegram_of line rec number) out
  as-sent = e ∙ sent-whole line rec number out p n room

  as_long : k ≡ length (telegram_of line rec number)
  unfolding sent_of
  as_long = ap (λ (x : ℕ × List ℕ). x.0) as-sent

  in-front : new ≡ telegram_of line rec number ++ drop (length (telegram_of line rec number)) out
  unfolding sent_of
  in-front = ap (λ (x : ℕ × List ℕ). x.1) as-sent

  pub sent_front : take k new ≡ telegram_of line rec number
  sent_front = rw (as_long, in-front) (take-append_seam (telegram_of line rec number) _)

  pub front-most : length (take k new) ≤ longest
  front-most = rw sent_front (omega (arith, telegram-length line rec number p, (length-bounds line rec p).1))

  pub sent-inside : k ≤ length new
  sent-inside = omega (arith, as_long, ap length in-front ∙ length-append (telegram_of line rec number) _)

pub stored : (d : Desk) (s new : List ℕ) (n : ℕ) → n ≡ length s → new ≡ take (length s) s ++ drop (length s) (replicate longest 0)
    → ◌≡◌ {A = Desk} record {
      line = d.line;
      good = d.good;
      last = d.last;
      t1 = d.t1;
      kept = n;
      stored = new;
      requested = d.requested;
      queued = d.queued;
      queue = d.queue;
      key = d.key;
    }
    (with_stored d s)
stored d s new n h e = rw (h, e, take-length)

pub fault-sent : (d : Desk) (lost : Bool) (number : ℕ) (out : List ℕ) (k : ℕ) (new : List ℕ) → (k, new) ≡ sent_of (telegram_of d.line (Rejected (code "1")) number) out
    → (d, fault lost (code "1") k, new) ≡ faulted_of d lost number out
unfolding faulted_of
fault-sent d lost number out k new e = rw (← e)

pub repeat-sent : (d : Desk) (out : List ℕ) (k : ℕ) (new : List ℕ) → k ≡ length (stored_of d)
    → new ≡ take (length (stored_of d)) (stored_of d) ++ drop (length (stored_of d)) out
    → (d, repeat k, new) ≡ repeated_of d out
unfolding repeated_of sent_of
repeat-sent d out k new l e = rw (l, e, take-length)

-- a handled telegram, whose answer is permitted
module _ (d : Desk) (what : What) (rec : Record) (origin : Origin) (g : (rec, origin) ≡ reply_to d what) (p : permits_record d.line rec ≡ true) where
  pub handle-sent : (lost : Bool) (at number : ℕ) (out : List ℕ) → number < 2 → longest ≤ length out → (k : ℕ) (new : List ℕ) → (k, new) ≡ send_of d.line rec number out
      → (c e : Desk) → c ≡ restarted (marked (taken_by d origin) number) at → e ≡ with_stored c (take k new)
      → (e, handled lost origin k, new) ≡ handled_of d lost at number (reply_to d what) out
  unfolding handled_of
  handle-sent lost at number out n room k new h c e ec ee =
      rw (← g, ee, ec, sent_front d.line rec number out p n room k new h, ← (as-sent d.line rec number out p n room k new h))

module _ (d : Desk) (at : ℕ) (frame out : List ℕ) where
  pub hear-room : in_ranges d ≡ true → length out < longest → (d, Told.refused (no 14 0), out) ≡ hear_of d at frame out
  unfolding hear_of
  hear-room h k = rw (h, lt-leb longest (length out) k)

  pub hear-settled : in_ranges d ≡ true → longest ≤ length out → (lost : Bool) → lost ≡ loses_line d at → heard_of d lost at frame out ≡ hear_of d at frame out
  unfolding hear_of
  hear-settled h k lost a = rw (h, le-leb longest (length out) k, a)

  -- the line noted lost or not, and the rule that settles the frame
  module _ (lost : Bool) (e : Desk) (b : e ≡ noted_of d lost) (r : Ruling) (g : r ≡ ruling e frame) where
    pub settle-applied : applied_of e lost at r out ≡ heard_of d lost at frame out
    unfolding heard_of
    settle-applied = rw (g, b)

  pub hear-applied : in_ranges d ≡ true → longest ≤ length out → (lost : Bool) → lost ≡ loses_line d at → (e : Desk) → e ≡ noted_of d lost
      → (r : Ruling) → r ≡ ruling e frame → applied_of e lost at r out ≡ hear_of d at frame out
  hear-applied h k lost a e b r g = settle-applied lost e b r g ∙ hear-settled h k lost a
