-- What the desk makes of a frame that it hears (rules E1, E4, D4 to D8). Assumes nothing.
use Rattle.std.specs.Prelude.{ℕ, Bool, cond, List, ◌++◌, leb, length, drop, replicate}
use Prim.Native.Char.{code}
use Rattle.records.specs.declared.records.Record.TheVariants.{Rejected}
use Rattle.writing.specs.Writing.{telegram_of, sent_of}
use Rattle.characters.specs.Marks.{longest}
use Rattle.records.specs.Refusals.{no}
use Rattle.desk.specs.Deciding.{Ruling, ruling_in}
use Rattle.desk.specs.Deciding as r
use Rattle.desk.specs.Replying.{Reply}
use Rattle.desk.specs.Heard.{Told, refused, silent, fault, repeat, handled}
use Rattle.desk.specs.State.{in_ranges, stored_of}
use Rattle.desk.specs.Panel.{loses_line, noted_of}
use Rattle.desk.specs.Queue.{reply_to, taken_by}
pub use Rattle.desk.specs.Queue.{marked, restarted}
use Rattle.desk.specs.declared.state.Desk.{Desk}

-- the state, what is told, and the output
abbrev pub Hearing : Type 0
Hearing = Desk × Told × List ℕ

-- the answer is stored, with zeros behind it
abbrev pub with_stored : Desk → List ℕ → Desk
with_stored d t =
    record {
      line = d.line;
      good = d.good;
      last = d.last;
      t1 = d.t1;
      kept = length t;
      stored = t ++ drop (length t) (replicate longest 0);
      requested = d.requested;
      queued = d.queued;
      queue = d.queue;
      key = d.key;
    }

-- answers N with 1 and that number; all else unchanged
unfoldable pub faulted_of : Desk → Bool → ℕ → List ℕ → Hearing
faulted_of d lost number out = sends (sent_of (telegram_of d.line (Rejected (code "1")) number) out)
  where
    sends : ℕ × List ℕ → Hearing
    sends s = (d, fault lost (code "1") s.0, s.1)

-- sends the stored answer again, bytes unchanged; handles nothing
unfoldable pub repeated_of : Desk → List ℕ → Hearing
repeated_of d out = sends (sent_of (stored_of d) out)
  where
    sends : ℕ × List ℕ → Hearing
    sends s = (d, repeat s.0, s.1)

-- handled: line good, number kept as last taken, T1 restarts, the answer is stored and sent
unfoldable pub handled_of : Desk → Bool → ℕ → ℕ → Reply → List ℕ → Hearing
handled_of d lost at number reply out = sends (telegram_of d.line reply.0 number)
  where
    sends : List ℕ → Hearing
    sends t = (with_stored (restarted (marked (taken_by d reply.1) number) at) t, handled lost reply.1 (sent_of t out).0, (sent_of t out).1)

abbrev pub applied_of : Desk → Bool → ℕ → Ruling → List ℕ → Hearing
-- silent: writes nothing
applied_of d lost at (r.silent x) out = (d, silent lost x, out)
-- refused 6 with number byte '0' or '1'
applied_of d lost at (r.fault x number) out = faulted_of d lost number out
-- a repeat
applied_of d lost at (r.repeat number what) out = repeated_of d out
-- good frame otherwise
applied_of d lost at (r.handle number what) out = handled_of d lost at number (reply_to d what) out

-- the rule that settles what the desk hears
abbrev pub ruling : Desk → List ℕ → Ruling
ruling d frame = ruling_in d.line d.good d.last.0 frame

-- at each hear, first: line good and T1 run out means line lost; then the rule that settles it
unfoldable pub heard_of : Desk → Bool → ℕ → List ℕ → List ℕ → Hearing
heard_of d lost at frame out = applied_of (noted_of d lost) lost at (ruling (noted_of d lost) frame) out

-- 15 where the state is out of its ranges, then 14 under 66 bytes of room: no hearing
unfoldable pub hear_of : Desk → ℕ → List ℕ → List ℕ → Hearing
hear_of d at frame out =
    cond (in_ranges d)
    (cond (leb longest (length out))
    (heard_of d (loses_line d at) at frame out)
    (d, refused (no 14 0), out))
    (d, refused (no 15 0), out)
