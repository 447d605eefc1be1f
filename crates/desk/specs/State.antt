-- The desk's state: its ranges and its start (rules D1, E9, E10). Assumes nothing.
use Rattle.std.specs.Prelude.{ℕ, List, Bool, false, cond, leb, take, replicate, None}
use Prim.Native.Char.{code}
use Rattle.laws.specs.Truth.{both, every}
use Rattle.forms.specs.Lines.{is_line}
use Rattle.clock.specs.Counters.{in_range}
use Rattle.characters.specs.Marks.{longest}
use Rattle.records.specs.Refusals.{no}
use Rattle.desk.specs.Fitting.{key_fits, wanted_fits}
use Rattle.desk.specs.Waiting.{waiting_fits, kept_fits, blank}
use Rattle.desk.specs.Answers.{Done, done, refused}
use Rattle.desk.specs.declared.state.Desk.{Desk}

-- line 1 to 3; number 0 or 1; at most 8 queued; the key position one of the line
unfoldable pub numbers_fit : Desk → Bool
numbers_fit d = both (is_line d.line) (both (in_range d.last.0) (both (leb d.queued 8) (key_fits d.line d.key)))

-- the stored answer's length; the record set for r; the queued records, places past the count not looked at
unfoldable pub records_fit : Desk → Bool
records_fit d = both (kept_fits d.good d.kept) (both (wanted_fits d.line d.requested) (every (waiting_fits d.line) (take d.queued d.queue)))

-- a state is in its ranges
unfoldable pub in_ranges : Desk → Bool
in_ranges d = both (numbers_fit d) (records_fit d)

-- the stored answer's bytes
abbrev pub stored_of : Desk → List ℕ
stored_of d = take d.kept d.stored

-- starts with the line lost, last number 0, no stored answer, T1's start at 0, an empty queue, no requested record and key position A
abbrev pub fresh : ℕ → Desk
fresh line =
    record {
      line = line;
      good = false;
      last = record { 0 = 0 };
      t1 = 0;
      kept = 0;
      stored = replicate longest 0;
      requested = None;
      queued = 0;
      queue = replicate 8 blank;
      key = code "A";
    }

-- 15 where there is no such line, with a blank state of line 0
unfoldable pub start_of : ℕ → Desk × Done
start_of line = cond (is_line line) (fresh line, done) (fresh 0, refused (no 15 0))
