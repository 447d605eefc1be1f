-- From the start, under any calls in any order with any inputs, the desk's state is in its ranges (rules E3, E10). Assumes nothing.
use Rattle.std.specs.Prelude.{Option, None, Some}
use mathlib.Core.Path.{◌≡◌, refl, ◌∙◌}
use mathlib.Core.Bool.{Bool, true, false, cond}
use mathlib.Core.List.{List, [], ◌∷◌}
use Prim.Native.Nat.{ℕ, ◌+◌, ◌≤◌, ◌<◌}
use Prim.Native.Char.{code}
use native.Mathlib.Omega.{arith}
use lib.Dec.{eqb}
use lib.ListN.{length, drop, replicate, length-append, length-drop, length-set}
use borrow.Author.Tests.{lt-ltb, le-ltb, ne_eqb}
use Rattle.laws.proofs.Passes.{on_test}
use Rattle.forms.specs.Lines.{is_line, line_of}
use Rattle.records.specs.declared.records.Record.{Record}
use Rattle.values.specs.Values.{permits_record}
use Rattle.writing.specs.Writing.{telegram_of}
use Rattle.writing.proofs.Trips.{telegram-length, length-bounds}
use Rattle.characters.specs.Marks.{shortest, longest}
use Rattle.desk.specs.Deciding.{What, contents, not_master, request, poll, other}
use Rattle.desk.specs.Fitting.{may_reply, key_fits, wanted_fits}
use Rattle.desk.specs.Replying.{asked_of, polled_of}
use Rattle.desk.specs.Answers.{done, lost}
use Rattle.desk.specs.Waiting.{waiting_fits, kept_fits}
use Rattle.desk.specs.State.{numbers_fit, records_fit, in_ranges, fresh, start_of}
use Rattle.desk.specs.Panel.{loses_line, noted_of, with_queued, with_requested, with_key, tick_of, queue_of, set_of, key_of}
use Rattle.desk.specs.Clearing.{with_none_queued, with_none_set, clear_queue_of, clear_set_of}
use Rattle.desk.specs.Queue.{reply_to, popped, taken_by}
use Rattle.desk.specs.Hearing.{with_stored, marked, restarted, faulted_of, repeated_of, handled_of, hear_of}
use Rattle.desk.specs.declared.state.Desk.{Desk}
use Rattle.desk.proofs.Ranges.{Fits, ranges-parts, parts-ranges, noted_ranges, kept-most}
use Rattle.desk.proofs.Answering.{answer-permitted}
use Rattle.conduct.specs.Desk.Polls.{waiting}
use Rattle.conduct.proofs.Desk.Waiting.{filled-behind, oldest-taken, every-behind, every-tail}
use Rattle.conduct.specs.Desk.Calls.{Call, ticks, queues, sets, turns, clears_queue, clears_set, hears, did, Result, after, run, refused_by, Fine}
use Rattle.conduct.specs.Desk.Kept.{Bounds, Never15}
use Rattle.conduct.proofs.Desk.Steps.{Does, barred, no_room, ticked, queued, is_set, turned, emptied, unset, unmoved, faults, repeats, handled, does}

-- what a call keeps: the state is fine behind it, and the line is the same
pub record Keeps (d e : Desk) : Type 0 where
  pub fine : Fine e
  pub line : e.line ≡ d.line

-- the key position A is one of each line
a-fits : (line : ℕ) → key_fits line (code "A") ≡ true
unfolding key_fits
a-fits line = on_test (line_of line).keyed (λ e. rw e) (λ e. rw e)

-- the start is fine
fresh-fine : (line : ℕ) → is_line line ≡ true → Fine (fresh line)
unfolding in_ranges numbers_fit records_fit kept_fits wanted_fits
fresh-fine line h = record { ranged = rw (h, a-fits line); stores = refl; holds = refl }

pub start_fine : (line : ℕ) → is_line line ≡ true → Fine (start_of line).0
unfolding start_of
start_fine line h = rw h (fresh-fine line h)

pub start-line : (line : ℕ) → is_line line ≡ true → (start_of line).0.line ≡ line
unfolding start_of
start-line line h = rw h

module _ (d : Desk) (f : Fine d) where
  pub fits : Fits d
  fits = ranges-parts d f.ranged

  pub noted-keeps : (lost : Bool) → Keeps d (noted_of d lost)
  unfolding noted_of
  noted-keeps true = record { fine = record { ranged = noted_ranges d true f.ranged; stores = f.stores; holds = f.holds }; line = refl }
  noted-keeps false = record { fine = f; line = refl }

  -- a record that may reply, queued where there is a place
  queued-keeps : (rec : Record) → may_reply d.line rec ≡ true → d.queued < 8 → Keeps d (with_queued d rec)
  queued-keeps rec m q =
      let p = fits in
      let e = filled-behind d.queue d.queued (record { rec = rec }) (omega (arith, f.holds)) in
      let w = every-behind (waiting_fits d.line) (waiting d) (record { rec = rec }) p.waiting m in
      record {
        fine = record {
          ranged = parts-ranges (with_queued d rec)
              (record { lined = p.lined; numbered = p.numbered; few = omega arith; keyed = p.keyed; stocked = p.stocked; wanted = p.wanted; waiting = rw e w });
          stores = f.stores;
          holds = length-set d.queue d.queued (record { rec = rec }) ∙ f.holds;
        };
        line = refl;
      }

  wanted-keeps : (rec : Record) → may_reply d.line rec ≡ true → Keeps d (with_requested d rec)
  unfolding wanted_fits
  wanted-keeps rec m =
      let p = fits in
      record {
        fine = record {
          ranged = parts-ranges (with_requested d rec)
              (record { lined = p.lined; numbered = p.numbered; few = p.few; keyed = p.keyed; stocked = p.stocked; wanted = m; waiting = p.waiting });
          stores = f.stores;
          holds = f.holds;
        };
        line = refl;
      }

  turned-keeps : (key : ℕ) → key_fits d.line key ≡ true → Keeps d (with_key d key)
  turned-keeps key k =
      let p = fits in
      record {
        fine = record {
          ranged = parts-ranges (with_key d key)
              (record { lined = p.lined; numbered = p.numbered; few = p.few; keyed = k; stocked = p.stocked; wanted = p.wanted; waiting = p.waiting });
          stores = f.stores;
          holds = f.holds;
        };
        line = refl;
      }

  emptied-keeps : Keeps d (with_none_queued d)
  emptied-keeps =
      let p = fits in
      record {
        fine = record {
          ranged = parts-ranges (with_none_queued d)
              (record { lined = p.lined; numbered = p.numbered; few = omega arith; keyed = p.keyed; stocked = p.stocked; wanted = p.wanted; waiting = refl });
          stores = f.stores;
          holds = refl;
        };
        line = refl;
      }

  unset-keeps : Keeps d (with_none_set d)
  unfolding wanted_fits
  unset-keeps =
      let p = fits in
      record {
        fine = record {
          ranged = parts-ranges (with_none_set d)
              (record { lined = p.lined; numbered = p.numbered; few = p.few; keyed = p.keyed; stocked = p.stocked; wanted = refl; waiting = p.waiting });
          stores = f.stores;
          holds = f.holds;
        };
        line = refl;
      }

  -- the oldest taken
  popped-keeps : Keeps d (popped d)
  popped-keeps =
      let p = fits in
      let e = oldest-taken d.queue d.queued f.holds p.few in
      let w = every-tail (waiting_fits d.line) (waiting d) p.waiting in
      record {
        fine = record {
          ranged = parts-ranges (popped d)
              (record { lined = p.lined; numbered = p.numbered; few = omega arith; keyed = p.keyed; stocked = p.stocked; wanted = p.wanted; waiting = rw e w });
          stores = f.stores;
          holds = refl;
        };
        line = refl;
      }

  stays : Keeps d d
  stays = record { fine = f; line = refl }

  -- the state behind the choice of an answer
  pub replied-keeps : (what : What) → Keeps d (taken_by d (reply_to d what).1)
  unfolding polled_of
  replied-keeps (contents x) = stays
  replied-keeps not_master = stays
  replied-keeps request = asked d.requested
    where
      asked : (w : Option Record) → Keeps d (taken_by d (asked_of w).1)
      asked None = stays
      asked (Some rec) = stays
  replied-keeps poll = on_test (eqb d.queued 0) (λ e. rw e stays) (λ e. rw e popped-keeps)
  replied-keeps (other rec) = stays

-- a handled telegram's answer stored
stored-keeps : (d : Desk) → Fine d → (line : ℕ) (rec : Record) (number at : ℕ) → permits_record line rec ≡ true → number < 2
    → Keeps d (with_stored (restarted (marked d number) at) (telegram_of line rec number))
unfolding kept_fits
stored-keeps d f line rec number at m n =
    let p = fits d f in
    let t = telegram_of line rec number in
    let l = telegram-length line rec number m in
    let b = length-bounds line rec m in
    let k : length t < longest + 1 = omega arith in
    let j : shortest ≤ length t = omega arith in
    let z : ¬ (length t ≡ 0) = λ q. omega arith in
    record {
      fine = record {
        ranged = parts-ranges (with_stored (restarted (marked d number) at) t)
            (record {
              lined = p.lined;
              numbered = lt-ltb number 2 n;
              few = p.few;
              keyed = p.keyed;
              stocked = rw (ne_eqb (length t) 0 z, le-ltb (length t) shortest j, lt-ltb (length t) (longest + 1) k);
              wanted = p.wanted;
              waiting = p.waiting;
            });
        stores = length-append t (drop (length t) (replicate longest 0)) ∙ omega (arith, length-drop {A = ℕ} (length t) (replicate longest 0));
        holds = f.holds;
      };
      line = refl;
    }

-- a handled telegram: noted, the answer chosen, then stored
handled-keeps : (d : Desk) → Fine d → (lost : Bool) (number at : ℕ) (what : What) → number < 2
    → Keeps d (with_stored (restarted (marked (taken_by (noted_of d lost) (reply_to (noted_of d lost) what).1) number) at) (telegram_of (noted_of d lost).line (reply_to (noted_of d lost) what).0 number))
handled-keeps d f noting number at what n =
    let e = noted_of d noting in
    let a = noted-keeps d f noting in
    let b = replied-keeps e a.fine what in
    let p = answer-permitted e a.fine.holds (fits e a.fine) what in
    let c = stored-keeps (taken_by e (reply_to e what).1) b.fine e.line (reply_to e what).0 number at p n in
    record { fine = c.fine; line = c.line ∙ b.line ∙ a.line }

-- each call keeps a state fine, and the line
pub keeps : (d : Desk) → Fine d → (call : Call) → Keeps d (after d call).0
unfolding faulted_of repeated_of handled_of
keeps d f call = go call (after d call) (does d f.ranged call)
  where
    go : (call : Call) (behind : Result) → Does d call behind → Keeps d behind.0
    go call behind (barred n) = stays d f
    go call behind no_room = stays d f
    go call behind (ticked {at}) = noted-keeps d f (loses_line d at)
    go call behind (queued {rec} m q) = queued-keeps d f rec m q
    go call behind (is_set {rec} m) = wanted-keeps d f rec m
    go call behind (turned {key} k) = turned-keeps d f key k
    go call behind emptied = emptied-keeps d f
    go call behind unset = unset-keeps d f
    go call behind (unmoved {at}) = noted-keeps d f (loses_line d at)
    go call behind (faults {at} n) = noted-keeps d f (loses_line d at)
    go call behind (repeats {at}) = noted-keeps d f (loses_line d at)
    go call behind (handled {at} n what b) = handled-keeps d f (loses_line d at) n at what b

module _ (d : Desk) (f : Fine d) where
  pub tick-keeps : (at : ℕ) → Keeps d (tick_of d at).0
  tick-keeps at = keeps d f (ticks at)

  pub queue-keeps : (rec : Record) → Keeps d (queue_of d rec).0
  queue-keeps rec = keeps d f (queues rec)

  pub set_keeps : (rec : Record) → Keeps d (set_of d rec).0
  set_keeps rec = keeps d f (sets rec)

  pub key-keeps : (key : ℕ) → Keeps d (key_of d key).0
  key-keeps key = keeps d f (turns key)

  pub clear-queue-keeps : Keeps d (clear_queue_of d).0
  clear-queue-keeps = keeps d f clears_queue

  pub clear-set-keeps : Keeps d (clear_set_of d).0
  clear-set-keeps = keeps d f clears_set

  pub hear-keeps : (at : ℕ) (frame out : List ℕ) → Keeps d (hear_of d at frame out).0
  hear-keeps at frame out = keeps d f (hears at frame out)

-- in its ranges a state is not refused 15
pub not-15 : (d : Desk) → in_ranges d ≡ true → (call : Call) → ¬ (refused_by (after d call).1 ≡ 15)
unfolding faulted_of repeated_of handled_of
not-15 d h call = go call (after d call) (does d h call)
  where
    go : (call : Call) (behind : Result) → Does d call behind → ¬ (refused_by behind.1 ≡ 15)
    go call behind (barred n) q = n q
    go call behind no_room q = omega arith
    go call behind (ticked {at}) q = ticks-not (loses_line d at) q
      where
        ticks-not : (b : Bool) → ¬ (refused_by (did (cond b lost done)) ≡ 15)
        ticks-not true q = omega arith
        ticks-not false q = omega arith
    go call behind (queued m l) q = omega arith
    go call behind (is_set m) q = omega arith
    go call behind (turned k) q = omega arith
    go call behind emptied q = omega arith
    go call behind unset q = omega arith
    go call behind unmoved q = omega arith
    go call behind (faults n) q = omega arith
    go call behind repeats q = omega arith
    go call behind (handled n what b) q = omega arith

pub runs-keep : (d : Desk) → Fine d → (calls : List Call) → Keeps d (run d calls)
runs-keep d f [] = stays d f
runs-keep d f (call ∷ calls) =
    let a = keeps d f call in
    let b = runs-keep (after d call).0 a.fine calls in
    record { fine = b.fine; line = b.line ∙ a.line }

pub fine-bounds : (d : Desk) → Fine d → Bounds d
fine-bounds d f = let p = fits d f in record { few = p.few; short = kept-most d.good d.kept p.stocked; places = f.holds; bytes = f.stores }

pub never-15 : Never15
never-15 line h calls call =
    let k = runs-keep (start_of line).0 (start_fine line h) calls in
    (k.fine.ranged, fine-bounds _ k.fine, k.line ∙ start-line line h, not-15 (run (start_of line).0 calls) k.fine.ranged call)
