-- From the start, under any calls, a stored answer is the telegram of a permitted record that the slave sends on the line, with the last number taken (rules D8, D14). Assumes nothing.
use Rattle.std.specs.Prelude.{Option, None, Some}
use mathlib.Core.Path.{◌≡◌, refl, ap, ◌∙◌}
use mathlib.Core.Bool.{Bool, true, false}
use mathlib.Core.List.{List, [], ◌∷◌, ◌++◌}
use Prim.Native.Nat.{ℕ}
use Prim.Native.Char.{code}
use native.Mathlib.Omega.{arith}
use lib.Dec.{eqb}
use lib.ListN.{length, take, drop, replicate}
use lib.Seq.{take-append_seam}
use borrow.Author.Tests.{eqb-true, eqb-false}
use Rattle.laws.specs.Truth.{every}
use Rattle.laws.proofs.Truths.{both_left, both_right}
use Rattle.laws.proofs.Passes.{on_test}
use Rattle.forms.proofs.Found.{each_line}
use Rattle.forms.specs.Lines.{is_line}
use Rattle.forms.specs.Forms.{forms, on_line, look_in, type_row, data_type, by_slave}
use Rattle.records.specs.Records.{type_of}
use Rattle.records.specs.declared.records.Record.{Record}
use Rattle.values.specs.Values.{permits_record}
use Rattle.writing.specs.Writing.{telegram_of, sent_of}
use Rattle.writing.proofs.Trips.{telegram-length, length-bounds}
use Rattle.characters.specs.Marks.{longest}
use Rattle.desk.specs.Deciding.{What, contents, not_master, request, poll, other}
use Rattle.desk.specs.Fitting.{may_reply, wanted_fits}
use Rattle.desk.specs.Replying.{asked_of, polled_of}
use Rattle.desk.specs.Heard.{Told}
use Rattle.desk.specs.Heard as h
use Rattle.desk.specs.State.{stored_of, start_of}
use Rattle.desk.specs.Panel.{loses_line, noted_of}
use Rattle.desk.specs.Queue.{oldest, reply_to}
use Rattle.desk.specs.Hearing.{faulted_of, repeated_of, handled_of, hear_of}
use Rattle.desk.specs.declared.state.Desk.{Desk}
use Rattle.desk.proofs.Answering.{oldest-replies, answer-permitted}
use Rattle.conduct.specs.Desk.Calls.{Call, hears, heard, Result, after, run, noted, Fine}
use Rattle.conduct.specs.Desk.Stored.{Holding, StoredTelegram, StoredAsSent}
use Rattle.conduct.proofs.Desk.Steps.{never, Does, barred, no_room, ticked, queued, is_set, turned, emptied, unset, unmoved, faults, repeats, handled, does}
use Rattle.conduct.proofs.Desk.Kept.{fits, noted-keeps, replied-keeps, keeps, runs-keep, start_fine, start-line}

-- where the line has a stored answer, it is such with the last number taken
abbrev pub Holds : Desk → Type 0
Holds d = ¬ (d.kept ≡ 0) → (d.kept ≡ length (stored_of d)) × Holding d.line d.last.0 (stored_of d)

-- the slave sends A, N and its data type
slave-sends : (line : ℕ) → is_line line ≡ true → every (by_slave line) (code "A" ∷ code "N" ∷ data_type line ∷ []) ≡ true
unfolding forms on_line look_in type_row data_type
slave-sends line h = each_line (λ (l : ℕ). every (by_slave l) (code "A" ∷ code "N" ∷ data_type l ∷ [])) refl line h

module _ (line : ℕ) (h : is_line line ≡ true) where
  sends-a : by_slave line (code "A") ≡ true
  sends-a = both_left (by_slave line (code "A")) _ (slave-sends line h)

  sends-n : by_slave line (code "N") ≡ true
  sends-n = both_left (by_slave line (code "N")) _ (both_right (by_slave line (code "A")) _ (slave-sends line h))

  sends-data : (rec : Record) → may_reply line rec ≡ true → by_slave line (type_of rec) ≡ true
  unfolding may_reply
  sends-data rec m =
      let e = eqb-true (type_of rec) (data_type line) (both_left (eqb (type_of rec) (data_type line)) _ m) in
      let x = both_right (by_slave line (code "N")) _ (both_right (by_slave line (code "A")) _ (slave-sends line h)) in
      rw e (both_left (by_slave line (data_type line)) true x)

-- each answer to a handled telegram is a record that the slave sends
module _ (d : Desk) (f : Fine d) where
  polled-sent : by_slave d.line (type_of (polled_of d.line d.key d.queued (oldest d)).0) ≡ true
  unfolding polled_of
  polled-sent =
      let p = fits d f in
      on_test (eqb d.queued 0)
      (λ e. rw e (sends-a d.line p.lined))
      (λ e. rw e (sends-data d.line p.lined (oldest d) (oldest-replies d f.holds p (eqb-false d.queued 0 e))))

  pub reply-sent : (what : What) → by_slave d.line (type_of (reply_to d what).0) ≡ true
  reply-sent (contents x) = sends-n d.line (fits d f).lined
  reply-sent not_master = sends-n d.line (fits d f).lined
  reply-sent request = asked d.requested (fits d f).wanted
    where
      asked : (w : Option Record) → wanted_fits d.line w ≡ true → by_slave d.line (type_of (asked_of w).0) ≡ true
      asked None h = sends-n d.line (fits d f).lined
      asked (Some rec) h = sends-data d.line (fits d f).lined rec (unfold wanted_fits in h)
  reply-sent poll = polled-sent
  reply-sent (other rec) = sends-a d.line (fits d f).lined

-- the first rule changes no stored answer
noted-holds : (d : Desk) (b : Bool) → Holds d → Holds (noted_of d b)
unfolding noted_of
noted-holds d true k = k
noted-holds d false k = k

-- a stored telegram
holding : (line : ℕ) (rec : Record) (number : ℕ) → by_slave line (type_of rec) ≡ true → permits_record line rec ≡ true → Holding line number (telegram_of line rec number)
holding line rec number s p =
    let l = telegram-length line rec number p in
    let b = length-bounds line rec p in
    record { rec = rec; of_slave = s; permitted = p; telegram = refl; least = omega arith; most = omega arith }

handled-holds : (d : Desk) → Fine d → (b : Bool) (at number : ℕ) (what : What) (out : List ℕ) → Holds (handled_of (noted_of d b) b at number (reply_to (noted_of d b) what) out).0
unfolding handled_of
handled-holds d f b at number what out k =
    let e = noted_of d b in
    let g = (noted-keeps d f b).fine in
    let p = answer-permitted e g.holds (fits e g) what in
    let t = telegram_of e.line (reply_to e what).0 number in
    rw ((replied-keeps e g what).line, take-append_seam t (drop (length t) (replicate longest 0))) (refl, holding e.line (reply_to e what).0 number (reply-sent e g what) p)

-- each call keeps it
holds-step : (d : Desk) → Fine d → Holds d → (call : Call) → Holds (after d call).0
unfolding faulted_of repeated_of
holds-step d f k call = go call (after d call) (does d f.ranged call)
  where
    go : (call : Call) (turn : Result) → Does d call turn → Holds turn.0
    go call turn (barred n) = k
    go call turn no_room = k
    go call turn (ticked {at}) = noted-holds d (loses_line d at) k
    go call turn (queued m q) = k
    go call turn (is_set m) = k
    go call turn (turned m) = k
    go call turn emptied = k
    go call turn unset = k
    go call turn (unmoved {at}) = noted-holds d (loses_line d at) k
    go call turn (faults {at} n) = noted-holds d (loses_line d at) k
    go call turn (repeats {at}) = noted-holds d (loses_line d at) k
    go call turn (handled {at} {out = out} n what b) = handled-holds d f (loses_line d at) at n what out

holds-run : (d : Desk) → Fine d → Holds d → (calls : List Call) → Holds (run d calls)
holds-run d f k [] = k
holds-run d f k (call ∷ calls) = holds-run (after d call).0 (keeps d f call).fine (holds-step d f k call) calls

start_none : (line : ℕ) → (start_of line).0.kept ≡ 0
unfolding start_of
start_none line = on_test (is_line line) (λ e. rw e) (λ e. rw e)

pub stored-telegram : StoredTelegram
stored-telegram line h calls d e n =
    let l : d.line ≡ line = ap (λ (x : Desk). x.line) e ∙ (runs-keep (start_of line).0 (start_fine line h) calls).line ∙ start-line line h in
    let k : Holds d = rw e (holds-run (start_of line).0 (start_fine line h) (λ q. absurd (q (start_none line))) calls) in
    rw l at (k n)

pub stored-as-sent : StoredAsSent
unfolding faulted_of repeated_of handled_of sent_of
stored-as-sent d f at frame out noting origin n e =
    go (hears at frame out) (after d (hears at frame out)) (hear_of d at frame out).2 (does d f.ranged (hears at frame out))
    (ap (λ (t : Told). heard t (hear_of d at frame out).2) e)
  where
    go : (call : Call) (turn : Result) (new : List ℕ) → Does d call turn → turn.1 ≡ heard (h.handled noting origin n) new → (turn.0.kept ≡ n) × (stored_of turn.0 ≡ take n new)
    go call turn new (barred x) q = never (cc)
    go call turn new no_room q = never (cc)
    go call turn new ticked q = never (cc)
    go call turn new (queued m l) q = never (cc)
    go call turn new (is_set m) q = never (cc)
    go call turn new (turned m) q = never (cc)
    go call turn new emptied q = never (cc)
    go call turn new unset q = never (cc)
    go call turn new unmoved q = never (cc)
    go call turn new (faults k) q = never (cc)
    go call turn new repeats q = never (cc)
    go call turn new (handled {at} {out = old} k what b) q =
        let t = telegram_of (noted d at).line (reply_to (noted d at) what).0 k in
        let a : length t ≡ n = cc in
        let c : t ++ drop (length t) old ≡ new = cc in
        (a, rw (← c, ← a, take-append_seam t (drop (length t) (replicate longest 0)), take-append_seam t (drop (length t) old)))
