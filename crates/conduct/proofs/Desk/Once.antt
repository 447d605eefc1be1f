-- Whatever calls are made, each record that was queued is given out once, in order, or was cleared, or still waits (rules D15, D17). Assumes nothing.
use Rattle.std.specs.Prelude.{Option, None, Some}
use mathlib.Core.Path.{◌≡◌, refl, sym, ap, ◌∙◌}
use mathlib.Core.Bool.{Bool, true, false}
use mathlib.Core.List.{List, [], ◌∷◌, ◌++◌, map, append-nil, append_assoc, map-append}
use Prim.Native.Nat.{ℕ, ◌<◌}
use native.Mathlib.Omega.{arith}
use lib.Dec.{eqb}
use lib.ListN.{length, get_or, drop}
use lib.Seq.{take-append_seam}
use borrow.Author.Tests.{eqb-true, eqb-false}
use Rattle.laws.proofs.Passes.{on_test}
use Rattle.forms.specs.Lines.{is_line}
use Rattle.records.specs.declared.records.Record.{Record}
use Rattle.values.specs.Values.{permits_record}
use Rattle.writing.specs.Writing.{telegram_of}
use Rattle.writing.proofs.Trips.{written-reads}
use Rattle.desk.specs.Deciding.{What, request, poll, other}
use Rattle.desk.specs.Deciding as r
use Rattle.desk.specs.Replying.{queue, key, asked_of}
use Rattle.records.specs.Refusals.{No}
use Rattle.desk.specs.Answers.{Done, done, lost}
use Rattle.desk.specs.State.{start_of}
use Rattle.desk.specs.Panel.{loses_line, noted_of, with_queued}
use Rattle.desk.specs.Clearing.{clear_queue_of}
use Rattle.desk.specs.Queue.{oldest, reply_to}
use Rattle.desk.specs.Hearing.{Hearing, faulted_of, repeated_of, handled_of}
use Rattle.desk.specs.Waiting.{blank}
use Rattle.desk.specs.declared.waiting.Waiting.{Waiting}
use Rattle.desk.specs.declared.state.Desk.{Desk}
use Rattle.desk.proofs.Permitted.{reply-allowed}
use Rattle.desk.proofs.Answering.{oldest-replies}
use Rattle.conduct.specs.Desk.Calls.{Call, ticks, queues, sets, turns, clears_queue, clears_set, hears, did, Result, hearing, after, run, Fine}
use Rattle.conduct.specs.Desk.Polls.{waiting, Answers}
use Rattle.conduct.specs.Desk.Once.{records, queued_in, given_in, Leaves, given_out, cleared, record_in, out_of, leaves_in, accepted, left, EachOnce, QueuedOnce, OnlyGiven}
use Rattle.conduct.proofs.Desk.Waiting.{filled-behind}
use Rattle.conduct.proofs.Desk.Steps.{Does, does}
use Rattle.conduct.proofs.Desk.Steps as s
use Rattle.conduct.proofs.Desk.Kept.{fits, keeps, start_fine}
use Rattle.conduct.proofs.Desk.Polls.{polled, takes-oldest, answers-key}

all-cleared : (xs : List Record) → map record_in (map cleared xs) ≡ xs
all-cleared [] = refl
all-cleared (x ∷ xs) = rw (all-cleared xs)

none_out : (xs : List Record) → out_of (map cleared xs) ≡ []
none_out [] = refl
none_out (x ∷ xs) = none_out xs

-- what waits and what is queued is what leaves and what waits then
abbrev Balanced : Desk → Call → Result → Type 0
Balanced d call turn = records d ++ queued_in call turn.1 ≡ map record_in (leaves_in d call turn.1) ++ records turn.0

module _ (d : Desk) (f : Fine d) where
  none-refused : (call : Call) (x : No) → Balanced d call (d, did (Done.refused x))
  none-refused (ticks at) x = append-nil (records d)
  none-refused (queues rec) x = append-nil (records d)
  none-refused (sets rec) x = append-nil (records d)
  none-refused (turns position) x = append-nil (records d)
  none-refused clears_queue x = append-nil (records d)
  none-refused clears_set x = append-nil (records d)
  none-refused (hears at frame out) x = append-nil (records d)

  noted-waits : (b : Bool) → records d ++ [] ≡ records (noted_of d b)
  unfolding noted_of
  noted-waits true = append-nil (records d)
  noted-waits false = append-nil (records d)

  one-queued : (rec : Record) → d.queued < 8 → Balanced d (queues rec) (with_queued d rec, did done)
  one-queued rec q =
      let e = filled-behind d.queue d.queued (record { rec = rec }) (omega (arith, f.holds)) in
      sym (ap (map (λ (s : Waiting). s.rec)) e ∙ map-append (λ (s : Waiting). s.rec) (waiting d) (record { rec = rec } ∷ []))

  -- an answer from the queue, by which the first that waits leaves
  one-given : (at n : ℕ) (frame out : List ℕ) (b : Bool) (first : Waiting) (h : Hearing) → n < 2 → permits_record d.line first.rec ≡ true
      → waiting d ≡ first ∷ waiting h.0 → Answers d.line first.rec n b queue out h → Balanced d (hears at frame out) (hearing h)
  one-given at n frame out b first h l p e a =
      let t = telegram_of d.line first.rec n in
      rw (e, a.0, a.1, take-append_seam t (drop (length t) out), written-reads d.line first.rec n p l) (append-nil (first.rec ∷ records h.0))

  -- an answer with the key position, where none waits
  none-given : (at n : ℕ) (frame out : List ℕ) (b : Bool) (rec : Record) (position : ℕ) (h : Hearing)
      → waiting d ≡ [] → waiting h.0 ≡ [] → Answers d.line rec n b (key position) out h → Balanced d (hears at frame out) (hearing h)
  none-given at n frame out b rec position h e g a = rw (e, g, a.0)

  oldest-permitted : ¬ (d.queued ≡ 0) → permits_record d.line (oldest d) ≡ true
  oldest-permitted q = reply-allowed d.line (oldest d) (oldest-replies d f.holds (fits d f) q)

  module _ (b : Bool) (at n : ℕ) (l : n < 2) (frame out : List ℕ) where
    asked-balanced : (w : Option Record) → Balanced d (hears at frame out) (hearing (handled_of (noted_of d b) b at n (asked_of w) out))
    unfolding handled_of
    asked-balanced None = noted-waits b
    asked-balanced (Some rec) = noted-waits b

    handled-balanced : (what : What) → Balanced d (hears at frame out) (hearing (handled_of (noted_of d b) b at n (reply_to (noted_of d b) what) out))
    unfolding handled_of
    handled-balanced (r.contents x) = noted-waits b
    handled-balanced r.not_master = noted-waits b
    handled-balanced request = asked-balanced (noted_of d b).requested
    handled-balanced poll =
        on_test (eqb d.queued 0)
        (λ e. let k = answers-key d f at n out b (eqb-true d.queued 0 e) in none-given at n frame out b _ _ (polled d f at n out b) k.0 k.1 k.2)
        (λ e.
        let q = eqb-false d.queued 0 e in
        let k = takes-oldest d f at n out b q in
        one-given at n frame out b (get_or d.queue 0 blank) (polled d f at n out b) l (oldest-permitted q) k.0 k.1)
    handled-balanced (other rec) = noted-waits b

  balanced : (call : Call) → Balanced d call (after d call)
  unfolding faulted_of repeated_of
  balanced call = go call (after d call) (does d f.ranged call)
    where
      go : (call : Call) (turn : Result) → Does d call turn → Balanced d call turn
      go call turn (s.barred {x = x} n) = none-refused call x
      go call turn s.no_room = append-nil (records d)
      go call turn (s.ticked {at}) = noted-waits (loses_line d at)
      go call turn (s.queued {rec} m q) = one-queued rec q
      go call turn (s.is_set m) = append-nil (records d)
      go call turn (s.turned m) = append-nil (records d)
      go call turn s.emptied = rw (all-cleared (records d))
      go call turn s.unset = append-nil (records d)
      go call turn (s.unmoved {at}) = noted-waits (loses_line d at)
      go call turn (s.faults {at} n) = noted-waits (loses_line d at)
      go call turn (s.repeats {at}) = noted-waits (loses_line d at)
      go call turn (s.handled {at} {frame} {out} n what l) = handled-balanced (loses_line d at) at n l frame out what

pub each-once : EachOnce
each-once d f [] = sym (append-nil (records d))
each-once d f (call ∷ calls) =
    let e = (after d call).0 in
    let a = queued_in call (after d call).1 in
    let g = leaves_in d call (after d call).1 in
    let r = map record_in g in
    ap (λ (x : List Record). x ++ records (run e calls)) (map-append record_in g (left e calls))
    ∙ append_assoc r (map record_in (left e calls)) (records (run e calls))
    ∙ ap (λ (x : List Record). r ++ x) (each-once e (keeps d f call).fine calls)
    ∙ sym (append_assoc r (records e) (accepted e calls))
    ∙ ap (λ (x : List Record). x ++ accepted e calls) (sym (balanced d f call))
    ∙ append_assoc (records d) a (accepted e calls)

start-empty : (line : ℕ) → is_line line ≡ true → records (start_of line).0 ≡ []
unfolding start_of
start-empty line h = rw h

pub queued-once : QueuedOnce
queued-once line h calls =
    each-once (start_of line).0 (start_fine line h) calls ∙ ap (λ (x : List Record). x ++ accepted (start_of line).0 calls) (start-empty line h)

all-out : (xs : List Record) → out_of (map given_out xs) ≡ xs
all-out [] = refl
all-out (x ∷ xs) = rw (all-out xs)

out-append : (xs ys : List Leaves) → out_of (xs ++ ys) ≡ out_of xs ++ out_of ys
out-append [] ys = refl
out-append (given_out rec ∷ xs) ys = rw (out-append xs ys)
out-append (cleared rec ∷ xs) ys = out-append xs ys

cleared-out : (d : Desk) (x : Done) → out_of (leaves_in d clears_queue (did x)) ≡ []
cleared-out d done = none_out (records d)
cleared-out d lost = refl
cleared-out d (Done.refused x) = refl

one_out : (d : Desk) (call : Call) → out_of (leaves_in d call (after d call).1) ≡ given_in d.line (after d call).1
one_out d (ticks at) = refl
one_out d (queues rec) = refl
one_out d (sets rec) = refl
one_out d (turns position) = refl
one_out d clears_queue = cleared-out d (clear_queue_of d).1
one_out d clears_set = refl
one_out d (hears at frame out) = all-out (given_in d.line (after d (hears at frame out)).1)

pub only-given : OnlyGiven
only-given d [] = refl
only-given d (call ∷ calls) =
    let e = (after d call).0 in
    out-append (leaves_in d call (after d call).1) (left e calls)
    ∙ rw (one_out d call, only-given e calls)
