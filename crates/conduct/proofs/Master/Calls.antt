-- Calls of the master in any order, with any inputs, and what each can do in its ranges (rules M2 to M13). Assumes nothing.
use mathlib.Core.Path.{◌≡◌, refl, sym, ap, ◌∙◌}
use mathlib.Core.Bool.{Bool, true, false, cond}
use mathlib.Core.List.{List}
use Prim.Native.Nat.{ℕ, ◌+◌, ◌≤◌}
use native.Mathlib.Omega.{arith}
use lib.Dec.{eqb, ltb}
use lib.ListN.{length, get_or}
use borrow.Author.Tests.{eqb-true, eqb-false}
use Rattle.forms.specs.Forms.{by_master}
use Rattle.records.specs.Refusals.{No, no}
use Rattle.records.specs.Records.{type_of}
use Rattle.records.specs.declared.records.Record.{Record}
use Rattle.values.specs.Values.{permits_record}
use Rattle.reading.specs.Frame.{frame_checks}
use Rattle.reading.specs.Reading.{reading_of}
use Rattle.clock.specs.Clock.{run_out}
use Rattle.clock.specs.Counters.{same_number, number_in}
use Rattle.characters.specs.Marks.{longest}
use Rattle.master.specs.Rules.{poll_of, is_failure, permitted_answer}
use Rattle.master.specs.Times.{operation_after}
use Rattle.master.specs.Answering.{Judged, answered_by, taken_of, unless_bad, judge_of}
use Rattle.master.specs.Answering as j
use Rattle.master.specs.declared.state.Master.{Master}
use Rattle.master.specs.Answers.{Which, again, poll, Ground, silence, rejected}
use Rattle.master.specs.State.{is_free, sendable, in_ranges, call_fault, with_line, answered_state, with_operation, given_up_state}
use Rattle.master.specs.Sending.{Behind, t0_limit, t2_limit, unless_refused, sending_of, failed_of, offer_fault, offer_of, polling_of, waiting_of, tick_of}
use Rattle.master.specs.Hearing.{settled_of, judged, hear_of}
use Rattle.master.proofs.Ranges.{passed, lined, sendable-both, poll_sendable}
use Rattle.master.proofs.Sends.{offer_passed}
use Rattle.conduct.specs.Master.Calls.{Call, offers, ticks, hears, call_time, output_of, after, FirstSending, offered, polled, line_after}
use Rattle.records.specs.Answers as w
use Rattle.master.specs.Answers as t

-- an answer of a call that changes nothing: refused, but not 15; nothing; ignored
pub data Quiet : t.Told → Type 0 where
  barred : {x : No} → ¬ (x.number ≡ 15) → Quiet (t.Told.refused x)
  idle : Quiet t.nothing
  unheard : {why : t.Why} → Quiet (t.ignored why)

-- the answer that ends a telegram, permitted or of another kind, reported with the sending count, and the flag behind it
pub data Ends (m : Master) : t.Told → Bool → Type 0 where
  permitted : {rec : Record} → Ends m (t.answered rec m.count) (operation_after m.line (type_of m.rec) rec m.operation)
  strange : {answer : w.Answer} → Ends m (t.other_kind answer m.count) m.operation

-- what a reading is to a sending: N with 1 or 2 fails it
abbrev pub rejects : w.Answer → Bool
rejects (w.accepted rec number) = is_failure rec
rejects (w.refused x) = false

-- what a call brings that ends a telegram: a frame that checks 1 to 7 do not refuse and that is no N with 1 or 2
pub data Brings (m : Master) : Call → Type 0 where
  brings : {at : ℕ} {frame out : List ℕ} → w.first_fault 1 (frame_checks frame) ≡ w.good → rejects (reading_of m.line frame) ≡ false → Brings m (hears at frame out)

-- a frame that ends the telegram
abbrev Ending : Judged → Type 0
Ending (j.refused x) = ⊥
Ending j.other_number = ⊥
Ending j.failed = ⊥
Ending (j.answered rec) = Unit {0}
Ending (j.other_kind answer) = Unit {0}

-- checks 1 to 7 do not refuse it, and it is no N with 1 or 2
module _ (line number sent : ℕ) (frame : List ℕ) where
  ending-answer : (rec : Record) (n : ℕ) → Ending (answered_by line sent rec n) → is_failure rec ≡ false
  unfolding answered_by
  ending-answer rec n e = go (is_failure rec) (permitted_answer line sent (type_of rec)) e
    where
      go : (a b : Bool) → Ending (cond a j.failed (cond b (j.answered rec) (j.other_kind (w.accepted rec n)))) → a ≡ false
      go true b e = absurd e
      go false b e = refl

  ending-reading : (answer : w.Answer) → Ending (taken_of line sent answer) → rejects answer ≡ false
  ending-reading (w.accepted rec n) e = ending-answer rec n e
  ending-reading (w.refused x) e = refl

  ending : Ending (judge_of line number sent frame) → (w.first_fault 1 (frame_checks frame) ≡ w.good) × (rejects (reading_of line frame) ≡ false)
  unfolding judge_of
  ending e = go (w.first_fault 1 (frame_checks frame)) (same_number number (number_in (get_or frame 4 0))) e
    where
      go : (f : w.Fault) (b : Bool) → Ending (unless_bad f (cond b (taken_of line sent (reading_of line frame)) j.other_number)) → (f ≡ w.good) × (rejects (reading_of line frame) ≡ false)
      go w.good true e = (refl, ending-reading (reading_of line frame) e)
      go w.good false e = absurd e
      go (w.fails x) b e = absurd e

-- what a call can do to a state in its ranges
pub data Does (m : Master) (call : Call) : Behind → Type 0 where
  stays : (told : t.Told) → Quiet told → Does m call (m, (told, output_of call))
  begins : (which : Which) (rec : Record) → FirstSending m call which rec → is_free m ≡ true → sendable m.line rec ≡ true → longest ≤ length (output_of call)
      → Does m call (sending_of which m rec 1 (call_time call) (output_of call))
  repeats : (g : Bool) → is_free m ≡ false → ¬ (m.count ≡ 3) → longest ≤ length (output_of call)
      → Does m call (sending_of again (with_line m g) m.rec (m.count + 1) (call_time call) (output_of call))
  ends : (told : t.Told) (operation : Bool) → Ends m told operation → is_free m ≡ false → Brings m call
      → Does m call (with_operation (answered_state (with_line m true)) operation, (told, output_of call))
  gives_up : (ground : Ground) → is_free m ≡ false → m.count ≡ 3
      → Does m call (given_up_state (with_line m (line_after ground)), (t.given_up ground m.count, output_of call))

-- a test's two ways
split : (P : Behind → Type 0) (b : Bool) {x y : Behind} → (b ≡ true → P x) → (b ≡ false → P y) → P (cond b x y)
split P true f g = f refl
split P false f g = g refl

-- refused or not
guard : (P : Behind → Type 0) (m : Master) (out : List ℕ) (turn : Behind) (f : w.Fault) → ((x : No) → f ≡ w.fails x → P (m, (t.Told.refused x, out))) → (f ≡ w.good → P turn)
    → P (unless_refused f m out turn)
guard P m out turn w.good a b = b refl
guard P m out turn (w.fails x) a b = a x refl

-- a refusal of another number is not 15
other-number : (k : ℕ) (x : No) → w.fails (no k 0) ≡ w.fails x → ¬ (k ≡ 15) → ¬ (x.number ≡ 15)
other-number k x e n q = let y : no k 0 ≡ x = cc in n (ap (λ (z : No). z.number) y ∙ q)

-- in its ranges a state is not refused 15
call-number : (m : Master) (room : ℕ) (x : No) → in_ranges m ≡ true → call_fault m room ≡ w.fails x → ¬ (x.number ≡ 15)
unfolding call_fault
call-number m room x h e = go (in_ranges m) (ltb room longest) h e
  where
    go : (r s : Bool) → r ≡ true → cond r (cond s (w.fails (no 14 0)) w.good) (w.fails (no 15 0)) ≡ w.fails x → ¬ (x.number ≡ 15)
    go true true h e q = other-number 14 x e (λ z. omega arith) q
    go true false h e q = let z : ◌≡◌ {A = ℕ} 0 1 = cc in omega arith
    go false s h e q = let z : ◌≡◌ {A = ℕ} 0 1 = cc in omega arith

-- nor is an offer by 16, 12 and 13
offer-number : (m : Master) (rec : Record) (x : No) → offer_fault m rec ≡ w.fails x → ¬ (x.number ≡ 15)
unfolding offer_fault
offer-number m rec x e = go (is_free m) (by_master m.line (type_of rec)) (permits_record m.line rec) e
  where
    go : (f b p : Bool) → cond f (cond b (cond p w.good (w.fails (no 13 0))) (w.fails (no 12 0))) (w.fails (no 16 0)) ≡ w.fails x → ¬ (x.number ≡ 15)
    go true true true e q = let z : ◌≡◌ {A = ℕ} 0 1 = cc in omega arith
    go true true false e q = other-number 13 x e (λ z. omega arith) q
    go true false p e q = other-number 12 x e (λ z. omega arith) q
    go false b p e q = other-number 16 x e (λ z. omega arith) q

module _ (m : Master) (h : in_ranges m ≡ true) where
  -- a failed sending, for either cause
  fails : (call : Call) (ground : Ground) (g : Bool) → is_free m ≡ false → longest ≤ length (output_of call)
      → Does m call (failed_of ground (line_after ground) (with_line m g) (call_time call) (output_of call))
  unfolding failed_of
  fails call ground g f r =
      split (Does m call) (eqb m.count 3)
      (λ e. gives_up ground f (eqb-true m.count 3 e))
      (λ e. repeats g f (eqb-false m.count 3 e) r)

  -- what a heard frame is, and what it makes of the state
  settles : (call : Call) (judged : Judged) → (Ending judged → Brings m call) → is_free m ≡ false → longest ≤ length (output_of call)
      → Does m call (settled_of m (call_time call) judged (output_of call))
  settles call (j.refused x) b f r = stays (t.ignored (t.Why.refused x)) unheard
  settles call j.other_number b f r = stays (t.ignored t.other_number) unheard
  settles call j.failed b f r = fails call rejected true f r
  settles call (j.answered rec) b f r = ends (t.answered rec m.count) _ permitted f (b tt)
  settles call (j.other_kind answer) b f r = ends (t.other_kind answer m.count) _ strange f (b tt)

  -- 15 and 14
  checks : (call : Call) (turn : Behind) → (longest ≤ length (output_of call) → Does m call turn) → Does m call (unless_refused (call_fault m (length (output_of call))) m (output_of call) turn)
  checks call turn go =
      guard (Does m call) m (output_of call) turn (call_fault m (length (output_of call)))
      (λ x e. stays (t.Told.refused x) (barred (call-number m (length (output_of call)) x h e)))
      (λ e. go (passed m (length (output_of call)) (sym e)).1)

  pub does : (call : Call) → Does m call (after m call)
  unfolding offer_of tick_of polling_of waiting_of hear_of
  does (offers at rec out) =
      checks (offers at rec out) _ (λ r.
      guard (Does m (offers at rec out)) m out (sending_of t.offered m rec 1 at out) (offer_fault m rec)
      (λ x e. stays (t.Told.refused x) (barred (offer-number m rec x e)))
      (λ e. let o = offer_passed m rec (sym e) in begins t.offered rec offered o.0 (sendable-both m.line rec o.1.0 o.1.1) r))
  does (ticks at out) =
      checks (ticks at out) _ (λ r.
      split (Does m (ticks at out)) (is_free m)
      (λ f. split (Does m (ticks at out)) (run_out at m.t0 (t0_limit m))
      (λ e. begins poll (poll_of m.line) polled f (poll_sendable m.line (lined m h)) r)
      (λ e. stays t.nothing idle))
      (λ f. split (Does m (ticks at out)) (run_out at m.t2 t2_limit)
      (λ e. fails (ticks at out) silence m.good f r)
      (λ e. stays t.nothing idle)))
  does (hears at frame out) =
      checks (hears at frame out) _ (λ r.
      split (Does m (hears at frame out)) (is_free m)
      (λ f. stays (t.ignored t.free) unheard)
      (λ f. split (Does m (hears at frame out)) (run_out at m.t2 t2_limit)
      (λ e. stays (t.ignored t.run_out) unheard)
      (λ e. settles (hears at frame out) (judged m frame) (λ z. let b = ending m.line m.number.0 (type_of m.rec) frame z in brings b.0 b.1) f r)))
