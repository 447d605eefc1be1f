-- Wherever a hearing of the master is not refused, its result tells what the frame reads as. Assumes nothing.
use Rattle.std.specs.Prelude.{Option, None, Some}
use mathlib.Core.Path.{◌≡◌, refl, sym, ap}
use mathlib.Core.Bool.{true}
use mathlib.Core.List.{List, [], ◌∷◌, ◌++◌}
use Prim.Native.Nat.{ℕ, ◌+◌}
use native.Mathlib.Omega.{arith}
use lib.Dec.{eqb, ltb}
use lib.ListN.{length, get_or}
use Rattle.laws.proofs.Passes.{on_test}
use Rattle.characters.specs.Marks.{longest}
use Rattle.forms.specs.Lines.{is_line}
use Rattle.records.specs.Refusals.{No, no}
use Rattle.records.specs.Records.{type_of}
use Rattle.records.specs.Answers.{Answer, Fault, good, fails, first_fault}
use Rattle.records.specs.Answers as w
use Rattle.reading.specs.Frame.{frame_checks}
use Rattle.reading.specs.Contents.{field_checks}
use Rattle.reading.specs.Reading.{checks, reading_of}
use Rattle.clock.specs.Clock.{run_out}
use Rattle.clock.specs.Counters.{same_number, number_in}
use Rattle.master.specs.declared.state.Master.{Master}
use Rattle.master.specs.Answering.{Judged, answered_by, taken_of, judge_of}
use Rattle.master.specs.Rules.{is_failure, permitted_answer}
use Rattle.master.specs.Answering as j
use Rattle.master.specs.Answers.{Told, rejected, other_kind}
use Rattle.master.specs.State.{is_free, in_ranges, call_fault, with_line}
use Rattle.master.specs.Sending.{t2_limit, sending_of, failed_of}
use Rattle.master.specs.Hearing.{settled_of, judged, hear_of}
use Rattle.master.proofs.Ranges.{no-pass, lined}
use Rattle.blocks.specs.Record.{record_length}
use Rattle.blocks.specs.Masters.{load_of}
use Rattle.in656.specs.Results.Masters.{told_result}
use Rattle.in656.specs.Results.Frames.{master_frame, refusal_in, Tells}
use Rattle.in656.specs.Masters.{heard, master_hear, MasterTells}
use Rattle.in656.proofs.DeskTold.{again}

-- what the judgement of a frame says of its reading
abbrev Agrees : Judged → Answer → Type 0
Agrees (j.refused x) a = x ≡ refusal_in a
Agrees j.other_number a = Unit {0}
Agrees j.failed a = no 0 0 ≡ refusal_in a
Agrees (j.answered rec) a = no 0 0 ≡ refusal_in a
Agrees (j.other_kind b) a = refusal_in b ≡ refusal_in a

taken : (line sent : ℕ) (a : Answer) → Agrees (taken_of line sent a) a
unfolding answered_by
taken line sent (w.accepted rec number) =
    on_test (is_failure rec) (λ e. rw e refl) (λ e. on_test (permitted_answer line sent (type_of rec)) (λ f. rw (e, f) refl) (λ f. rw (e, f) refl))
taken line sent (w.Answer.refused x) = refl

-- a fault of the frame is the reading's
in-front : (k : ℕ) (x : No) (xs ys : List (Option ℕ)) → first_fault k xs ≡ fails x → first_fault k (xs ++ ys) ≡ fails x
in-front k x [] ys h = no-pass (sym h)
in-front k x (None ∷ xs) ys h = in-front (k + 1) x xs ys h
in-front k x (Some place ∷ xs) ys h = h

bad-frame : (line : ℕ) (frame : List ℕ) (x : No) → is_line line ≡ true → first_fault 1 (frame_checks frame) ≡ fails x → x ≡ refusal_in (reading_of line frame)
unfolding reading_of checks
bad-frame line frame x l h = rw (l, in-front 1 x (frame_checks frame) (field_checks line frame) h)

judge : (line number sent : ℕ) (frame : List ℕ) → is_line line ≡ true → Agrees (judge_of line number sent frame) (reading_of line frame)
unfolding judge_of
judge line number sent frame l = by (first_fault 1 (frame_checks frame)) refl
  where
    by : (f : Fault) → first_fault 1 (frame_checks frame) ≡ f → Agrees (judge_of line number sent frame) (reading_of line frame)
    by good h = rw h (on_test (same_number number (number_in (get_or frame 4 0))) (λ e. rw e (taken line sent (reading_of line frame))) (λ e. rw e tt))
    by (fails x) h = rw h (bad-frame line frame x l h)

-- what is told of a judged frame
module _ (line : ℕ) (frame : List ℕ) where
  abbrev Said : Told → Type 0
  Said told = Tells (master_frame told line frame (told_result told)) (reading_of line frame)

  parts : (x : No) → x ≡ refusal_in (reading_of line frame) → (x.number ≡ (refusal_in (reading_of line frame)).number) × (x.place ≡ (refusal_in (reading_of line frame)).place)
  parts x e = (ap (λ (y : No). y.number) e, ap (λ (y : No). y.place) e)

  other : (b : Answer) → refusal_in b ≡ refusal_in (reading_of line frame) → (count : ℕ) → Said (other_kind b count)
  other (w.accepted rec number) e count = parts (no 0 0) e
  other (w.Answer.refused x) e count = parts x e

  failing : (m : Master) (at : ℕ) (out : List ℕ) → no 0 0 ≡ refusal_in (reading_of line frame) → Said (failed_of rejected true m at out).1.0
  unfolding failed_of sending_of
  failing m at out e = on_test (eqb m.count 3) (λ f. rw f (parts (no 0 0) e)) (λ f. rw f (parts (no 0 0) e))

  settled : (m : Master) (at : ℕ) (out : List ℕ) (judgement : Judged) → Agrees judgement (reading_of line frame) → Said (settled_of m at judgement out).1.0
  settled m at out (j.refused x) e = parts x e
  settled m at out j.other_number e = again _ (reading_of line frame) refl refl
  settled m at out j.failed e = failing (with_line m true) at out e
  settled m at out (j.answered rec) e = parts (no 0 0) e
  settled m at out (j.other_kind b) e = other b e m.count

-- a hearing on a state by value
hears : (m : Master) (time : ℕ) (frame out : List ℕ)
    → (master_frame (hear_of m time frame out).1.0 m.line frame (told_result (hear_of m time frame out).1.0)).refusal ≡ 0 → Said m.line frame (hear_of m time frame out).1.0
unfolding hear_of call_fault
hears m time frame out h =
    on_test (in_ranges m)
    (λ e.
    on_test (ltb (length out) longest)
    (λ f. let z : 14 ≡ 0 = rw (e, f) at h in absurd (omega (arith, z)))
    (λ f.
    on_test (is_free m)
    (λ g. rw (e, f, g) (again _ (reading_of m.line frame) refl refl))
    (λ g.
    on_test (run_out time m.t2 t2_limit)
    (λ k. rw (e, f, g, k) (again _ (reading_of m.line frame) refl refl))
    (λ k. rw (e, f, g, k) (settled m.line frame m time out (judged m frame) (judge m.line m.number.0 (type_of m.rec) frame (lined m e)))))))
    (λ e. let z : 15 ≡ 0 = rw e at h in absurd (omega (arith, z)))

-- without a block there is none
no_block : (m : Master) (time : ℕ) (frame : List ℕ) → (told_result (hear_of m time frame []).1.0).refusal ≡ 0 → ⊥
unfolding hear_of call_fault
no_block m time frame h =
    on_test (in_ranges m) (λ e. let z : 14 ≡ 0 = rw e at h in omega (arith, z)) (λ e. let z : 15 ≡ 0 = rw e at h in omega (arith, z))

pub master-tells : MasterTells
unfolding master_hear heard
master-tells b time frame block out h =
    on_test (eqb (length block) record_length)
    (λ e. rw e (hears (load_of b) time frame out (rw e at h)))
    (λ e. absurd (no_block (load_of b) time frame (rw e at h)))
