-- Calls of the desk in any order, with any inputs, and what each can do in its ranges (rules D2 to D8, D17, D18). Assumes nothing.
use mathlib.Core.Path.{◌≡◌, refl, ap, ◌∙◌}
use mathlib.Core.Bool.{Bool, true, false, cond}
use mathlib.Core.List.{List}
use Prim.Native.Nat.{ℕ, ◌<◌}
use Prim.Native.Char.{code}
use native.Mathlib.Omega.{arith}
use lib.Dec.{eqb, leb, ltb}
use lib.ListN.{length}
use borrow.Author.Tests.{ltb-true}
use Rattle.laws.specs.Truth.{both}
use Rattle.laws.proofs.Passes.{on_test}
use Rattle.forms.specs.Lines.{line_of, is_key}
use Rattle.forms.specs.Forms.{data_type}
use Rattle.records.specs.Refusals.{No, no}
use Rattle.records.specs.Records.{type_of}
use Rattle.records.specs.declared.records.Record.{Record}
use Rattle.values.specs.Values.{permits_record}
use Rattle.records.specs.Answers.{Fault, good, fails}
use Rattle.characters.specs.Marks.{longest}
use Rattle.desk.specs.Deciding.{What, Ruling, answers_with}
use Rattle.desk.specs.Deciding as r
use Rattle.desk.proofs.Numbers.{ruling_number}
use Rattle.desk.specs.Fitting.{may_reply, key_fits}
use Rattle.desk.specs.Answers.{Done, done, lost}
use Rattle.desk.specs.Heard.{Told, silent}
use Rattle.desk.specs.State.{in_ranges}
use Rattle.desk.specs.Panel.{loses_line, with_queued, with_requested, with_key, record_fault, faultless, key_fault, tick_of, queue_of, set_of, key_of}
use Rattle.desk.specs.Clearing.{with_none_queued, with_none_set, clear_queue_of, clear_set_of}
use Rattle.desk.specs.Queue.{reply_to}
use Rattle.desk.specs.Hearing.{faulted_of, repeated_of, handled_of, applied_of, ruling, heard_of, hear_of}
use Rattle.desk.specs.declared.state.Desk.{Desk}
use Rattle.conduct.specs.Desk.Calls.{Call, ticks, queues, sets, turns, clears_queue, clears_set, hears, did, heard, Result, saying, hearing, after, noted}

-- two answers of different kinds are never equal
pub never : {A : Type 0} → ◌≡◌ {A = ℕ} 0 1 → A
never z = let y : ⊥ = omega arith in absurd y

-- what a call can do to a state in its ranges
pub data Does (d : Desk) : Call → Result → Type 0 where
  -- refused, but not 15
  barred : {call : Call} {x : No} → ¬ (x.number ≡ 15) → Does d call (d, did (Done.refused x))
  -- under 66 bytes of room
  no_room : {at : ℕ} {frame out : List ℕ} → Does d (hears at frame out) (d, heard (Told.refused (no 14 0)) out)
  ticked : {at : ℕ} → Does d (ticks at) (noted d at, did (cond (loses_line d at) lost done))
  queued : {rec : Record} → may_reply d.line rec ≡ true → d.queued < 8 → Does d (queues rec) (with_queued d rec, did done)
  is_set : {rec : Record} → may_reply d.line rec ≡ true → Does d (sets rec) (with_requested d rec, did done)
  turned : {key : ℕ} → key_fits d.line key ≡ true → Does d (turns key) (with_key d key, did done)
  emptied : Does d clears_queue (with_none_queued d, did done)
  unset : Does d clears_set (with_none_set d, did done)
  -- a hearing by each rule
  unmoved : {at : ℕ} {frame out : List ℕ} {x : No} → Does d (hears at frame out) (noted d at, heard (silent (loses_line d at) x) out)
  faults : {at : ℕ} {frame out : List ℕ} (n : ℕ) → Does d (hears at frame out) (hearing (faulted_of (noted d at) (loses_line d at) n out))
  repeats : {at : ℕ} {frame out : List ℕ} → Does d (hears at frame out) (hearing (repeated_of (noted d at) out))
  handled : {at : ℕ} {frame out : List ℕ} (n : ℕ) (what : What) → n < 2
      → Does d (hears at frame out) (hearing (handled_of (noted d at) (loses_line d at) at n (reply_to (noted d at) what) out))

-- a refusal of another number is not 15
other-number : (k : ℕ) (x : No) → fails (no k 0) ≡ fails x → ¬ (k ≡ 15) → ¬ (x.number ≡ 15)
other-number k x e n q = let y : no k 0 ≡ x = cc in n (ap (λ (z : No). z.number) y ∙ q)

-- no fault of a record in a state in its ranges is 15, and a record without fault may reply
module _ (d : Desk) (h : in_ranges d ≡ true) (rec : Record) where
  record-number : (x : No) → record_fault d rec ≡ fails x → ¬ (x.number ≡ 15)
  unfolding record_fault
  record-number x e = go (in_ranges d) (eqb (type_of rec) (data_type d.line)) (permits_record d.line rec) h e
    where
      go : (r t p : Bool) → r ≡ true → cond r (cond t (cond p good (fails (no 13 0))) (fails (no 12 0))) (fails (no 15 0)) ≡ fails x → ¬ (x.number ≡ 15)
      go true true true h e q = never (cc)
      go true true false h e q = other-number 13 x e (λ z. omega arith) q
      go true false p h e q = other-number 12 x e (λ z. omega arith) q
      go false t p h e q = never (cc)

  record-replies : record_fault d rec ≡ good → may_reply d.line rec ≡ true
  unfolding record_fault may_reply
  record-replies e = go (in_ranges d) (eqb (type_of rec) (data_type d.line)) (permits_record d.line rec) e
    where
      go : (r t p : Bool) → cond r (cond t (cond p good (fails (no 13 0))) (fails (no 12 0))) (fails (no 15 0)) ≡ good → both t p ≡ true
      go true true true e = refl
      go true true false e = never (cc)
      go true false p e = never (cc)
      go false t p e = never (cc)

-- no fault of a key position is 15, and a position without fault is one of the line
module _ (d : Desk) (h : in_ranges d ≡ true) (key : ℕ) where
  key-number : (x : No) → key_fault d key ≡ fails x → ¬ (x.number ≡ 15)
  unfolding key_fault
  key-number x e = go (in_ranges d) (line_of d.line).keyed (is_key key) h e
    where
      go : (r l p : Bool) → r ≡ true → cond r (cond l (cond p good (fails (no 13 0))) (fails (no 12 0))) (fails (no 15 0)) ≡ fails x → ¬ (x.number ≡ 15)
      go true true true h e q = never (cc)
      go true true false h e q = other-number 13 x e (λ z. omega arith) q
      go true false p h e q = other-number 12 x e (λ z. omega arith) q
      go false l p h e q = never (cc)

  key-fits : key_fault d key ≡ good → key_fits d.line key ≡ true
  unfolding key_fault key_fits
  key-fits e = go (in_ranges d) (line_of d.line).keyed (is_key key) e
    where
      go : (r l p : Bool) → cond r (cond l (cond p good (fails (no 13 0))) (fails (no 12 0))) (fails (no 15 0)) ≡ good → cond l p (eqb key (code "A")) ≡ true
      go true true true e = refl
      go true true false e = never (cc)
      go true false p e = never (cc)
      go false l p e = never (cc)

-- refused by a fault or not
guard : (P : Result → Type 0) (d : Desk) (step : Desk × Done) (f : Fault) → ((x : No) → f ≡ fails x → P (d, did (Done.refused x))) → (f ≡ good → P (saying step))
    → P (saying (faultless f d step))
guard P d step good a b = b refl
guard P d step (fails x) a b = a x refl

module _ (d : Desk) (h : in_ranges d ≡ true) where
  -- the rule that settles a hearing
  applies : (at : ℕ) (frame out : List ℕ) (r : Ruling) → answers_with r < 2 → Does d (hears at frame out) (hearing (applied_of (noted d at) (loses_line d at) at r out))
  applies at frame out (r.silent x) n = unmoved
  applies at frame out (r.fault x k) n = faults k
  applies at frame out (r.repeat k what) n = repeats
  applies at frame out (r.handle k what) n = handled k what n

  pub does : (call : Call) → Does d call (after d call)
  unfolding tick_of queue_of set_of key_of clear_queue_of clear_set_of hear_of heard_of
  does (ticks at) = rw h ticked
  does (queues rec) =
      guard (Does d (queues rec)) d _ (record_fault d rec)
      (λ x e. barred (record-number d h rec x e))
      (λ e. on_test (ltb d.queued 8)
      (λ b. rw b (queued (record-replies d h rec e) (ltb-true d.queued 8 b)))
      (λ b. rw b (barred {x = no 17 0} (λ q. omega arith))))
  does (sets rec) =
      guard (Does d (sets rec)) d _ (record_fault d rec)
      (λ x e. barred (record-number d h rec x e))
      (λ e. is_set (record-replies d h rec e))
  does (turns key) =
      guard (Does d (turns key)) d _ (key_fault d key)
      (λ x e. barred (key-number d h key x e))
      (λ e. turned (key-fits d h key e))
  does clears_queue = rw h emptied
  does clears_set = rw h unset
  does (hears at frame out) =
      rw h
      (on_test (leb longest (length out))
      (λ b. rw b (applies at frame out (ruling (noted d at) frame) (ruling_number (noted d at).line (noted d at).good (noted d at).last.0 frame)))
      (λ b. rw b no_room))
