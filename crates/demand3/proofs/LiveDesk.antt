-- T1 of our desk, and the sending count of our master. Assumes nothing.
use mathlib.Core.Path.{◌≡◌, refl}
use mathlib.Core.Bool.{Bool, true, false, cond}
use mathlib.Core.List.{List}
use Prim.Native.Nat.{ℕ, ◌≤◌}
use native.Mathlib.Omega.{arith}
use lib.Dec.{leb, ltb}
use lib.ListN.{length}
use borrow.Author.Tests.{leb-true}
use Rattle.laws.proofs.Truths.{both_right, clash}
use Rattle.laws.proofs.Passes.{on_test}
use Rattle.records.specs.Answers.{Fault, good, fails}
use Rattle.characters.specs.Marks.{longest}
use Rattle.clock.specs.Clock.{elapsed_of, run_out}
use Rattle.desk.specs.Deciding.{Ruling, silent, fault, repeat, handle}
use Rattle.desk.specs.Answers.{Done, done, lost}
use Rattle.desk.specs.State.{in_ranges}
use Rattle.desk.specs.Panel.{t1_limit, loses_line, noted_of, faultless, record_fault, key_fault, with_queued, tick_of, queue_of, set_of, key_of}
use Rattle.desk.specs.Clearing.{clear_queue_of, clear_set_of}
use Rattle.desk.specs.Hearing.{Hearing, faulted_of, repeated_of, handled_of, applied_of, ruling, heard_of, hear_of}
use Rattle.desk.specs.declared.state.Desk.{Desk}
use Rattle.master.specs.State.{is_free}
use Rattle.master.specs.declared.state.Master.{Master}
use Rattle.master.proofs.Ranges.{counted}
use Rattle.protocol.specs.Ends.{Said}
use Rattle.demand3.specs.Ours.{lost_in, said_of, is_lost, Panel, queues, sets, turns, clears_queue, clears_set, panel_of}
use Rattle.demand3.proofs.MasterKeeps as mk
use Rattle.demand3.proofs.DeskKeeps as dk
use Rattle.demand3.proofs.LiveSteps.{Few, Starts, same, anew}

loses-late : (d : Desk) (at : ℕ) → loses_line d at ≡ true → t1_limit ≤ elapsed_of at d.t1
unfolding loses_line run_out
loses-late d at e = leb-true t1_limit (elapsed_of at d.t1) (both_right d.good _ e)

noted-t1 : (d : Desk) (b : Bool) → (noted_of d b).t1 ≡ d.t1
unfolding noted_of
noted-t1 d true = refl
noted-t1 d false = refl

module _ (line : ℕ) (d : Desk) (i : dk.Fine line d) (at : ℕ) where
  lost-told : (b : Bool) → is_lost (cond b lost done) ≡ true → b ≡ true
  lost-told true e = refl
  lost-told false e = clash e

  pub tick-t1 : (tick_of d at).0.t1 ≡ d.t1
  unfolding tick_of
  tick-t1 = rw i.fine.ranged (noted-t1 d (loses_line d at))

  pub tick-late : is_lost (tick_of d at).1 ≡ true → t1_limit ≤ elapsed_of at d.t1
  unfolding tick_of
  tick-late = rw i.fine.ranged (λ e. loses-late d at (lost-told (loses_line d at) e))

-- a test's two ways
split : (P : Hearing → Type 0) (b : Bool) {x y : Hearing} → P x → P y → P (cond b x y)
split P true p q = p
split P false p q = q

module _ (d : Desk) (at : ℕ) (frame out : List ℕ) where
  pub record Heard (turn : Hearing) : Type 0 where
    pub starts : Starts d.t1 at (said_of frame turn.1 turn.2) turn.0.t1
    pub late : lost_in turn.1 ≡ true → t1_limit ≤ elapsed_of at d.t1

  unmoved : {q : Said (List ℕ)} (e : Desk) → e.t1 ≡ d.t1 → Starts d.t1 at q d.t1 → Starts d.t1 at q e.t1
  unmoved e q s = rw q s

  applied : (r : Ruling) → Heard (applied_of (noted_of d (loses_line d at)) (loses_line d at) at r out)
  unfolding faulted_of repeated_of handled_of
  applied (silent x) = record { starts = unmoved (noted_of d (loses_line d at)) (noted-t1 d (loses_line d at)) (same tt); late = loses-late d at }
  applied (fault x n) = record { starts = unmoved (noted_of d (loses_line d at)) (noted-t1 d (loses_line d at)) (same tt); late = loses-late d at }
  applied (repeat n what) = record { starts = unmoved (noted_of d (loses_line d at)) (noted-t1 d (loses_line d at)) (same tt); late = λ e. clash e }
  applied (handle n what) = record { starts = anew; late = loses-late d at }

  pub hear-t1 : Heard (hear_of d at frame out)
  unfolding hear_of heard_of
  hear-t1 =
      split Heard (in_ranges d)
      (split Heard (leb longest (length out)) (applied (ruling (noted_of d (loses_line d at)) frame)) (record { starts = same tt; late = λ e. clash e }))
      (record { starts = same tt; late = λ e. clash e })

module _ (d : Desk) where
  unturned : (f : Fault) (step : Desk × Done) → step.0.t1 ≡ d.t1 → (faultless f d step).0.t1 ≡ d.t1
  unturned good step e = e
  unturned (fails x) step e = refl

  either : (b : Bool) (e : Desk) (told : Done) → e.t1 ≡ d.t1 → (cond {A = Desk × Done} b (e, done) (d, told)).0.t1 ≡ d.t1
  either true e told q = q
  either false e told q = refl

  pub panel-t1 : (a : Panel) → (panel_of d a).t1 ≡ d.t1
  unfolding queue_of set_of key_of clear_queue_of clear_set_of
  panel-t1 (queues rec) = unturned (record_fault d rec) _ (either (ltb d.queued 8) (with_queued d rec) _ refl)
  panel-t1 (sets rec) = unturned (record_fault d rec) _ refl
  panel-t1 (turns k) = unturned (key_fault d k) _ refl
  panel-t1 clears_queue = either (in_ranges d) _ _ refl
  panel-t1 clears_set = either (in_ranges d) _ _ refl

pub few : (line : ℕ) (m : Master) → mk.Fine line m → Few (mk.mview m)
few line m i = on_test (is_free m) (λ e. rw e tt) (λ e. rw e (omega (arith, counted m i.ranged e)))
