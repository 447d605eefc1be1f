-- A master that is ticked often enough sends again in time. Assumes nothing.
use mathlib.Core.Path.{◌≡◌, refl}
use mathlib.Core.Bool.{true, false}
use mathlib.Core.List.{List}
use Prim.Native.Nat.{ℕ, ◌+◌, ◌≤◌}
use native.Mathlib.Omega.{arith}
use lib.Dec.{eqb}
use lib.ListN.{length}
use borrow.Author.Tests.{ne_eqb}
use Rattle.laws.proofs.Passes.{on_test}
use Rattle.characters.specs.Marks.{longest}
use Rattle.clock.specs.Clock.{run_out}
use Rattle.conduct.specs.Master.Calls.{Call, call_time, after, offered, polled}
use Rattle.conduct.proofs.Master.Calls.{barred, idle, unheard, permitted, strange, Does, stays, begins, repeats, ends, gives_up, does}
use Rattle.master.specs.Answers.{silence}
use Rattle.master.specs.State.{is_free, in_ranges}
use Rattle.master.specs.Sending.{Behind, t2_limit, sending_of, failed_of, waiting_of, tick_of}
use Rattle.master.specs.declared.state.Master.{Master}
use Rattle.master.proofs.Ranges.{passes}
use Rattle.protocol.specs.Ends.{Did, nothing, first, resent, got, gave}
use Rattle.demand3.specs.Ours.{did_of}

-- what a call of the master leaves of T2's start: all as it was where it did nothing; its own time where it sent
abbrev pub Times : Did (List ℕ) → Master → ℕ → Master → Type 0
Times nothing m t n = n ≡ m
Times (first f) m t n = (n.t2 ≡ t) × (is_free n ≡ false)
Times (resent f) m t n = (n.t2 ≡ t) × (is_free n ≡ false)
Times (got f k) m t n = Unit {0}
Times (gave k) m t n = Unit {0}

-- it did something
abbrev pub Done : Did (List ℕ) → Type 0
Done nothing = ⊥
Done (first f) = Unit {0}
Done (resent f) = Unit {0}
Done (got f k) = Unit {0}
Done (gave k) = Unit {0}

module _ (m : Master) (h : in_ranges m ≡ true) (heard : List ℕ) where
  timed : (call : Call) (turn : Behind) → Does m call turn → Times (did_of heard turn.1.0 turn.1.1) m (call_time call) turn.0
  unfolding sending_of
  timed call turn (stays told (barred n)) = refl
  timed call turn (stays told idle) = refl
  timed call turn (stays told unheard) = refl
  timed call turn (begins which rec offered f s r) = (refl, refl)
  timed call turn (begins which rec polled f s r) = (refl, refl)
  timed call turn (repeats g f n r) = (refl, ne_eqb (m.count + 1) 0 (λ q. omega arith))
  timed call turn (ends told o permitted f b) = tt
  timed call turn (ends told o strange f b) = tt
  timed call turn (gives_up ground f k) = tt

  pub call-timed : (call : Call) → Times (did_of heard (after m call).1.0 (after m call).1.1) m (call_time call) (after m call).0
  call-timed call = timed call (after m call) (does m h call)

  failed : (t : ℕ) (out : List ℕ) → Done (did_of heard (failed_of silence false m t out).1.0 (failed_of silence false m t out).1.1)
  unfolding failed_of sending_of
  failed t out = on_test (eqb m.count 3) (λ e. rw e tt) (λ e. rw e tt)

  -- a tick with room does something where T2 has run out
  pub late-tick : (t : ℕ) (out : List ℕ) → is_free m ≡ false → longest ≤ length out → run_out t m.t2 t2_limit ≡ true
      → Done (did_of heard (tick_of m t out).1.0 (tick_of m t out).1.1)
  unfolding tick_of waiting_of
  late-tick t out f r e = rw (← (passes m (length out) h r), f, e) (failed t out)
