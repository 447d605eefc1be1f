-- Every sending restarts T0 and T2, and nothing else does (rule M3). Assumes nothing.
use mathlib.Core.Path.{refl}
use mathlib.Core.Bool.{Bool, true, false, cond}
use mathlib.Core.List.{List}
use Prim.Native.Nat.{ℕ, ◌+◌}
use lib.Dec.{eqb}
use lib.ListN.{length}
use Rattle.records.specs.declared.records.Record.{Record}
use Rattle.records.specs.Answers.{Fault, good, fails}
use Rattle.clock.specs.Clock.{run_out}
use Rattle.master.specs.Answering.{Judged}
use Rattle.master.specs.Answering as j
use Rattle.master.specs.Rules.{poll_of}
use Rattle.master.specs.Answers.{Which, again, poll, offered, Ground, silence, rejected, Why, free, nothing, given_up, ignored}
use Rattle.master.specs.Answers as t
use Rattle.master.specs.State.{is_free, call_fault, with_line, given_up_state}
use Rattle.master.specs.Sending.{Behind, t0_limit, t2_limit, unless_refused, sending_of, failed_of, fail_of, offer_fault, offer_of, polling_of, waiting_of, tick_of}
use Rattle.master.specs.Hearing.{settled_of, judged, hear_of}
use Rattle.master.specs.Timers.{Timed, OfferTimed, TickTimed, HearTimed, FailTimed}
use Rattle.master.specs.declared.state.Master.{Master}

module _ (m : Master) (at : ℕ) (out : List ℕ) where
  -- a test's two ways, and a refusal
  split : (b : Bool) {x y : Behind} → Timed m at x → Timed m at y → Timed m at (cond b x y)
  split true p q = p
  split false p q = q

  guard : (f : Fault) {b : Behind} → Timed m at b → Timed m at (unless_refused f m out b)
  guard good p = p
  guard (fails x) p = record { t0 = refl; t2 = refl }

  -- a call that does nothing, and a hearing that is ignored
  idle : Timed m at (m, (nothing, out))
  idle = record { t0 = refl; t2 = refl }

  unheard : (why : Why) → Timed m at (m, (ignored why, out))
  unheard why = record { t0 = refl; t2 = refl }

  -- a sending, from a state whose line may have been noted since
  sends : (which : Which) (g : Bool) (rec : Record) (count : ℕ) → Timed m at (sending_of which (with_line m g) rec count at out)
  unfolding sending_of
  sends which g rec count = record { t0 = refl; t2 = refl }

  gives_up : (cause : Ground) (g line : Bool) → Timed m at (given_up_state (with_line (with_line m line) g), (given_up cause m.count, out))
  gives_up cause g line = record { t0 = refl; t2 = refl }

  failed : (cause : Ground) (g line : Bool) → Timed m at (failed_of cause g (with_line m line) at out)
  unfolding failed_of
  failed cause g line = split (eqb m.count 3) (gives_up cause g line) (sends again line m.rec (m.count + 1))

  settled : (what : Judged) → Timed m at (settled_of m at what out)
  settled (j.refused x) = unheard (t.Why.refused x)
  settled j.other_number = unheard t.other_number
  settled j.failed = failed rejected true true
  settled (j.answered rec) = record { t0 = refl; t2 = refl }
  settled (j.other_kind answer) = record { t0 = refl; t2 = refl }

pub offer-timed : OfferTimed
unfolding offer_of
offer-timed m at rec out = guard m at out (call_fault m (length out)) (guard m at out (offer_fault m rec) (sends m at out offered m.good rec 1))

pub tick-timed : TickTimed
unfolding tick_of polling_of waiting_of
tick-timed m at out =
    guard m at out (call_fault m (length out))
    (split m at out (is_free m)
    (split m at out (run_out at m.t0 (t0_limit m)) (sends m at out poll m.good (poll_of m.line) 1) (idle m at out))
    (split m at out (run_out at m.t2 t2_limit) (failed m at out silence false m.good) (idle m at out)))

pub hear-timed : HearTimed
unfolding hear_of
hear-timed m at frame out =
    guard m at out (call_fault m (length out))
    (split m at out (is_free m) (unheard m at out free)
    (split m at out (run_out at m.t2 t2_limit) (unheard m at out t.run_out) (settled m at out (judged m frame))))

pub fail-timed : FailTimed
unfolding fail_of
fail-timed cause g m at out =
    guard m at out (call_fault m (length out)) (split m at out (is_free m) (idle m at out) (failed m at out cause g m.good))
