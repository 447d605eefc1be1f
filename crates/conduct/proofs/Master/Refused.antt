-- A refused call of the master changes neither state nor output, whatever the state (rule E5). Assumes nothing.
use mathlib.Core.Path.{◌≡◌, ap}
use mathlib.Core.Bool.{Bool, true, false, cond}
use mathlib.Core.List.{List}
use Prim.Native.Nat.{ℕ}
use lib.Dec.{eqb}
use lib.ListN.{length}
use Rattle.laws.proofs.Truths.{clash}
use Rattle.records.specs.Refusals.{No}
use Rattle.records.specs.declared.records.Record.{Record}
use Rattle.records.specs.Answers.{Fault, good, fails}
use Rattle.clock.specs.Clock.{run_out}
use Rattle.master.specs.Answering.{Judged}
use Rattle.master.specs.Answering as j
use Rattle.master.specs.declared.state.Master.{Master}
use Rattle.master.specs.Answers.{Which, Ground, Told, refused}
use Rattle.master.specs.State.{is_free, call_fault}
use Rattle.master.specs.Sending.{Behind, t0_limit, t2_limit, unless_refused, sending_of, failed_of, offer_fault, offer_of, polling_of, waiting_of, tick_of}
use Rattle.master.specs.Hearing.{settled_of, judged, hear_of}
use Rattle.conduct.specs.Master.Calls.{offers, ticks, hears}
use Rattle.conduct.specs.Master.Refused.{RefusedSame}

module _ (m : Master) (out : List ℕ) where
  -- where this is a refusal it changes nothing
  abbrev Same : Behind → Type 0
  Same b = (x : No) → b.1.0 ≡ refused x → b ≡ (m, (refused x, out))

  either_way : (c : Bool) {a b : Behind} → Same a → Same b → Same (cond c a b)
  either_way true p q = p
  either_way false p q = q

  guarded : (f : Fault) {b : Behind} → Same b → Same (unless_refused f m out b)
  guarded good p = p
  guarded (fails y) p = λ x e. ap (λ (told : Told). (m, (told, out))) e

  sending : (which : Which) (n : Master) (rec : Record) (count at : ℕ) → Same (sending_of which n rec count at out)
  unfolding sending_of
  sending which n rec count at x e = clash (cc)

  failing : (ground : Ground) (g : Bool) (n : Master) (at : ℕ) → Same (failed_of ground g n at out)
  unfolding failed_of
  failing ground g n at = either_way (eqb n.count 3) (λ x e. clash (cc)) (sending _ n _ _ at)

  settling : (at : ℕ) (v : Judged) → Same (settled_of m at v out)
  settling at (j.refused y) x e = clash (cc)
  settling at j.other_number x e = clash (cc)
  settling at j.failed x e = failing _ true _ at x e
  settling at (j.answered rec) x e = clash (cc)
  settling at (j.other_kind answer) x e = clash (cc)

pub refused-same : RefusedSame
unfolding offer_of tick_of polling_of waiting_of hear_of
refused-same m (offers at rec out) =
    guarded m out (call_fault m (length out))
    (guarded m out (offer_fault m rec)
    (sending m out _ m rec 1 at))
refused-same m (ticks at out) =
    guarded m out (call_fault m (length out))
    (either_way m out (is_free m)
    (either_way m out (run_out at m.t0 (t0_limit m)) (sending m out _ m _ 1 at) (λ x e. clash (cc)))
    (either_way m out (run_out at m.t2 t2_limit) (failing m out _ false m at) (λ x e. clash (cc))))
refused-same m (hears at frame out) =
    guarded m out (call_fault m (length out))
    (either_way m out (is_free m) (λ x e. clash (cc))
    (either_way m out (run_out at m.t2 t2_limit) (λ x e. clash (cc))
    (settling m out at (judged m frame))))
