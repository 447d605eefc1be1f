-- A refused call of the desk changes neither state nor output, whatever the state (rule E5). Assumes nothing.
use mathlib.Core.Path.{refl}
use mathlib.Core.Bool.{Bool, true, false, cond}
use mathlib.Core.List.{List}
use Prim.Native.Nat.{ℕ}
use lib.Dec.{leb, ltb}
use lib.ListN.{length}
use Rattle.records.specs.Answers.{Fault, good, fails}
use Rattle.records.specs.Refusals.{no}
use Rattle.characters.specs.Marks.{longest}
use Rattle.desk.specs.Deciding.{Ruling}
use Rattle.desk.specs.Deciding as r
use Rattle.desk.specs.Answers.{Done, done, lost}
use Rattle.desk.specs.Heard.{Told}
use Rattle.desk.specs.State.{in_ranges}
use Rattle.desk.specs.Panel.{loses_line, with_queued, record_fault, faultless, key_fault, tick_of, queue_of, set_of, key_of}
use Rattle.desk.specs.Clearing.{clear_queue_of, clear_set_of}
use Rattle.desk.specs.Hearing.{faulted_of, repeated_of, handled_of, applied_of, ruling, heard_of, hear_of}
use Rattle.desk.specs.declared.state.Desk.{Desk}
use Rattle.conduct.specs.Desk.Calls.{noted}
use Rattle.conduct.specs.Desk.Refused.{Unmoved, Unheard, TickRefusedSame, QueueRefusedSame, SetRefusedSame, KeyRefusedSame, ClearQueueRefusedSame, ClearSetRefusedSame, HearRefusedSame}

unless-fault : (d : Desk) (f : Fault) (s : Desk × Done) → Unmoved d s → Unmoved d (faultless f d s)
unless-fault d good s k = k
unless-fault d (fails x) s k = λ n. refl

pub tick-refused-same : TickRefusedSame
unfolding tick_of
tick-refused-same d at = go (in_ranges d) (loses_line d at)
  where
    go : (r l : Bool) → Unmoved d (cond r (noted d at, cond l lost done) (d, Done.refused (no 15 0)))
    go true true n = absurd (n refl)
    go true false n = absurd (n refl)
    go false l n = refl

pub queue-refused-same : QueueRefusedSame
unfolding queue_of
queue-refused-same d rec = unless-fault d (record_fault d rec) _ (go (ltb d.queued 8))
  where
    go : (b : Bool) → Unmoved d (cond b (with_queued d rec, done) (d, Done.refused (no 17 0)))
    go true n = absurd (n refl)
    go false n = refl

pub set-refused-same : SetRefusedSame
unfolding set_of
set-refused-same d rec = unless-fault d (record_fault d rec) _ (λ n. absurd (n refl))

pub key-refused-same : KeyRefusedSame
unfolding key_of
key-refused-same d key = unless-fault d (key_fault d key) _ (λ n. absurd (n refl))

-- a call that is done where the state is in its ranges, and refused 15 else
in-ranges-or-15 : (d e : Desk) (b : Bool) → Unmoved d (cond b (e, done) (d, Done.refused (no 15 0)))
in-ranges-or-15 d e true n = absurd (n refl)
in-ranges-or-15 d e false n = refl

pub clear-queue-refused-same : ClearQueueRefusedSame
unfolding clear_queue_of
clear-queue-refused-same d = in-ranges-or-15 d _ (in_ranges d)

pub clear-set-refused-same : ClearSetRefusedSame
unfolding clear_set_of
clear-set-refused-same d = in-ranges-or-15 d _ (in_ranges d)

-- a hearing that is settled is not refused
ruled : (d : Desk) (at : ℕ) (out : List ℕ) (s : Ruling) → Unheard d out (applied_of (noted d at) (loses_line d at) at s out)
unfolding faulted_of repeated_of handled_of
ruled d at out (r.silent x) n = absurd (n refl)
ruled d at out (r.fault x k) n = absurd (n refl)
ruled d at out (r.repeat k what) n = absurd (n refl)
ruled d at out (r.handle k what) n = absurd (n refl)

pub hear-refused-same : HearRefusedSame
unfolding hear_of heard_of
hear-refused-same d at frame out = go (in_ranges d) (leb longest (length out))
  where
    go : (r l : Bool) → Unheard d out (cond r (cond l (applied_of (noted d at) (loses_line d at) at (ruling (noted d at) frame) out) (d, Told.refused (no 14 0), out)) (d, Told.refused (no 15 0), out))
    go true true n = ruled d at out (ruling (noted d at) frame) n
    go true false n = (refl, refl)
    go false l n = (refl, refl)
