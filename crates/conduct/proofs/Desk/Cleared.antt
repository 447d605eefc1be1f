-- What clearing leaves: nothing waits, or nothing is set, and all else is as it was; a repeat is answered with the same bytes
-- (rules D17, D18, D7). Assumes nothing.
use mathlib.Core.Path.{◌≡◌, refl, sym, ap, ◌∙◌}
use mathlib.Core.Bool.{Bool, true, false}
use mathlib.Core.List.{List}
use Prim.Native.Nat.{ℕ}
use Rattle.desk.specs.Answers.{done}
use Rattle.desk.specs.Panel.{loses_line, noted_of}
use Rattle.desk.specs.Clearing.{with_none_queued, with_none_set, clear_queue_of, clear_set_of}
use Rattle.desk.specs.Hearing.{Hearing, ruling}
use Rattle.desk.specs.declared.state.Desk.{Desk}
use Rattle.conduct.specs.Desk.Calls.{Fine}
use Rattle.conduct.specs.Desk.Cleared.{QueueCleared, SetCleared, RepeatsQueueCleared, RepeatsSetCleared}
use Rattle.conduct.proofs.Desk.Kept.{clear-queue-keeps, clear-set-keeps}
use Rattle.conduct.proofs.Desk.Repeats.{repeat-stored}

-- in its ranges a state is cleared
queue-done : (d : Desk) → Fine d → clear_queue_of d ≡ (with_none_queued d, done)
unfolding clear_queue_of
queue-done d f = rw f.ranged

set-done : (d : Desk) → Fine d → clear_set_of d ≡ (with_none_set d, done)
unfolding clear_set_of
set-done d f = rw f.ranged

pub queue-cleared : QueueCleared
queue-cleared d f = rw (queue-done d f) (refl, refl, refl, record { line = refl; good = refl; last = refl; timer = refl; kept = refl; stored = refl; turned = refl })

pub set-cleared : SetCleared
set-cleared d f = rw (set-done d f) (refl, refl, (refl, refl), record { line = refl; good = refl; last = refl; timer = refl; kept = refl; stored = refl; turned = refl })

-- the rule that settles a frame looks at nothing that is cleared
noted-queue : (d : Desk) (b : Bool) (frame : List ℕ) → ruling (noted_of (with_none_queued d) b) frame ≡ ruling (noted_of d b) frame
unfolding noted_of
noted-queue d true frame = refl
noted-queue d false frame = refl

noted-set : (d : Desk) (b : Bool) (frame : List ℕ) → ruling (noted_of (with_none_set d) b) frame ≡ ruling (noted_of d b) frame
unfolding noted_of
noted-set d true frame = refl
noted-set d false frame = refl

-- both states repeat the stored answer, which is the same
pub repeats-queue-cleared : RepeatsQueueCleared
repeats-queue-cleared d f at frame out room n what e =
    let k = (clear-queue-keeps d f).fine in
    let a = repeat-stored d f at frame out room n what e in
    let b = repeat-stored (with_none_queued d) (rw (queue-done d f) at k) at frame out room n what (unfold loses_line in (noted-queue d (loses_line d at) frame ∙ e)) in
    rw (queue-done d f) (ap (λ (h : Hearing). h.1) b ∙ sym (ap (λ (h : Hearing). h.1) a), ap (λ (h : Hearing). h.2) b ∙ sym (ap (λ (h : Hearing). h.2) a))

pub repeats-set-cleared : RepeatsSetCleared
repeats-set-cleared d f at frame out room n what e =
    let k = (clear-set-keeps d f).fine in
    let a = repeat-stored d f at frame out room n what e in
    let b = repeat-stored (with_none_set d) (rw (set-done d f) at k) at frame out room n what (unfold loses_line in (noted-set d (loses_line d at) frame ∙ e)) in
    rw (set-done d f) (ap (λ (h : Hearing). h.1) b ∙ sym (ap (λ (h : Hearing). h.1) a), ap (λ (h : Hearing). h.2) b ∙ sym (ap (λ (h : Hearing). h.2) a))
