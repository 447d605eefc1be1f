-- What a handled frame leaves: all but what the rules change is as it was (rules D8, D10, D11). Assumes nothing.
use mathlib.Core.Path.{◌≡◌, refl, ◌∙◌}
use mathlib.Core.Bool.{Bool, true, false}
use mathlib.Core.List.{List}
use Prim.Native.Nat.{ℕ}
use lib.Dec.{leb}
use lib.ListN.{length}
use Rattle.laws.proofs.Passes.{on_test}
use Rattle.characters.specs.Marks.{longest}
use Rattle.records.specs.declared.records.Record.{Record}
use Rattle.desk.specs.Deciding.{Ruling}
use Rattle.desk.specs.Deciding as r
use Rattle.desk.specs.Replying.{Origin}
use Rattle.desk.specs.Replying as o
use Rattle.desk.specs.State.{in_ranges}
use Rattle.desk.specs.Panel.{loses_line, noted_of}
use Rattle.desk.specs.Queue.{reply_to, taken_by}
use Rattle.desk.specs.Hearing.{faulted_of, repeated_of, handled_of, applied_of, ruling, heard_of, hear_of}
use Rattle.desk.specs.declared.state.Desk.{Desk}
use Rattle.conduct.specs.Desk.Calls.{noted}
use Rattle.conduct.specs.Desk.Polls.{Same}
use Rattle.conduct.specs.Desk.Afterwards.{Afterwards, RowLeaves, SetStays}
use Rattle.conduct.proofs.Desk.Handled.{row-handled}

-- what the first rule and the choice of an answer from elsewhere leave as it was
record Unchanged (d e : Desk) : Type 0 where
  set : e.requested ≡ d.requested
  turned : e.key ≡ d.key

unchanged : (d : Desk) → Unchanged d d
unchanged d = record { set = refl; turned = refl }

noted-unchanged : (d : Desk) (b : Bool) → Unchanged d (noted_of d b) × Same d (noted_of d b)
unfolding noted_of
noted-unchanged d true = (record { set = refl; turned = refl }, (refl, refl))
noted-unchanged d false = (unchanged d, (refl, refl))

taken-unchanged : (d : Desk) (origin : Origin) → Unchanged d (taken_by d origin) × (¬ (origin ≡ o.queue) → Same d (taken_by d origin))
taken-unchanged d o.requested = (unchanged d, λ _. (refl, refl))
taken-unchanged d o.queue = (record { set = refl; turned = refl }, λ n. absurd (n refl))
taken-unchanged d (o.key position) = (unchanged d, λ _. (refl, refl))
taken-unchanged d (o.panel value rec) = (unchanged d, λ _. (refl, refl))
taken-unchanged d (o.contents value x) = (unchanged d, λ _. (refl, refl))
taken-unchanged d (o.not_master value) = (unchanged d, λ _. (refl, refl))
taken-unchanged d (o.nothing_set value) = (unchanged d, λ _. (refl, refl))

handled-leaves : (d : Desk) (b : Bool) (at n : ℕ) (rec : Record) (origin : Origin) (out : List ℕ)
    → Afterwards d (handled_of (noted_of d b) b at n (rec, origin) out).0 at n origin
unfolding handled_of
handled-leaves d b at n rec origin out =
    let x = noted-unchanged d b in
    let y = taken-unchanged (noted_of d b) origin in
    record {
      good = refl;
      last = refl;
      timer = refl;
      set = y.0.set ∙ x.0.set;
      turned = y.0.turned ∙ x.0.turned;
      waiting = λ q. let s = y.1 q in (s.0 ∙ x.1.0, s.1 ∙ x.1.1);
    }

pub row-leaves : RowLeaves
row-leaves d f at frame out room n rec origin row new =
    rw (← (row-handled d f at frame out room n rec origin row new)) (handled-leaves d (loses_line d at) at n rec origin out)

ruled-set : (d : Desk) (b : Bool) (at : ℕ) (s : Ruling) (out : List ℕ) → (applied_of d b at s out).0.requested ≡ d.requested
unfolding faulted_of repeated_of handled_of
ruled-set d b at (r.silent x) out = refl
ruled-set d b at (r.fault x n) out = refl
ruled-set d b at (r.repeat n what) out = refl
ruled-set d b at (r.handle n what) out = (taken-unchanged d (reply_to d what).1).0.set

pub set-stays : SetStays
unfolding hear_of heard_of
set-stays d at frame out =
    on_test (in_ranges d)
    (λ h. on_test (leb longest (length out))
    (λ b. rw (h, b) (ruled-set (noted d at) (loses_line d at) at (ruling (noted d at) frame) out ∙ (noted-unchanged d (loses_line d at)).0.set))
    (λ b. rw (h, b)))
    (λ h. rw h)
