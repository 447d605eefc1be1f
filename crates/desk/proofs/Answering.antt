-- Each record that the desk answers with is permitted on its line. Assumes nothing.
use mathlib.Core.Path.{◌≡◌, ap, ◌∙◌}
use mathlib.Core.Bool.{Bool, true}
use mathlib.Core.List.{List, [], ◌∷◌}
use Prim.Native.Nat.{ℕ, zero, suc, ◌<◌}
use native.Mathlib.Omega.{arith}
use lib.ListN.{length, get_or, take}
use Rattle.laws.specs.Truth.{every}
use Rattle.laws.proofs.Truths.{both_left}
use Rattle.values.specs.Values.{permits_record}
use Rattle.desk.specs.Deciding.{What}
use Rattle.desk.specs.Fitting.{may_reply}
use Rattle.desk.specs.Replying.{Origin, Reply}
use Rattle.desk.specs.State.{in_ranges}
use Rattle.records.specs.declared.records.Record.{Record}
use Rattle.desk.proofs.Permitted.{reply-permitted}
use Rattle.desk.specs.Waiting.{blank, waiting_fits}
use Rattle.desk.specs.Queue.{oldest, reply_to}
use Rattle.desk.specs.declared.waiting.Waiting.{Waiting}
use Rattle.desk.specs.declared.state.Desk.{Desk}
use Rattle.desk.proofs.Ranges.{Fits, ranges-parts}

-- the first that waits
first_fits : (f : Waiting → Bool) (n : ℕ) (q : List Waiting) → 0 < n → length q ≡ 8 → every f (take n q) ≡ true → f (get_or q 0 blank) ≡ true
first_fits f zero q n l h = absurd (omega arith)
first_fits f (suc m) [] n l h = absurd (omega arith)
first_fits f (suc m) (s ∷ q) n l h = both_left (f s) _ h

module _ (d : Desk) (l : length d.queue ≡ 8) (f : Fits d) where
  -- the oldest queued record may reply
  pub oldest-replies : ¬ (d.queued ≡ 0) → may_reply d.line (oldest d) ≡ true
  oldest-replies n = first_fits (waiting_fits d.line) d.queued d.queue (omega arith) l f.waiting

  -- so each answer to a handled telegram is permitted
  pub answer-permitted : (what : What) → permits_record d.line (reply_to d what).0 ≡ true
  answer-permitted what = reply-permitted d.line d.key d.requested d.queued (oldest d) f.lined f.keyed f.wanted oldest-replies what

-- so is the record that is chosen in a state in its ranges
pub chosen-permitted : (d : Desk) → length d.queue ≡ 8 → in_ranges d ≡ true → (what : What) (rec : Record) (origin : Origin) → (rec, origin) ≡ reply_to d what
    → permits_record d.line rec ≡ true
chosen-permitted d l h what rec origin g = ap (λ (r : Reply). permits_record d.line r.0) g ∙ answer-permitted d l (ranges-parts d h) what
