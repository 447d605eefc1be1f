-- What a heard frame is, a lemma for each return. Assumes nothing.
use mathlib.Core.Path.{◌≡◌}
use mathlib.Core.Bool.{true, false}
use mathlib.Core.List.{List}
use Prim.Native.Nat.{ℕ}
use lib.ListN.{get_or}
use Rattle.records.specs.Refusals.{No}
use Rattle.records.specs.Records.{type_of}
use Rattle.records.specs.declared.records.Record.{Record}
use Rattle.records.specs.Answers.{first_fault, good, fails, Answer, accepted}
use Rattle.reading.specs.Frame.{frame_checks}
use Rattle.reading.specs.Reading.{reading_of}
use Rattle.clock.specs.Counters.{same_number, number_in}
use Rattle.master.specs.Rules.{is_failure, permitted_answer}
use Rattle.master.specs.Answering.{Judged, other_number, failed, answered, other_kind, answered_by, taken_of, judge_of}

module _ (line sent : ℕ) (rec : Record) (number : ℕ) where
  pub by-failure : is_failure rec ≡ true → failed ≡ answered_by line sent rec number
  unfolding answered_by
  by-failure h = rw h

  module _ (h : is_failure rec ≡ false) (got : ℕ) (e : got ≡ type_of rec) where
    pub by-permitted : permitted_answer line sent got ≡ true → answered rec ≡ answered_by line sent rec number
    unfolding answered_by
    by-permitted p = let k : permitted_answer line sent (type_of rec) ≡ true = rw e at p in rw (h, k)

    pub by-other : permitted_answer line sent got ≡ false → other_kind (accepted rec number) ≡ answered_by line sent rec number
    unfolding answered_by
    by-other p = let k : permitted_answer line sent (type_of rec) ≡ false = rw e at p in rw (h, k)

module _ (line number sent : ℕ) (frame : List ℕ) where
  pub when-bad : (x : No) → fails x ≡ first_fault 1 (frame_checks frame) → Judged.refused x ≡ judge_of line number sent frame
  unfolding judge_of
  when-bad x h = rw (← h)

  module _ (g : good ≡ first_fault 1 (frame_checks frame)) (byte n : ℕ) (b : byte ≡ get_or frame 4 0) (k : n ≡ number_in byte) where
    pub when-other : same_number number n ≡ false → other_number ≡ judge_of line number sent frame
    unfolding judge_of
    when-other h = let q : same_number number (number_in (get_or frame 4 0)) ≡ false = rw (k, b) at h in rw (← g, q)

    pub when-taken : same_number number n ≡ true → (answer : Answer) → answer ≡ reading_of line frame → taken_of line sent answer ≡ judge_of line number sent frame
    unfolding judge_of
    when-taken h answer a = let q : same_number number (number_in (get_or frame 4 0)) ≡ true = rw (k, b) at h in rw (a, ← g, q)
