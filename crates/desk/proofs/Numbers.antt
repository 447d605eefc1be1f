-- The number that a rule answers with is 0 or 1. Assumes nothing.
use Rattle.std.specs.Prelude.{Option, None, Some}
use mathlib.Core.Path.{◌≡◌, refl, ap}
use mathlib.Core.Bool.{Bool, true, false, cond}
use mathlib.Core.List.{List, [], ◌∷◌, ◌++◌}
use Prim.Native.Nat.{ℕ, ◌+◌, ◌-◌, ◌≤◌, ◌<◌}
use Prim.Native.Char.{code}
use native.Mathlib.Omega.{arith}
use lib.Dec.{eqb, ltb}
use lib.ListN.{length, get_or}
use borrow.Author.Tests.{ltb-true}
use Rattle.laws.specs.Truth.{from}
use Rattle.laws.specs.Text.{codes}
use Rattle.laws.proofs.Truths.{clash}
use Rattle.laws.proofs.Passes.{on_test, one_of-passes, from-bounds}
use Rattle.forms.specs.Lines.{is_line}
use Rattle.records.specs.declared.records.Record.{Record}
use Rattle.records.specs.Answers.{Fault, good, fails, first_fault, Answer, accepted, refused, unless}
use Rattle.reading.specs.Frame.{frame_checks}
use Rattle.reading.specs.Contents.{field_checks}
use Rattle.reading.specs.Reading.{record_in, checks, reading_of}
use Rattle.writing.proofs.RoundTrips.Faults.{good-faultless}
use Rattle.writing.proofs.RoundTrips.Frames.{faultless-framed}
use Rattle.writing.proofs.Trips.{read-permitted}
use Rattle.clock.specs.Counters.{is_number, number_in}
use Rattle.records.specs.Refusals.{No, no}
use Rattle.desk.specs.Deciding.{What, contents, repeats, matter_in, good_frame, bad_frame, ruled_by, ruling_in, answers_with}

-- where the first fault is behind a row of checks, that row finds none
behind : (k : ℕ) (x : No) (xs ys : List (Option ℕ)) → first_fault k (xs ++ ys) ≡ fails x → k + length xs ≤ x.number → first_fault k xs ≡ good
behind k x [] ys h l = refl
behind k x (None ∷ xs) ys h l = behind (k + 1) x xs ys h (omega arith)
behind k x (Some spot ∷ xs) ys h l = let q : no k spot ≡ x = cc in let e : k ≡ x.number = ap (λ (y : No). y.number) q in absurd (omega arith)

-- a refusal of a reading is its first fault, but for 15
pub refusing : (t : Bool) (f : Fault) (rec : Record) (n : ℕ) (x : No) → cond t (unless f (accepted rec n)) (refused (no 15 0)) ≡ refused x → x.number < 12 → f ≡ fails x
refusing true good rec n x h l = clash (cc)
refusing true (fails y) rec n x h l = cc
refusing false f rec n x h l = let q : no 15 0 ≡ x = cc in let e : 15 ≡ x.number = ap (λ (y : No). y.number) q in absurd (omega arith)

-- a frame refused 8 to 11 is a good frame: checks 1 to 7 find no fault in it,
pub good-checked : (line : ℕ) (s : List ℕ) (x : No) → reading_of line s ≡ refused x → 8 ≤ x.number → x.number < 12 → first_fault 1 (frame_checks s) ≡ good
unfolding reading_of checks frame_checks
good-checked line s x h l u =
    let f = refusing (is_line line) (first_fault 1 (checks line s)) (record_in line s) (get_or s 4 0 - code "0") x h u in
    behind 1 x (frame_checks s) (field_checks line s) f l

-- and its number byte is '0' or '1'
good-number : (line : ℕ) (s : List ℕ) (x : No) → reading_of line s ≡ refused x → 8 ≤ x.number → x.number < 12 → is_number (get_or s 4 0) ≡ true
good-number line s x h l u = (faultless-framed s (good-faultless 1 (frame_checks s) (good-checked line s x h l u))).number

small : (byte : ℕ) → is_number byte ≡ true → number_in byte < 2
small byte h = ltb-true _ _ (one_of-passes (λ (b : ℕ). ltb (number_in b) 2) (codes "01") byte refl h)

module _ (good : Bool) (last : ℕ) where
  good-small : (n : ℕ) (what : What) → n < 2 → answers_with (good_frame good last n what) < 2
  unfolding good_frame
  good-small n what h = on_test (repeats good last n) (λ e. rw e h) (λ e. rw e h)

  bad-small : (x : No) (byte : ℕ) → (8 ≤ x.number → x.number < 12 → is_number byte ≡ true) → answers_with (bad_frame good last x byte) < 2
  unfolding bad_frame
  bad-small x byte f =
      on_test (eqb x.number 6)
      (λ e. rw e (on_test (is_number byte) (λ g. rw g (small byte g)) (λ g. rw g (omega arith))))
      (λ e. rw e (on_test (from 8 11 x.number)
      (λ g. let b = from-bounds 8 11 x.number g in rw g (good-small (number_in byte) (contents x) (small byte (f b.0 (omega arith)))))
      (λ g. rw g (omega arith))))

-- so is the number of each rule
pub ruling_number : (line : ℕ) (good : Bool) (last : ℕ) (frame : List ℕ) → answers_with (ruling_in line good last frame) < 2
unfolding ruling_in
ruling_number line ok last frame = by (reading_of line frame) refl
  where
    by : (a : Answer) → reading_of line frame ≡ a → answers_with (ruled_by line ok last (get_or frame 4 0) a) < 2
    by (accepted rec n) e = good-small ok last n (matter_in line rec) (read-permitted line frame rec n e).1.1.0
    by (refused x) e = bad-small ok last x (get_or frame 4 0) (good-number line frame x e)
