-- Which rule settles what our desk hears, by the number that checks 1 to 7 read. Assumes nothing.
use mathlib.Core.Path.{◌≡◌, refl, sym, ◌∙◌, ap}
use mathlib.Core.Bool.{Bool, true, false}
use mathlib.Core.List.{List}
use Prim.Native.Nat.{ℕ}
use native.Mathlib.Omega.{arith}
use lib.Dec.{eqb}
use lib.ListN.{get_or}
use borrow.Author.Tests.{eqb-true}
use Rattle.laws.specs.Truth.{both, from}
use Rattle.laws.proofs.Truths.{both_left, both_right}
use Rattle.laws.proofs.Passes.{on_test, from-bounds}
use Rattle.records.specs.declared.records.Record.{Record}
use Rattle.records.specs.Refusals.{No}
use Rattle.records.specs.Answers.{Answer, accepted}
use Rattle.records.specs.Answers as w
use Rattle.reading.specs.Frame.{frame_checks}
use Rattle.reading.specs.Reading.{reading_of}
use Rattle.writing.proofs.RoundTrips.Faults.{faultless-good}
use Rattle.writing.proofs.RoundTrips.Frames.{framed-faultless}
use Rattle.writing.proofs.RoundTrips.Checks.{accepted-only}
use Rattle.clock.specs.Counters.{same_number, is_number, number_in}
use Rattle.desk.specs.Deciding.{What, contents, Ruling, silent, fault, repeat, handle, repeats, matter_in, good_frame, bad_frame, ruled_by, ruling_in}
use Rattle.desk.proofs.Numbers.{good-checked}
use Rattle.desk.specs.Hearing.{ruling}
use Rattle.desk.specs.declared.state.Desk.{Desk}
use Rattle.protocol.specs.Rules.{frame}
use Rattle.demand3.proofs.Numbers.{is_one, read, good-frame}

-- what a rule says of the state and of the bytes: a repeat is a good frame with the last number on a good line, and what is handled is a
-- good frame with another number, or on a lost line
abbrev pub Settled : Desk → List ℕ → Ruling → Type 0
Settled d bytes (silent x) = Unit {0}
Settled d bytes (fault x number) = Unit {0}
Settled d bytes (repeat number what) = (d.good ≡ true) × (read bytes ≡ frame (is_one d.last.0))
Settled d bytes (handle number what) = (read bytes ≡ frame (is_one number)) × (d.good ≡ true → eqb d.last.0 number ≡ false)

module _ (d : Desk) (bytes : List ℕ) where
  same_or_not : (number : ℕ) (what : What) → read bytes ≡ frame (is_one number) → Settled d bytes (good_frame d.good d.last.0 number what)
  unfolding good_frame repeats
  same_or_not number what h =
      on_test (both d.good (same_number d.last.0 number))
      (λ e. rw e (both_left d.good _ e, rw (eqb-true d.last.0 number (both_right d.good _ e)) h))
      (λ e. rw e (h, λ g. other d.good (same_number d.last.0 number) g e))
    where
      other : (a b : Bool) → a ≡ true → both a b ≡ false → b ≡ false
      other true b g e = e
      other false true g e = sym g
      other false false g e = refl

  accepted-frame : (rec : Record) (number : ℕ) → reading_of d.line bytes ≡ accepted rec number → read bytes ≡ frame (is_one number)
  accepted-frame rec number h =
      let a = accepted-only d.line bytes rec number h in
      good-frame bytes (faultless-good 1 (frame_checks bytes) (framed-faultless bytes a.framed)) ∙ ap (λ (n : ℕ). frame (is_one n)) a.numbered

  refused-settled : (x : No) → reading_of d.line bytes ≡ w.refused x → Settled d bytes (bad_frame d.good d.last.0 x (get_or bytes 4 0))
  unfolding bad_frame
  refused-settled x h =
      on_test (eqb x.number 6)
      (λ e. rw e (on_test (is_number (get_or bytes 4 0)) (λ g. rw g tt) (λ g. rw g tt)))
      (λ e. rw e (on_test (from 8 11 x.number)
      (λ g. let b = from-bounds 8 11 x.number g in rw g (same_or_not (number_in (get_or bytes 4 0)) (contents x) (good-frame bytes (good-checked d.line bytes x h b.0 (omega arith)))))
      (λ g. rw g tt)))

  pub settled : Settled d bytes (ruling d bytes)
  unfolding ruling_in
  settled = by (reading_of d.line bytes) refl
    where
      by : (a : Answer) → reading_of d.line bytes ≡ a → Settled d bytes (ruled_by d.line d.good d.last.0 (get_or bytes 4 0) a)
      by (accepted rec number) e = same_or_not number (matter_in d.line rec) (accepted-frame rec number e)
      by (w.refused x) e = refused-settled x e
