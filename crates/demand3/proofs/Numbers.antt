-- Numbers 0 and 1 as two values, and how bytes read by checks 1 to 7. Assumes nothing.
use mathlib.Core.Path.{◌≡◌, refl, ◌∙◌, ap}
use mathlib.Core.Bool.{Bool, true, false, not}
use mathlib.Core.List.{List}
use Prim.Native.Nat.{ℕ, zero, suc, ◌<◌}
use native.Mathlib.Omega.{arith}
use lib.Dec.{eqb}
use lib.ListN.{get_or}
use borrow.Author.Tests.{eqb-false, ne_eqb}
use Rattle.records.specs.declared.records.Record.{Record}
use Rattle.values.specs.Values.{permits_record}
use Rattle.records.specs.Answers.{Fault, good, fails, first_fault}
use Rattle.reading.specs.Frame.{frame_checks}
use Rattle.writing.specs.Writing.{telegram_of}
use Rattle.writing.proofs.RoundTrips.Faults.{faultless-good}
use Rattle.writing.proofs.RoundTrips.Frames.{framed-faultless}
use Rattle.writing.proofs.RoundTrips.Written.{written-framed, written-number}
use Rattle.clock.specs.Counters.{changed_of, number_in}
use Rattle.demand3.specs.Ours.{is_fault, is_refused}
use Rattle.protocol.specs.Rules.{Reading, bad, frame}

abbrev pub is_one : ℕ → Bool
is_one zero = false
is_one (suc n) = true

-- a changed number is the other one
pub changed-other : (n : ℕ) → n < 2 → is_one (changed_of n) ≡ not (is_one n)
changed-other zero h = refl
changed-other (suc n) h = let z : ¬ (suc n ≡ 0) = λ q. omega arith in rw (ne_eqb (suc n) 0 z) refl

-- two numbers that differ are each the other one
pub differ-other : (n l : ℕ) → n < 2 → l < 2 → eqb l n ≡ false → is_one l ≡ not (is_one n)
differ-other zero zero p q e = absurd (eqb-false 0 0 e refl)
differ-other zero (suc l) p q e = refl
differ-other (suc n) zero p q e = refl
differ-other (suc n) (suc l) p q e = let x = eqb-false (suc l) (suc n) e in absurd (x (omega arith))

-- by checks 1 to 7: refused, or a good frame with its number
abbrev pub read_in : Fault → List ℕ → Reading
read_in good bytes = frame (is_one (number_in (get_or bytes 4 0)))
read_in (fails x) bytes = bad

abbrev pub read : List ℕ → Reading
read bytes = read_in (first_fault 1 (frame_checks bytes)) bytes

pub refused-bad : (bytes : List ℕ) → is_refused bytes ≡ true → read bytes ≡ bad
refused-bad bytes h = go (first_fault 1 (frame_checks bytes)) h
  where
    go : (f : Fault) → is_fault f ≡ true → read_in f bytes ≡ bad
    go (fails x) e = refl
    go good e = let z : ◌≡◌ {A = ℕ} 0 1 = cc in let y : ⊥ = omega arith in absurd y

pub good-frame : (bytes : List ℕ) → first_fault 1 (frame_checks bytes) ≡ good → read bytes ≡ frame (is_one (number_in (get_or bytes 4 0)))
good-frame bytes h = rw h

-- what is written is a good frame with its number
pub written-good : (line : ℕ) (rec : Record) (number : ℕ) → permits_record line rec ≡ true → number < 2 → read (telegram_of line rec number) ≡ frame (is_one number)
written-good line rec number h n =
    good-frame (telegram_of line rec number) (faultless-good 1 (frame_checks (telegram_of line rec number)) (framed-faultless (telegram_of line rec number) (written-framed line rec h number n)))
    ∙ ap (λ (k : ℕ). frame (is_one k)) (written-number line rec h number)
