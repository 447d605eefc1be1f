-- Checks 8 to 11 and the answer, one after the other. Assumes nothing.
use Rattle.std.specs.Prelude.{Option, None, Some}
use mathlib.Core.Path.{◌≡◌, refl, ap, ◌∙◌}
use mathlib.Core.Bool.{true, false}
use mathlib.Core.List.{List, [], ◌∷◌, ◌++◌}
use Prim.Native.Nat.{ℕ, ◌+◌, ◌-◌}
use lib.ListN.{length, get_or}
use native.Mathlib.Nat.{add-zero}
use native.Mathlib.Omega.{arith}
use Rattle.records.specs.Refusals.{No, no}
use Rattle.forms.specs.Lines.{is_line}
use Rattle.forms.specs.Forms.{Looked, form_of, slots_of}
use Rattle.records.specs.Records.{record_of}
use Rattle.records.specs.Answers.{Fault, good, fails, first_fault, Answer, accepted, refused, unless}
use Rattle.reading.specs.Frame.{needs, field_of, frame_checks}
use Rattle.reading.specs.Contents.{row_in, outside, misshapen, bad_value, values_in, field_checks}
use Rattle.reading.specs.Reading.{in_form, record_in, contents_of, checks, reading_of}

-- the answer for a row that was looked up, and the place of a byte outside the set
unfoldable answer : ℕ → ℕ → Looked → Option ℕ → List ℕ → ℕ → Answer
answer line kind l o d number =
    unless (first_fault 8 (needs l.found 3 ∷ o ∷ misshapen l.form d ∷ bad_value line kind 5 (slots_of l.form) d ∷ []))
    (accepted (record_of kind (values_in 10 (slots_of l.form) d)) number)

whole : (line : ℕ) (s : List ℕ) → answer line (get_or s 3 0) (row_in line s) (outside 5 (field_of s)) (field_of s) (get_or s 4 0 - 48) ≡ contents_of line s
unfolding answer contents_of field_checks record_in
whole line s = refl

-- the row that was looked up by the bytes' type and first letter is theirs
pub looked-in : (line : ℕ) (s : List ℕ) (kind letter : ℕ) (looked : Looked) → kind ≡ get_or s 3 0 → letter ≡ get_or s 5 0 → looked ≡ form_of line kind letter → looked ≡ row_in line s
looked-in line s kind letter looked e l f = f ∙ ap (λ (x : ℕ). form_of line x letter) e ∙ ap (λ (x : ℕ). form_of line (get_or s 3 0) x) l

module _ (line : ℕ) (s : List ℕ) (kind : ℕ) (looked : Looked) (e : kind ≡ get_or s 3 0) (r : looked ≡ row_in line s) where
  same : (o : Option ℕ) (d : List ℕ) (number : ℕ) → o ≡ outside 5 (field_of s) → d ≡ field_of s → number ≡ get_or s 4 0 - 48 → answer line kind looked o d number ≡ contents_of line s
  same o d number g h k = let w = whole line s in cc

  pub strange-type : looked.found ≡ false → refused (no 8 3) ≡ contents_of line s
  unfolding answer
  strange-type h = rw (← (same (outside 5 (field_of s)) (field_of s) (get_or s 4 0 - 48) refl refl refl), h)

  pub strange-byte : looked.found ≡ true → (place : ℕ) → Some place ≡ outside 5 (field_of s) → refused (no 9 place) ≡ contents_of line s
  unfolding answer
  strange-byte h place g = rw (← (same (Some place) (field_of s) (get_or s 4 0 - 48) g refl refl), h)

  pub on-form : looked.found ≡ true → (d : List ℕ) (number : ℕ) → None ≡ outside 5 (field_of s) → d ≡ field_of s → number ≡ get_or s 4 0 - 48
      → in_form line kind number d looked.form ≡ contents_of line s
  unfolding answer in_form
  on-form h d number g i k = rw (← (same None d number g i k), h)

-- a row of checks behind another
abbrev first_of : Fault → Fault → Fault
first_of good f = f
first_of (fails x) f = fails x

in-turn : (k : ℕ) (xs ys : List (Option ℕ)) → first_fault k (xs ++ ys) ≡ first_of (first_fault k xs) (first_fault (k + length xs) ys)
in-turn k [] ys = rw (add-zero k)
in-turn k (None ∷ xs) ys = let e : k + 1 + length xs ≡ k + length (None ∷ xs) = omega arith in in-turn (k + 1) xs ys ∙ rw e
in-turn k (Some place ∷ xs) ys = refl

module _ (line : ℕ) (s : List ℕ) where
  frame_then : first_fault 1 (checks line s) ≡ first_of (first_fault 1 (frame_checks s)) (first_fault 8 (field_checks line s))
  unfolding checks frame_checks
  frame_then = in-turn 1 (frame_checks s) (field_checks line s)

  pub no_line : is_line line ≡ false → refused (no 15 0) ≡ reading_of line s
  unfolding reading_of
  no_line h = rw h

  pub frame-bad : is_line line ≡ true → (x : No) → fails x ≡ first_fault 1 (frame_checks s) → refused x ≡ reading_of line s
  unfolding reading_of
  frame-bad h x g = rw (h, frame_then, ← g)

  pub frame-good : is_line line ≡ true → good ≡ first_fault 1 (frame_checks s) → contents_of line s ≡ reading_of line s
  unfolding reading_of contents_of
  frame-good h g = rw (h, frame_then, ← g)
