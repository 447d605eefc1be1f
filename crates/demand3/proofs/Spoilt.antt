-- The bytes that a run lets arrive spoiled are those that reading refuses with 1 to 7 (rules J3, R1 to R7). Assumes nothing.
use Rattle.std.specs.Prelude.{Option, None, Some}
use mathlib.Core.Path.{◌≡◌, refl, ap}
use mathlib.Core.Bool.{true}
use mathlib.Core.List.{List, [], ◌∷◌, ◌++◌}
use Prim.Native.Nat.{ℕ, ◌+◌, ◌-◌, ◌≤◌, ◌<◌}
use Prim.Native.Char.{code}
use native.Mathlib.Omega.{arith}
use lib.ListN.{length, get_or}
use Rattle.laws.proofs.Truths.{clash}
use Rattle.forms.specs.Lines.{is_line}
use Rattle.records.specs.Answers.{Fault, good, fails, first_fault, refused}
use Rattle.reading.specs.Frame.{frame_checks}
use Rattle.reading.specs.Contents.{field_checks}
use Rattle.reading.specs.Reading.{record_in, checks, reading_of}
use Rattle.records.specs.Refusals.{No, no}
use Rattle.desk.proofs.Numbers.{refusing}
use Rattle.demand3.specs.Ours.{is_fault, is_refused}
use Rattle.demand3.specs.Theorems.{SpoiltRefused, RefusedSpoilt}

-- the number of a refusal that is known
numbered : (k place : ℕ) (x : No) → fails (no k place) ≡ fails x → k ≡ x.number
numbered k place x e = let q : no k place ≡ x = cc in ap (λ (z : No). z.number) q

-- where the front of a row of checks finds a fault, so does the row, and its number is one of the front's
in-front : (k : ℕ) (x : No) (xs ys : List (Option ℕ)) → first_fault k xs ≡ fails x → (first_fault k (xs ++ ys) ≡ fails x) × (x.number < k + length xs)
in-front k x [] ys h = clash (cc)
in-front k x (None ∷ xs) ys h = let r = in-front (k + 1) x xs ys h in (r.0, omega (arith, r.1))
in-front k x (Some spot ∷ xs) ys h = let e = numbered k spot x h in (h, omega arith)

-- where it finds none, the fault's number is none of the front's
behind : (k : ℕ) (x : No) (xs ys : List (Option ℕ)) → first_fault k xs ≡ good → first_fault k (xs ++ ys) ≡ fails x → k + length xs ≤ x.number
behind k x [] [] h e = clash (cc)
behind k x [] (None ∷ ys) h e = let r = behind (k + 1) x [] ys refl e in omega (arith, r)
behind k x [] (Some spot ∷ ys) h e = let q = numbered k spot x e in omega arith
behind k x (None ∷ xs) ys h e = let r = behind (k + 1) x xs ys h e in omega (arith, r)
behind k x (Some spot ∷ xs) ys h e = clash (cc)

module _ (line : ℕ) (bytes : List ℕ) where
  as-refused : is_line line ≡ true → is_refused bytes ≡ true → (x : No) × (reading_of line bytes ≡ refused x) × (x.number ≤ 7)
  unfolding reading_of checks
  as-refused h r = go (first_fault 1 (frame_checks bytes)) refl r
    where
      go : (f : Fault) → first_fault 1 (frame_checks bytes) ≡ f → is_fault f ≡ true → (x : No) × (reading_of line bytes ≡ refused x) × (x.number ≤ 7)
      go good e q = clash q
      go (fails x) e q =
          let p = in-front 1 x (frame_checks bytes) (field_checks line bytes) e in
          let l : length (frame_checks bytes) ≡ 7 = unfold frame_checks in refl in
          (x, rw (h, p.0) refl, omega (arith, p.1, l))

  as-spoilt : (x : No) → reading_of line bytes ≡ refused x → x.number ≤ 7 → is_refused bytes ≡ true
  unfolding reading_of checks
  as-spoilt x h l = go (first_fault 1 (frame_checks bytes)) refl
    where
      go : (f : Fault) → first_fault 1 (frame_checks bytes) ≡ f → is_fault f ≡ true
      go (fails y) e = refl
      go good e =
          let r = refusing (is_line line) (first_fault 1 (checks line bytes)) (record_in line bytes) (get_or bytes 4 0 - code "0") x h (omega arith) in
          let b = behind 1 x (frame_checks bytes) (field_checks line bytes) e r in
          let k : length (frame_checks bytes) ≡ 7 = unfold frame_checks in refl in
          absurd (omega (arith, b, k))

pub spoilt-refused : SpoiltRefused
spoilt-refused line bytes h r = as-refused line bytes h r

pub refused-spoilt : RefusedSpoilt
refused-spoilt line bytes x h l = as-spoilt line bytes x h l
