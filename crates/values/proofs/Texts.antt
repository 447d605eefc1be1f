-- The characters of a packet's value, byte by byte, and the values of a form's packets. Assumes nothing.
use mathlib.Core.Path.{◌≡◌, refl, sym, ◌∙◌}
use mathlib.Core.Bool.{true, false}
use mathlib.Core.List.{List, [], ◌∷◌}
use Prim.Native.Nat.{ℕ, zero, suc, ◌+◌, ◌≤◌}
use native.Mathlib.Omega.{arith}
use lib.Dec.{leb}
use lib.ListN.{length, take}
use borrow.Author.Tests.{leb-true}
use Rattle.laws.specs.Truth.{either}
use Rattle.laws.proofs.Truths.{clash, both_left, both_right}
use Rattle.laws.proofs.Passes.{on_test, on-either}
use Rattle.std.specs.List.{list_all, enumerate_from, zip}
use Rattle.values.specs.Packets.{is_decimal, permits}
use Rattle.values.specs.Values.{narrow, permitted_from, permits_value, permits_values}
use Rattle.forms.specs.Forms.{slots_in}

-- the library's test of each byte beside its place
pub each-byte : (line kind letter at : ℕ) (s : List ℕ) → list_all (λ p. permits line kind letter p.0 p.1) (enumerate_from at s) ≡ permitted_from line kind letter at s
unfolding permitted_from
each-byte line kind letter at [] = refl
each-byte line kind letter at (b ∷ s) = on_test (permits line kind letter at b) (λ e. rw e (each-byte line kind letter (at + 1) s)) (λ e. rw e refl)

-- and of each letter, length and value
pub each-value : (line kind n : ℕ) (ls ws vs : List ℕ) → n ≤ length ls → n ≤ length ws → n ≤ length vs
    → list_all (λ p. permits_value line kind p.0.0 p.0.1 p.1) (zip (zip (take n ls) ws) vs) ≡ permits_values line kind (slots_in n ls ws) vs
unfolding permits_values slots_in
each-value line kind zero ls ws vs a b c = refl
each-value line kind (suc n) (l ∷ ls) (w ∷ ws) (v ∷ vs) a b c =
    on_test (permits_value line kind l w v) (λ e. rw e (each-value line kind n ls ws vs (omega arith) (omega arith) (omega arith))) (λ e. rw e refl)
each-value line kind (suc n) [] ws vs a b c = absurd (omega arith)
each-value line kind (suc n) (l ∷ ls) [] vs a b c = absurd (omega arith)
each-value line kind (suc n) (l ∷ ls) (w ∷ ws) [] a b c = absurd (omega arith)

-- what it says of a value that it is narrow
pub narrow-says : (letter w : ℕ) → narrow letter w ≡ true → (w ≤ 6) × (is_decimal letter ≡ false → w ≤ 3)
unfolding narrow
narrow-says letter w h = (
  leb-true w 6 (both_left (leb w 6) (either (is_decimal letter) (leb w 3)) h),
  λ e. on-either (is_decimal letter) (leb w 3) (both_right (leb w 6) _ h) (λ k. clash (sym e ∙ k)) (leb-true w 3),
)
