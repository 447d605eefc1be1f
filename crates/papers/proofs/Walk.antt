-- One byte and one packet of the checks along a data field. Assumes nothing.
use mathlib.Core.Path.{◌≡◌}
use mathlib.Core.Bool.{true, false}
use mathlib.Core.List.{List}
use Prim.Native.Nat.{ℕ, ◌+◌, ◌-◌, ◌<◌}
use native.Mathlib.Omega.{arith}
use native.Mathlib.Numerals.{add-one}
use lib.ListN.{length, take, drop, get_or}
use lib.Seq.{drop-cons, drop-drop}
use borrow.Author.Tests.{eq-eqb, ne_eqb}
use Rattle.characters.specs.Characters.{in_set}
use Rattle.forms.specs.Forms.{slots_in}
use Rattle.values.specs.Values.{permitted}
use Rattle.characters.proofs.Parts.{part-first}
use Rattle.forms.proofs.Slots.{slots-step}
use Rattle.std.specs.Prelude.{Some}
use Rattle.reading.specs.DataField.{outside, wrong_letter, bad_value}

-- one byte of the field
module _ (d : List ℕ) (i : ℕ) (h : i < length d) where
  pub byte-in : in_set (get_or d i 0) ≡ true → outside (5 + i) (drop i d) ≡ outside (5 + (i + 1)) (drop (i + 1) d)
  unfolding outside
  byte-in e = let k : 5 + i + 1 ≡ 5 + (i + 1) = omega arith in rw (drop-cons d i 0 h, e, k, add-one i)

  pub byte-out : in_set (get_or d i 0) ≡ false → outside (5 + i) (drop i d) ≡ Some (5 + i)
  unfolding outside
  byte-out e = rw (drop-cons d i 0 h, e)

-- the j-th of n packets, which stands at a place of the field, with a value of w bytes
module _ (ls ws d : List ℕ) (n j at : ℕ) (more : j < n) where
  on : (w : ℕ) → 5 + at + (1 + w) ≡ 5 + (at + (1 + w))
  on w = omega arith

  pub letter-right : (w : ℕ) → w ≡ get_or ws j 0 → get_or d at 0 ≡ get_or ls j 0
      → wrong_letter (5 + at) (slots_in (n - j) (drop j ls) (drop j ws)) (drop at d)
      ≡ wrong_letter (5 + (at + (1 + w))) (slots_in (n - (j + 1)) (drop (j + 1) ls) (drop (j + 1) ws)) (drop (at + (1 + w)) d)
  unfolding wrong_letter
  letter-right w e f = rw (e, slots-step ls ws n j more, part-first d at, eq-eqb (get_or d at 0) (get_or ls j 0) f, on (get_or ws j 0), drop-drop (1 + get_or ws j 0) at d)

  pub letter-wrong : (get_or d at 0 ≡ get_or ls j 0 → ⊥) → wrong_letter (5 + at) (slots_in (n - j) (drop j ls) (drop j ws)) (drop at d) ≡ Some (5 + at)
  unfolding wrong_letter
  letter-wrong f = rw (slots-step ls ws n j more, part-first d at, ne_eqb (get_or d at 0) (get_or ls j 0) f)

  pub value-right : (line kind w : ℕ) → w ≡ get_or ws j 0 → permitted line kind (get_or ls j 0) (take w (drop (at + 1) d)) ≡ true
      → bad_value line kind (5 + at) (slots_in (n - j) (drop j ls) (drop j ws)) (drop at d)
      ≡ bad_value line kind (5 + (at + (1 + w))) (slots_in (n - (j + 1)) (drop (j + 1) ls) (drop (j + 1) ws)) (drop (at + (1 + w)) d)
  unfolding bad_value
  value-right line kind w e f = rw (slots-step ls ws n j more, drop-drop 1 at d, ← e, f, on w, drop-drop (1 + w) at d)

  pub value-wrong : (line kind w : ℕ) → w ≡ get_or ws j 0 → permitted line kind (get_or ls j 0) (take w (drop (at + 1) d)) ≡ false
      → bad_value line kind (5 + at) (slots_in (n - j) (drop j ls) (drop j ws)) (drop at d) ≡ Some (5 + at)
  unfolding bad_value
  value-wrong line kind w e f = rw (slots-step ls ws n j more, drop-drop 1 at d, ← e, f)
