-- What a permitted byte is: a packet's lead in its place, a digit in a value of digits, and always a character of the set. Assumes nothing.
use mathlib.Core.Path.{◌≡◌, refl}
use mathlib.Core.Bool.{Bool, true, false, cond, not}
use Prim.Native.Nat.{ℕ, ◌+◌, ◌≤◌, ◌<◌}
use Prim.Native.Char.{code}
use native.Mathlib.Omega.{arith}
use lib.Dec.{eqb}
use borrow.Author.Tests.{eqb-true, not-true}
use Rattle.laws.specs.Text.{codes}
use Rattle.laws.specs.Numerals.{base, nought}
use Rattle.laws.specs.Truth.{both, either, one_of}
use Rattle.laws.proofs.Truths.{clash, both_left, both_right}
use Rattle.laws.proofs.Passes.{on_test, on-cond, on-either, one_of-passes, from-bounds, from-passes}
use Rattle.characters.specs.Characters.{in_set}
use Rattle.characters.proofs.Codes.{low}
use Rattle.forms.specs.Lines.{line_of, is_line}
use Rattle.forms.specs.Forms.{forms, on_line, look_in, data_type}
use Rattle.forms.proofs.Found.{each_line}
use Rattle.values.specs.Packets.{lead_of, is_decimal, digit, operational, permits}

-- a digit is a character of the set
digit_set : (b : ℕ) → digit b ≡ true → in_set b ≡ true
digit_set b h = from-passes in_set (code "0") (code "9") b (unfold in_set in refl) h

-- the slave's data type on a line is a character of the set
data-set : (line : ℕ) → is_line line ≡ true → in_set (data_type line) ≡ true
data-set = each_line (λ (l : ℕ). in_set (data_type l)) (unfold in_set forms on_line look_in data_type in refl)

-- so is one of A B C D F
form-set : (kind b : ℕ) → operational kind b ≡ true → in_set b ≡ true
unfolding in_set
form-set kind b h =
    on-cond (eqb b (code "F")) _ _ h (λ e _. rw (eqb-true b (code "F") e) refl) (λ _. from-passes in_set (code "A") (code "D") b refl)

-- whether a packet's lead stands at a place
abbrev pub leads : ℕ → ℕ → Bool
leads letter at = both (not (eqb (lead_of letter) 0)) (eqb at 0)

-- the lead in its place, elsewhere a digit or a character of the set
abbrev shape : ℕ → ℕ → ℕ → Bool
shape letter at b = cond (leads letter at) (eqb b (lead_of letter)) (cond (is_decimal letter) (digit b) (in_set b))

-- letters whose values are digits without a lead, and those whose values are characters without one
plain-digits : (letter at b : ℕ) → both (eqb (lead_of letter) 0) (is_decimal letter) ≡ true → digit b ≡ true → shape letter at b ≡ true
plain-digits letter at b t h = rw (both_left (eqb (lead_of letter) 0) _ t, both_right (eqb (lead_of letter) 0) _ t) h

plain-set : (letter at b : ℕ) → both (eqb (lead_of letter) 0) (not (is_decimal letter)) ≡ true → in_set b ≡ true → shape letter at b ≡ true
plain-set letter at b t h = rw (both_left (eqb (lead_of letter) 0) _ t, not-true (is_decimal letter) (both_right (eqb (lead_of letter) 0) _ t)) h

-- each packet permits only such bytes
shaped : (line kind letter at b : ℕ) → is_line line ≡ true → permits line kind letter at b ≡ true → shape letter at b ≡ true
unfolding in_set permits lead_of is_decimal
shaped line kind letter at b l h =
    on-cond (one_of (codes "L%HESDCTR") letter) _ _ h
    (λ e k. plain-digits letter at b (one_of-passes (λ (q : ℕ). both (eqb (lead_of q) 0) (is_decimal q)) (codes "L%HESDCTR") letter refl e) k)
    (λ _ h. on-cond (eqb letter (code "F")) _ _ h (λ e k. rw (eqb-true letter _ e) k)
    (λ _ h. on-cond (eqb letter (code "P")) _ _ h
    (λ e k. rw (eqb-true letter _ e) (on-cond (eqb at 0) _ _ k (λ _. from-passes digit (code "0") (code "7") b refl) (λ _ q. q)))
    (λ _ h. on-cond (eqb letter (code "m")) _ _ h (λ e k. rw (eqb-true letter _ e) (from-passes in_set (code "S") (code "T") b refl k))
    (λ _ h. on-cond (eqb letter (code "U")) _ _ h (λ e k. rw (eqb-true letter _ e) (one_of-passes in_set (codes "+-") b refl k))
    (λ _ h. on-cond (eqb letter (code "N")) _ _ h
    (λ e k. rw (eqb-true letter _ e) (on-either _ _ k (λ q. rw (eqb-true b (code "A") q) refl) (from-passes in_set (code "1") (code "2") b refl)))
    (λ _ h. on-cond (eqb letter (code "M")) _ _ h
    (λ e k. rw (eqb-true letter _ e) (on-cond (eqb at 0) _ _ k (λ z q. rw z q) (λ z q. rw z (form-set kind b q))))
    (λ _ h. on-cond (eqb letter (code "V")) _ _ h
    (λ e k. rw (eqb-true letter _ e) (on-cond (eqb at 0) _ _ k (λ z q. rw z q)
    (λ z q. rw z (on-either _ _ q (λ y. rw (eqb-true b (code " ") y) refl) (form-set kind b)))))
    (λ _ h. on-cond (one_of (codes "WX") letter) _ _ h
    (λ e k. plain-set letter at b (one_of-passes (λ (q : ℕ). both (eqb (lead_of q) 0) (not (is_decimal q))) (codes "WX") letter refl e) (one_of-passes in_set (codes "F16") b refl k))
    (λ _ h. on-cond (eqb letter (code "Y")) _ _ h
    (λ e k. rw (eqb-true letter _ e) (on-either _ _ k (digit_set b) (from-passes in_set (code "A") (code "V") b refl)))
    (λ _ h. on-cond (eqb letter (code "Z")) _ _ h (λ e k. rw (eqb-true letter _ e) (from-passes in_set (code "0") (code "7") b refl k))
    (λ _ h. on-cond (eqb letter (code "B")) _ _ h
    (λ e k. rw (eqb-true letter _ e) (on-cond (eqb kind (code "r")) _ _ k (λ _ q. rw (eqb-true b (data_type line) q) (data-set line l)) (λ _ q. q)))
    (λ _ h. on-cond (eqb letter (code "A")) _ _ h
    (λ e k. rw (eqb-true letter _ e) (on-cond (line_of line).keyed _ _ k (λ _. one_of-passes in_set (codes "AXY") b refl) (λ _ q. q)))
    (λ _. clash)))))))))))))

-- a packet has no lead or one of the set
lead-set : (letter : ℕ) → either (eqb (lead_of letter) 0) (in_set (lead_of letter)) ≡ true
unfolding in_set lead_of
lead-set letter =
    on_test (eqb letter (code "F")) (λ e. rw e refl)
    (λ e. on_test (one_of (codes "MV") letter) (λ q. rw (e, q) refl) (λ q. rw (e, q) refl))

-- so such a byte is of the set
shape-set : (letter at b : ℕ) → shape letter at b ≡ true → in_set b ≡ true
shape-set letter at b h =
    on-cond (leads letter at) _ _ h
    (λ e k. on-either (eqb (lead_of letter) 0) (in_set (lead_of letter)) (lead-set letter) (λ z. clash (rw z at e)) (λ m. rw (eqb-true b (lead_of letter) k) m))
    (λ _ k. on-cond (is_decimal letter) (digit b) (in_set b) k (λ _. digit_set b) (λ _ m. m))

-- and behind the lead a digit of the value's base
digit-of : (d : Bool) (b : ℕ) → cond d (digit b) (in_set b) ≡ true → (nought d ≤ b) × (b < nought d + base d)
digit-of true b h = omega (arith, from-bounds (code "0") (code "9") b h)
digit-of false b h = omega (arith, low b h)

module _ (line kind letter at b : ℕ) (l : is_line line ≡ true) (h : permits line kind letter at b ≡ true) where
  -- a permitted byte is a character of the set
  pub permits-set : in_set b ≡ true
  permits-set = shape-set letter at b (shaped line kind letter at b l h)

  -- in the place of the lead it is the lead
  pub permits-lead : leads letter at ≡ true → b ≡ lead_of letter
  permits-lead e = eqb-true b (lead_of letter) (rw e at (shaped line kind letter at b l h))

  -- elsewhere it is a digit of the value's base
  pub permits-digit : leads letter at ≡ false → (nought (is_decimal letter) ≤ b) × (b < nought (is_decimal letter) + base (is_decimal letter))
  permits-digit e = digit-of (is_decimal letter) b (rw e at (shaped line kind letter at b l h))
