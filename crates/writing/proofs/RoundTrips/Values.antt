-- Both round trips of a packet's value: a permitted number and its characters, permitted characters and their number. Assumes nothing.
use mathlib.Core.Path.{◌≡◌, refl, sym, ap}
use mathlib.Core.Bool.{Bool, true, false, cond, not}
use mathlib.Core.List.{List, [], ◌∷◌}
use Prim.Native.Nat.{ℕ, zero, suc, ◌+◌, ◌-◌}
use native.Mathlib.Omega.{arith}
use native.Mathlib.Numerals.{sub-one}
use lib.Dec.{eqb}
use lib.ListN.{length, drop}
use borrow.Author.Tests.{eqb-true, eq-eqb, ne_eqb}
use Rattle.laws.specs.Truth.{every}
use Rattle.laws.specs.Numerals.{numeral, left_of, number_on}
use Rattle.laws.proofs.Truths.{both_left, both_right, both_true}
use Rattle.laws.proofs.Passes.{both-off}
use Rattle.laws.proofs.Digits.{AllDigits, number-numeral, numeral-number, nothing_left, numeral-length}
use Rattle.characters.specs.Characters.{in_set}
use Rattle.forms.specs.Lines.{is_line}
use Rattle.values.specs.Packets.{lead_of, is_decimal, permits}
use Rattle.values.specs.Values.{led, narrow, text_of, value_of, number_width, permitted_from, number_fits, permitted, permits_value}
use Rattle.writing.proofs.RoundTrips.Bytes.{leads, permits-set, permits-lead, permits-digit}

-- the w characters of a number, where t says that no lead stands in front
abbrev spell : Bool → ℕ → Bool → ℕ → ℕ → List ℕ
spell t lead d w n = cond t (numeral d w n) (led lead d w n)

-- the characters that say the number
abbrev bare : Bool → List ℕ → List ℕ
bare t text = cond t text (drop 1 text)

-- they are w, whatever the number
spell-length : (t : Bool) (lead : ℕ) (d : Bool) (w n : ℕ) → length (spell t lead d w n) ≡ w
spell-length true lead d w n = numeral-length d w n
spell-length false lead d zero n = refl
spell-length false lead d (suc w) n = ap suc (numeral-length d w n)

-- a value has as many characters as it was given
pub text-length : (letter w n : ℕ) → length (text_of letter w n) ≡ w
unfolding text_of
text-length letter w n = spell-length (eqb (lead_of letter) 0) (lead_of letter) (is_decimal letter) w n

-- they say the number, if nothing is left of it
spell-number : (t : Bool) (lead : ℕ) (d : Bool) (w n : ℕ) → left_of d (cond t w (w - 1)) n ≡ 0 → number_on d 0 (bare t (spell t lead d w n)) ≡ n
unfolding number_on left_of
spell-number true lead d w n h = number-numeral d w n h
spell-number false lead d zero n h = sym h
spell-number false lead d (suc w) n h = number-numeral d w n (rw (sub-one (suc w)) at h)

-- the characters are in the right places: the lead, and digits behind it
abbrev Spelt : Bool → ℕ → Bool → List ℕ → Type 0
Spelt true lead d text = AllDigits d text
Spelt false lead d [] = Unit {0}
Spelt false lead d (b ∷ bs) = (b ≡ lead) × AllDigits d bs

-- such characters are those of the number that they say
number-spell : (t : Bool) (lead : ℕ) (d : Bool) (text : List ℕ) → Spelt t lead d text → spell t lead d (length text) (number_on d 0 (bare t text)) ≡ text
number-spell true lead d text a = numeral-number d text a
number-spell false lead d [] a = refl
number-spell false lead d (b ∷ bs) a = cc (a.0, numeral-number d bs a.1)

-- and nothing is left of that number
number-left : (t : Bool) (lead : ℕ) (d : Bool) (text : List ℕ) → Spelt t lead d text → left_of d (cond t (length text) (length text - 1)) (number_on d 0 (bare t text)) ≡ 0
unfolding number_on left_of
number-left true lead d text a = nothing_left d text a
number-left false lead d [] a = refl
number-left false lead d (b ∷ bs) a = rw (sub-one (suc (length bs))) (nothing_left d bs a.1)

module _ (line kind letter : ℕ) (l : is_line line ≡ true) where
  -- from each place on, permitted bytes are of the set
  set-from : (at : ℕ) (text : List ℕ) → permitted_from line kind letter at text ≡ true → every in_set text ≡ true
  unfolding permitted_from
  set-from at [] h = refl
  set-from at (b ∷ bs) h =
      both_true (in_set b) (every in_set bs) (permits-set line kind letter at b l (both_left _ _ h)) (set-from (at + 1) bs (both_right (permits line kind letter at b) _ h))

  -- a permitted value's characters are permitted
  characters : (text : List ℕ) → permitted line kind letter text ≡ true → permitted_from line kind letter 0 text ≡ true
  unfolding permitted
  characters text h = both_left _ _ h

  -- they are of the set
  pub permitted-set : (text : List ℕ) → permitted line kind letter text ≡ true → every in_set text ≡ true
  permitted-set text h = set-from 0 text (characters text h)

  -- a lead stands only at the first place
  later : (at : ℕ) → leads letter (at + 1) ≡ false
  later at = both-off (not (eqb (lead_of letter) 0)) (eqb (at + 1) 0) (ne_eqb (at + 1) 0 (λ e. omega arith))

  -- from each place on where no lead stands, permitted bytes are digits of the value's base
  digits_from : (at : ℕ) (text : List ℕ) → leads letter at ≡ false → permitted_from line kind letter at text ≡ true → AllDigits (is_decimal letter) text
  unfolding permitted_from AllDigits
  digits_from at [] e h = tt
  digits_from at (b ∷ bs) e h =
      let k = permits-digit line kind letter at b l (both_left _ _ h) e in
      (k.0, k.1, digits_from (at + 1) bs (later at) (both_right (permits line kind letter at b) _ h))

  -- so permitted characters are in the right places
  spelt : (t : Bool) (text : List ℕ) → eqb (lead_of letter) 0 ≡ t → permitted_from line kind letter 0 text ≡ true → Spelt t (lead_of letter) (is_decimal letter) text
  unfolding permitted_from
  spelt true text e h = digits_from 0 text (rw e refl) h
  spelt false [] e h = tt
  spelt false (b ∷ bs) e h =
      (permits-lead line kind letter 0 b l (both_left _ _ h) (rw e refl), digits_from 1 bs (later 0) (both_right (permits line kind letter 0 b) _ h))

  permitted-spelt : (text : List ℕ) → permitted line kind letter text ≡ true → Spelt (eqb (lead_of letter) 0) (lead_of letter) (is_decimal letter) text
  permitted-spelt text h = spelt (eqb (lead_of letter) 0) text refl (characters text h)

  module _ (text : List ℕ) (s : narrow letter (length text) ≡ true) (h : permitted line kind letter text ≡ true) where
    -- permitted characters are the characters of their number
    pub value-text : text_of letter (length text) (value_of letter text) ≡ text
    unfolding text_of value_of
    value-text = rw s (number-spell (eqb (lead_of letter) 0) (lead_of letter) (is_decimal letter) text (permitted-spelt text h))

    -- nothing is left of their number
    nothing : left_of (is_decimal letter) (number_width letter (length text)) (value_of letter text) ≡ 0
    unfolding number_width value_of
    nothing = rw s (number-left (eqb (lead_of letter) 0) (lead_of letter) (is_decimal letter) text (permitted-spelt text h))

    -- so their number is permitted
    pub value-permitted : permits_value line kind letter (length text) (value_of letter text) ≡ true
    unfolding permits_value permitted
    value-permitted =
        let v = value_of letter text in
        both_true _ _ (eq-eqb _ _ nothing)
        (both_true (permitted_from line kind letter 0 (text_of letter (length text) v)) (number_fits line letter (length text) v)
        (rw value-text (characters text h)) (both_right (permitted_from line kind letter 0 text) _ h))

module _ (line kind letter w n : ℕ) (s : narrow letter w ≡ true) (h : permits_value line kind letter w n ≡ true) where
  -- a permitted number's characters say the number
  pub text-value : value_of letter (text_of letter w n) ≡ n
  unfolding permits_value text_of value_of number_width
  text-value =
      rw (text-length letter w n, s) (spell-number (eqb (lead_of letter) 0) (lead_of letter) (is_decimal letter) w n (eqb-true _ _ (both_left _ _ h)))

  -- and are permitted
  pub text-permitted : permitted line kind letter (text_of letter w n) ≡ true
  unfolding permits_value permitted
  text-permitted =
      let k = both_right (eqb (left_of (is_decimal letter) (number_width letter w) n) 0) _ h in
      let t = text_of letter w n in
      both_true (permitted_from line kind letter 0 t) (number_fits line letter (length t) (value_of letter t))
      (both_left _ _ k) (rw (text-length letter w n, text-value) (both_right (permitted_from line kind letter 0 t) _ k))
