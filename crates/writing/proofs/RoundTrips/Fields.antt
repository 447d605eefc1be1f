-- Both round trips of a data field: permitted values and their packets, packets without a fault and their values. Assumes nothing.
use Rattle.std.specs.Prelude.{None}
use mathlib.Core.Path.{◌≡◌, refl, ap}
use mathlib.Core.Bool.{Bool, true}
use mathlib.Core.List.{List, [], ◌∷◌, ◌++◌}
use Prim.Native.Nat.{ℕ, zero, suc, ◌+◌, ◌≤◌, ◌<◌}
use native.Mathlib.Omega.{arith}
use native.Mathlib.Numerals.{one-add}
use lib.Dec.{eqb}
use lib.ListN.{length, get_or, take, drop, length-append, length-drop, take-append-drop}
use lib.Seq.{take_at, drop_at, length-take-le}
use borrow.Author.Tests.{eqb-true, eq-eqb}
use Rattle.laws.specs.Truth.{every, pad}
use Rattle.laws.proofs.Truths.{both_left, both_right, both_true}
use Rattle.characters.specs.Characters.{in_set}
use Rattle.forms.specs.Lines.{is_line}
use Rattle.forms.specs.Forms.{Slot, width_in}
use Rattle.values.specs.Values.{narrow, text_of, permitted, permits_value, permits_values}
use Rattle.reading.specs.Contents.{data_of, behind, data_behind, packet_value, outside, wrong_letter, bad_value, values_in}
use Rattle.writing.proofs.RoundTrips.Rows.{no_slot, narrow_slot}
use Rattle.writing.proofs.RoundTrips.Faults.{no-fault}
use Rattle.writing.proofs.RoundTrips.Values.{text-length, text-permitted, text-value, permitted-set, value-text, value-permitted}

-- a test of each element of two lists is a test of each of both
every_append : {A : Type 0} (t : A → Bool) (xs ys : List A) → every t xs ≡ true → every t ys ≡ true → every t (xs ++ ys) ≡ true
every_append t [] ys h k = k
every_append t (x ∷ xs) ys h k = both_true (t x) (every t (xs ++ ys)) (both_left _ _ h) (every_append t xs ys (both_right (t x) (every t xs) h) k)

-- bytes of the set have no fault in them
pub set-inside : (at : ℕ) (d : List ℕ) → every in_set d ≡ true → outside at d ≡ None
unfolding outside
set-inside at [] h = refl
set-inside at (b ∷ d) h = rw (both_left (in_set b) (every in_set d) h) (set-inside (at + 1) d (both_right (in_set b) (every in_set d) h))

-- packets fill the width of their form
pub data-length : (ps : List Slot) (vs : List ℕ) → length (data_of ps vs) ≡ width_in ps
unfolding data_of width_in
data-length [] vs = refl
data-length (p ∷ ps) vs =
    let h = data-length ps (drop 1 vs) in
    let k = text-length p.letter p.len (get_or vs 0 0) in
    simp length-append (omega arith)

module _ (p : Slot) (x : ℕ) (d : List ℕ) where
  -- the first packet of a field, and what stands behind it
  abbrev opened : List ℕ
  opened = p.letter ∷ (text_of p.letter p.len x ++ d)

  opened-value : packet_value p opened ≡ text_of p.letter p.len x
  opened-value = take_at (text_of p.letter p.len x) d p.len (text-length p.letter p.len x)

  opened_after : data_behind p opened ≡ d
  opened_after = rw (one-add p.len) (drop_at (text_of p.letter p.len x) d p.len (text-length p.letter p.len x))

-- a field begins with the letter of its first packet
pub data-first : (ps : List Slot) (vs : List ℕ) → get_or (data_of ps vs) 0 0 ≡ (get_or ps 0 no_slot).letter
unfolding data_of
data-first [] vs = refl
data-first (p ∷ ps) vs = refl

-- each letter is the form's
pub data-letters : (at : ℕ) (ps : List Slot) (vs : List ℕ) → wrong_letter at ps (data_of ps vs) ≡ None
unfolding data_of wrong_letter
data-letters at [] vs = refl
data-letters at (p ∷ ps) vs =
    rw (eq-eqb p.letter p.letter refl, opened_after p (get_or vs 0 0) (data_of ps (drop 1 vs))) (data-letters (behind p at) ps (drop 1 vs))

module _ (line kind : ℕ) where
  pub first-value : (p : Slot) (ps : List Slot) (vs : List ℕ) → permits_values line kind (p ∷ ps) vs ≡ true → permits_value line kind p.letter p.len (get_or vs 0 0) ≡ true
  unfolding permits_values
  first-value p ps vs h = both_left _ _ h

  pub more-values : (p : Slot) (ps : List Slot) (vs : List ℕ) → permits_values line kind (p ∷ ps) vs ≡ true → permits_values line kind ps (drop 1 vs) ≡ true
  unfolding permits_values
  more-values p ps vs h = both_right (permits_value line kind p.letter p.len (get_or vs 0 0)) _ h

  -- each byte is of the set
  pub data-set : (ps : List Slot) (vs : List ℕ) → is_line line ≡ true → every (λ (p : Slot). in_set p.letter) ps ≡ true → every narrow_slot ps ≡ true
      → permits_values line kind ps vs ≡ true → every in_set (data_of ps vs) ≡ true
  unfolding data_of
  data-set [] vs l s q h = refl
  data-set (p ∷ ps) vs l s q h =
      both_true (in_set p.letter) _ (both_left _ _ s)
      (every_append in_set (text_of p.letter p.len (get_or vs 0 0)) (data_of ps (drop 1 vs))
      (permitted-set line kind p.letter l _ (text-permitted line kind p.letter p.len (get_or vs 0 0) (both_left _ _ q) (first-value p ps vs h)))
      (data-set ps (drop 1 vs) l (both_right (in_set p.letter) _ s) (both_right (narrow_slot p) _ q) (more-values p ps vs h)))

  -- each value is permitted
  pub data-permitted : (at : ℕ) (ps : List Slot) (vs : List ℕ) → every narrow_slot ps ≡ true → permits_values line kind ps vs ≡ true → bad_value line kind at ps (data_of ps vs) ≡ None
  unfolding data_of bad_value
  data-permitted at [] vs q h = refl
  data-permitted at (p ∷ ps) vs q h =
      rw (
        opened-value p (get_or vs 0 0) (data_of ps (drop 1 vs)),
        opened_after p (get_or vs 0 0) (data_of ps (drop 1 vs)),
        text-permitted line kind p.letter p.len (get_or vs 0 0) (both_left _ _ q) (first-value p ps vs h),
      )
      (data-permitted (behind p at) ps (drop 1 vs) (both_right (narrow_slot p) _ q) (more-values p ps vs h))

  -- the values are read back, and 0 behind them
  pub data-values : (n : ℕ) (ps : List Slot) (xs : List ℕ) → length ps ≡ length xs → every narrow_slot ps ≡ true
      → permits_values line kind ps (pad n xs) ≡ true → values_in n ps (data_of ps (pad n xs)) ≡ pad n xs
  unfolding data_of values_in
  data-values zero ps xs e q h = refl
  data-values (suc n) [] [] e q h = ap (λ (l : List ℕ). 0 ∷ l) (data-values n [] [] e q (unfold permits_values in refl))
  data-values (suc n) [] (x ∷ xs) e q h = absurd (omega arith)
  data-values (suc n) (p ∷ ps) [] e q h = absurd (omega arith)
  data-values (suc n) (p ∷ ps) (x ∷ xs) e q h =
      rw (
        opened-value p x (data_of ps (pad n xs)),
        opened_after p x (data_of ps (pad n xs)),
        text-value line kind p.letter p.len x (both_left _ _ q) (first-value p ps (x ∷ pad n xs) h),
        data-values n ps xs (omega arith) (both_right (narrow_slot p) _ q) (more-values p ps (x ∷ pad n xs) h),
      )

-- a field without a fault: as long as its packets, with their letters and permitted values
pub record Clear (line kind at : ℕ) (ps : List Slot) (d : List ℕ) : Type 0 where
  pub filled : length d ≡ width_in ps
  pub letters : wrong_letter at ps d ≡ None
  pub values : bad_value line kind at ps d ≡ None

-- a list is its first element, n behind it, and the rest
split-first : (d : List ℕ) (x n : ℕ) → 0 < length d → get_or d 0 0 ≡ x → x ∷ (take n (drop 1 d) ++ drop (1 + n) d) ≡ d
split-first [] x n h e = absurd (omega arith)
split-first (b ∷ d) x n h e = rw (one-add n, take-append-drop n d, e)

module _ (line kind at : ℕ) (p : Slot) (ps : List Slot) (d : List ℕ) (c : Clear line kind at (p ∷ ps) d) where
  clear_filled : length d ≡ 1 + p.len + width_in ps
  unfolding width_in
  clear_filled = c.filled

  clear-letter : (eqb (get_or d 0 0) p.letter ≡ true) × (wrong_letter (behind p at) ps (data_behind p d) ≡ None)
  unfolding wrong_letter
  clear-letter = no-fault (eqb (get_or d 0 0) p.letter) at (wrong_letter (behind p at) ps (data_behind p d)) c.letters

  clear-value : (permitted line kind p.letter (packet_value p d) ≡ true) × (bad_value line kind (behind p at) ps (data_behind p d) ≡ None)
  unfolding bad_value
  clear-value = no-fault (permitted line kind p.letter (packet_value p d)) at (bad_value line kind (behind p at) ps (data_behind p d)) c.values

  clear-length : length (packet_value p d) ≡ p.len
  clear-length = length-take-le p.len (drop 1 d) (omega (arith, clear_filled, length-drop 1 d))

  clear-narrow : narrow_slot p ≡ true → narrow p.letter (length (packet_value p d)) ≡ true
  clear-narrow q = rw clear-length q

  -- the field is a packet and what stands behind it
  clear-split : p.letter ∷ (packet_value p d ++ data_behind p d) ≡ d
  clear-split = split-first d p.letter p.len (omega (arith, clear_filled)) (eqb-true _ _ clear-letter.0)

  -- and that is without a fault
  clear-after : Clear line kind (behind p at) ps (data_behind p d)
  clear-after = record { filled = omega (arith, clear_filled, length-drop (1 + p.len) d); letters = clear-letter.1; values = clear-value.1 }

module _ (line kind : ℕ) (l : is_line line ≡ true) where
  -- the values of a field without a fault are permitted
  pub values-permitted : (n at : ℕ) (ps : List Slot) (d : List ℕ) → length ps ≤ n → every narrow_slot ps ≡ true → Clear line kind at ps d → permits_values line kind ps (values_in n ps d) ≡ true
  unfolding permits_values values_in
  values-permitted n at [] d h q c = refl
  values-permitted zero at (p ∷ ps) d h q c = absurd (omega arith)
  values-permitted (suc n) at (p ∷ ps) d h q c =
      both_true _ _
      (rw (clear-length line kind at p ps d c) at
      (value-permitted line kind p.letter l (packet_value p d) (clear-narrow line kind at p ps d c (both_left _ _ q))
      (clear-value line kind at p ps d c).0))
      (values-permitted n (behind p at) ps (data_behind p d) (omega arith) (both_right (narrow_slot p) _ q) (clear-after line kind at p ps d c))

  -- and their packets are the field
  pub values-data : (n at : ℕ) (ps : List Slot) (d : List ℕ) → length ps ≤ n → every narrow_slot ps ≡ true → Clear line kind at ps d → data_of ps (values_in n ps d) ≡ d
  unfolding data_of values_in
  values-data n at [] [] h q c = refl
  values-data n at [] (b ∷ d) h q c = absurd (unfold width_in in (omega (arith, c.filled)))
  values-data zero at (p ∷ ps) d h q c = absurd (omega arith)
  values-data (suc n) at (p ∷ ps) d h q c =
      rw (
        rw (clear-length line kind at p ps d c) at (value-text line kind p.letter l (packet_value p d) (clear-narrow line kind at p ps d c (both_left _ _ q)) (clear-value line kind at p ps d c).0),
        values-data n (behind p at) ps (data_behind p d) (omega arith) (both_right (narrow_slot p) _ q) (clear-after line kind at p ps d c),
      )
      (clear-split line kind at p ps d c)
