-- One packet of the walk along a data field. Assumes nothing.
use Rattle.std.specs.Prelude.{Option, Some, None}
use Rattle.std.specs.Iterator.{Yields}
use Rattle.std.specs.Iterator.Adapters.{zip_first, zip_second}
use Rattle.std.specs.declared.iter.Zip.{Zip}
use Rattle.std.proofs.Common.{Iter}
use Rattle.std.specs.Slice.Iter.{iter_rest}
use Rattle.std.proofs.iter.Yields.{fronts}
use Rattle.std.proofs.lemmas.Iterator.{zips}
use Rattle.std.proofs.lemmas.Slice.Zip.{zip_turn, zip_end}
use denote.Ref.{Bor}
use Rattle.std.proofs.lemmas.List.{get_or-take, drop-take, length-take}
use mathlib.Core.Path.{◌≡◌, refl, ◌∙◌}
use mathlib.Core.Bool.{Bool, true, false}
use mathlib.Core.List.{List, [], ◌∷◌}
use Prim.Native.Nat.{ℕ, zero, suc, ◌+◌, ◌-◌, ◌≤◌, ◌<◌}
use native.Mathlib.Omega.{arith}
use native.Mathlib.Nat.{add-zero}
use lib.Dec.{eqb}
use lib.ListN.{length, take, drop, get_or}
use lib.Seq.{drop-drop}
use Rattle.characters.specs.Characters.{in_set}
use Rattle.forms.specs.Forms.{Slot, slots_in}
use Rattle.values.specs.Values.{permitted, value_of}
use Rattle.forms.proofs.Slots.{slots-step}
use Rattle.reading.specs.DataField.{behind, data_behind, packet_value, first_packet, outside, wrong_letter, bad_value, values_in}

-- each byte of the field is of the set, or the first at an index is not
pub inside_all : (at : ℕ) (d : List ℕ) → ((k : ℕ) → k < length d → in_set (get_or d k 0) ≡ true) → None ≡ outside at d
unfolding outside
inside_all at [] h = refl
inside_all at (b ∷ d) h = rw (h 0 (omega arith)) (inside_all (at + 1) d (λ k l. h (suc k) (omega arith)))

pub first_outside : (at : ℕ) (d : List ℕ) (i : ℕ) → i < length d → ((k : ℕ) → k < i → in_set (get_or d k 0) ≡ true) → in_set (get_or d i 0) ≡ false
    → Some (at + i) ≡ outside at d
unfolding outside
first_outside at [] i l h f = let z : ⊥ = omega arith in absurd z
first_outside at (b ∷ d) zero l h f = rw (f, add-zero at)
first_outside at (b ∷ d) (suc i) l h f =
    let e : at + suc i ≡ at + 1 + i = omega arith in
    rw (h 0 (omega arith), e) (first_outside (at + 1) d i (omega arith) (λ k m. h (suc k) (omega arith)) f)

-- a loop over the first n letters and lengths of a form has yielded some of both
module _ (ls ws : List ℕ) (n : ℕ) (xs : List (Bor ℕ × Bor ℕ)) (s t u : Zip (Iter ℕ) (Iter ℕ)) (r : Option (Bor ℕ × Bor ℕ))
    (a : iter_rest (zip_first s) ≡ take n ls) (b : iter_rest (zip_second s) ≡ take n ws) (y : Yields (zips fronts fronts) s xs t) (z : zips fronts fronts t r u) where
  -- the next two are at the index that so many make
  pub turn : (p : Bor ℕ × Bor ℕ) → r ≡ Some p → (length xs < n) × (p.0.now ≡ get_or ls (length xs) 0) × (p.1.now ≡ get_or ws (length xs) 0)
  turn p e =
      let k = zip_turn (take n ls) (take n ws) xs s t u r a b y p e z in
      let m : length xs < n = omega (arith, k.0, length-take n ls) in
      (m, k.2 0 ∙ get_or-take n ls (length xs) 0 m, k.3 0 ∙ get_or-take n ws (length xs) 0 m)

  -- at the end it has yielded all
  pub all_turns : n ≤ length ls → n ≤ length ws → r ≡ None → n ≤ length xs
  all_turns f g e =
      omega (arith, zip_end (take n ls) (take n ws) xs s t u r a b y e z, length-take n ls, length-take n ws)

-- the j-th of n packets, which stands at a place of the field, with a value of w bytes
module _ (ls ws d : List ℕ) (n j at : ℕ) (more : j < n) where
  on : (w : ℕ) → 5 + at + (1 + w) ≡ 5 + (at + (1 + w))
  on w = omega arith

  -- it passes a test, and the walk goes on behind it; or it fails it
  module _ (test : ℕ → List ℕ → Bool) (w : ℕ) (e : w ≡ get_or ws j 0) where
    pub packet-right : test (get_or ls j 0) (take (1 + w) (drop at d)) ≡ true
        → first_packet test (5 + at) (slots_in (n - j) (drop j ls) (drop j ws)) (drop at d)
        ≡ first_packet test (5 + (at + (1 + w))) (slots_in (n - (j + 1)) (drop (j + 1) ls) (drop (j + 1) ws)) (drop (at + (1 + w)) d)
    unfolding first_packet
    packet-right f = rw (slots-step ls ws n j more, ← e, f, on w, drop-drop (1 + w) at d)

    pub packet-wrong : test (get_or ls j 0) (take (1 + w) (drop at d)) ≡ false
        → first_packet test (5 + at) (slots_in (n - j) (drop j ls) (drop j ws)) (drop at d) ≡ Some (5 + at)
    unfolding first_packet
    packet-wrong f = rw (slots-step ls ws n j more, ← e, f)

  -- its value, and those behind it
  pub value-here : (m w : ℕ) → w ≡ get_or ws j 0
      → values_in (suc m) (slots_in (n - j) (drop j ls) (drop j ws)) (drop at d)
      ≡ value_of (get_or ls j 0) (take w (drop (at + 1) d)) ∷ values_in m (slots_in (n - (j + 1)) (drop (j + 1) ls) (drop (j + 1) ws)) (drop (at + (1 + w)) d)
  unfolding values_in
  value-here m w e = rw (slots-step ls ws n j more, drop-drop 1 at d, ← e, drop-drop (1 + w) at d)

-- the two walks that test a packet: its own letter is the form's, its value is permitted
pub letter_walk : (at : ℕ) (ps : List Slot) (d : List ℕ) → first_packet (λ letter packet. eqb (get_or packet 0 0) letter) at ps d ≡ wrong_letter at ps d
unfolding first_packet wrong_letter
letter_walk at [] d = refl
letter_walk at (p ∷ ps) d =
    rw (get_or-take (1 + p.len) d 0 0 (omega arith), letter_walk (behind p at) ps (data_behind p d))

-- the value of a packet by its characters
pub value-of-packet : (n : ℕ) (d : List ℕ) → drop 1 (take (1 + n) d) ≡ packet_value record { letter = 0; len = n } d
value-of-packet n d = drop-take 1 n d

pub value_walk : (line kind at : ℕ) (ps : List Slot) (d : List ℕ)
    → first_packet (λ letter packet. permitted line kind letter (drop 1 packet)) at ps d ≡ bad_value line kind at ps d
unfolding first_packet bad_value
value_walk line kind at [] d = refl
value_walk line kind at (p ∷ ps) d = rw (value-of-packet p.len d, value_walk line kind (behind p at) ps (data_behind p d))
