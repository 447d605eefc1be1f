-- The packets of a form by their places and letters. Assumes nothing.
use mathlib.Core.Path.{◌≡◌, refl, ap}
use mathlib.Core.List.{List, [], ◌∷◌}
use Prim.Native.Nat.{ℕ, zero, suc, ◌+◌, ◌*◌, ◌≤◌, ◌<◌}
use native.Mathlib.Omega.{arith}
use lib.ListN.{length, take, drop, get_or, length-take}
use borrow.Author.Tests.{lt-ltb, le-ltb, ltb-true}
use Rattle.records.specs.Refusals.{no}
use Rattle.forms.specs.declared.rows.Form.{Form}
use Rattle.forms.specs.Forms.{slots_in, slots_of, count_of}
use Rattle.forms.proofs.Slots.{count_small}
use Rattle.laws.proofs.Passes.{on_test}
use Rattle.std.specs.Prelude.{None, Some}
use Rattle.std.specs.List.{position_or_len, position}
use lib.Dec.{eqb, ltb}
use Rattle.in656.specs.declared.results.result.In656Result.{In656Result}
use Rattle.in656.specs.Results.Result.{zeros, saying, with_written, with_count}
use Rattle.in656.specs.Packets.{sender_of, packet_count, no_slot, packet_result, letter_place, place_found, at, refused, lying_in}

-- how many packets a form has is its count
slots_length : (n : ℕ) (ls ws : List ℕ) → length (slots_in n ls ws) ≡ n
unfolding slots_in
slots_length zero ls ws = refl
slots_length (suc n) ls ws = ap suc (slots_length n (drop 1 ls) (drop 1 ws))

pub packet-count : (f : Form) → packet_count f ≡ count_of f
unfolding slots_of
packet-count f = slots_length (count_of f) f.letters f.lens

-- the packet at a place has the letter and the length there
slot_at : (n i : ℕ) (ls ws : List ℕ) → i < n → get_or (slots_in n ls ws) i no_slot ≡ record { letter = get_or ls i 0; len = get_or ws i 0 }
unfolding slots_in
slot_at zero i ls ws h = let z : ⊥ = omega arith in absurd z
slot_at (suc n) zero ls ws h = refl
slot_at (suc n) (suc i) [] [] h = slot_at n i [] [] (omega arith)
slot_at (suc n) (suc i) [] (w ∷ ws) h = slot_at n i [] ws (omega arith)
slot_at (suc n) (suc i) (l ∷ ls) [] h = slot_at n i ls [] (omega arith)
slot_at (suc n) (suc i) (l ∷ ls) (w ∷ ws) h = slot_at n i ls ws (omega arith)

-- an index behind the last packet, and one of a packet
module _ (f : Form) (index count : ℕ) (r : In656Result) (e : count ≡ count_of f) where
  pub packet-none : count ≤ index → r ≡ with_count zeros count → r ≡ packet_result f index
  unfolding packet_result
  packet-none h q = rw (packet-count f, ← e, le-ltb index count h) q

  pub packet-here : (sender : ℕ) → index < count → sender ≡ sender_of f
      → r ≡ with_count (with_written (saying sender (get_or f.letters index 0)) (get_or f.lens index 0)) count → r ≡ packet_result f index
  unfolding packet_result slots_of
  packet-here sender h s q =
      rw (lt-ltb index (packet_count f) (omega (arith, packet-count f, e)))
      (rw (slot_at (count_of f) index f.letters f.lens (omega (arith, e)), slots_length (count_of f) f.letters f.lens, ← e, ← s) q)

-- the place of a letter among a form's packets is its place among the form's letters
placed : (letter n : ℕ) (ls ws : List ℕ) → n ≤ length ls → letter_place (slots_in n ls ws) letter ≡ position_or_len (λ (l : ℕ). eqb l letter) (take n ls)
unfolding slots_in letter_place
placed letter zero ls ws h = refl
placed letter (suc n) [] ws h = absurd (omega arith)
placed letter (suc n) (l ∷ ls) ws h =
    on_test (eqb l letter)
    (λ e. rw e refl)
    (λ e. let p = placed letter n ls (drop 1 ws) (omega arith) in rw e (omega (arith, p)))

pub letter_found : (f : Form) (letter : ℕ) → count_of f ≤ length f.letters → position (λ (l : ℕ). eqb l letter) (take (count_of f) f.letters) ≡ place_found f letter
unfolding slots_of
letter_found f letter h =
    let p = placed letter (count_of f) f.letters f.lens h in
    let l : length (take (count_of f) f.letters) ≡ packet_count f = omega (arith, packet-count f, length-take (count_of f) f.letters) in
    rw (p, ← l)

pub count_most : (f : Form) → count_of f ≤ 10
count_most f = count_small f

-- a letter of a form, and one of none
module _ (f : Form) (letter : ℕ) where
  pub lies-here : (place : ℕ) → Some place ≡ place_found f letter → (place < 10) × (at (1 + 4 * place) ≡ lying_in f letter)
  unfolding lying_in
  lies-here place h =
      on_test (ltb (letter_place (slots_of f) letter) (packet_count f))
      (λ e.
      let p : place ≡ letter_place (slots_of f) letter = let z = rw e at h in cc in
      let l = ltb-true (letter_place (slots_of f) letter) (packet_count f) e in
      (omega (arith, p, l, packet-count f, count_small f), rw (e, p)))
      (λ e. let z = rw e at h in cc)

  pub lies-nowhere : None ≡ place_found f letter → refused (no 10 0) ≡ lying_in f letter
  unfolding lying_in
  lies-nowhere h =
      on_test (ltb (letter_place (slots_of f) letter) (packet_count f))
      (λ e. let z = rw e at h in cc)
      (λ e. rw e)
