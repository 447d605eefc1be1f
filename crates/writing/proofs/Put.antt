-- A telegram written stretch by stretch. Assumes nothing.
use mathlib.Core.Path.{◌≡◌, refl, sym, ap, ◌∙◌}
use mathlib.Core.List.{List, [], ◌∷◌, ◌++◌, append_assoc}
use Prim.Native.Nat.{ℕ, suc, ◌+◌, ◌-◌, ◌≤◌, ◌<◌}
use native.Mathlib.Omega.{arith}
use lib.ListN.{length, take, drop, get_or, length-append}
use lib.Seq.{drop-drop, take_at, length-take-le}
use borrow.Rule.Slice.PartMut.{put_mid, mid_of, mid_len}
use Rattle.laws.specs.Numerals.{numeral_on}
use Rattle.laws.proofs.Stretch.{next}
use Rattle.characters.specs.Checksum.{checksum_of}
use Rattle.forms.specs.Forms.{slots_in}
use Rattle.values.specs.Values.{text_of, packet_text}
use Rattle.characters.proofs.Parts.{part-first}
use Rattle.forms.proofs.Slots.{slots-step}
use Rattle.reading.specs.Frame.{count_text, body_of, frame_of, head_text, tail_text}
use Rattle.reading.specs.Contents.{data_of}

-- the j-th of n packets
module _ (ls ws vs : List ℕ) (n j : ℕ) (more : j < n) where
  data-here : data_of (slots_in (n - j) (drop j ls) (drop j ws)) (drop j vs)
      ≡ get_or ls j 0 ∷ (text_of (get_or ls j 0) (get_or ws j 0) (get_or vs j 0) ++ data_of (slots_in (n - (j + 1)) (drop (j + 1) ls) (drop (j + 1) ws)) (drop (j + 1) vs))
  unfolding data_of
  data-here = rw (slots-step ls ws n j more, part-first vs j, drop-drop 1 j vs)

  -- it is written behind the packets before it
  pub packet-here : (o ys full : List ℕ) (at w : ℕ) → w ≡ get_or ws j 0 → at + (1 + w) ≤ length o
      → length ys ≡ length (mid_of at (at + (1 + w) - at) o)
      → ys ≡ packet_text (get_or ls j 0) (length (mid_of at (at + (1 + w) - at) o)) (get_or vs j 0)
      → take at o ++ data_of (slots_in (n - j) (drop j ls) (drop j ws)) (drop j vs) ≡ full
      → take (at + (1 + w)) (put_mid at (at + (1 + w) - at) o ys) ++ data_of (slots_in (n - (j + 1)) (drop (j + 1) ls) (drop (j + 1) ws)) (drop (j + 1) vs) ≡ full
  packet-here o ys full at w e room l y f =
      let m : length (mid_of at (at + (1 + w) - at) o) ≡ suc w = mid_len at (at + (1 + w)) o room ∙ omega arith in
      let p : length (take at o) ≡ at = length-take-le at o (omega arith) in
      let q : length (take at o ++ ys) ≡ at + (1 + w) = omega (arith, length-append (take at o) ys) in
      let t : take (at + (1 + w)) (put_mid at (at + (1 + w) - at) o ys) ≡ take at o ++ ys = rw (← append_assoc) (take_at (take at o ++ ys) (drop (at + (1 + w) - at) (drop at o)) (at + (1 + w)) q) in
      let g : ys ≡ get_or ls j 0 ∷ text_of (get_or ls j 0) (get_or ws j 0) (get_or vs j 0) = y ∙ rw (m, e) in
      rw (t, append_assoc, g) (rw data-here at f)

-- head, data field and tail, each in its own stretch, and what lies behind
module _ (kind number w : ℕ) (o h d t : List ℕ) (lh : length h ≡ 5) (ld : length d ≡ w) where
  q₁ : put_mid 0 (5 - 0) o h ≡ h ++ drop 5 o
  q₁ = next [] o h 0 5 refl

  pub q₂ : put_mid 5 (8 + w - 3 - 5) (put_mid 0 (5 - 0) o h) d ≡ (h ++ d) ++ drop (8 + w - 3) o
  q₂ = let e : 5 + (8 + w - 3 - 5) ≡ 8 + w - 3 = omega arith in rw q₁ (next h o d 5 (8 + w - 3 - 5) lh ∙ rw e)

  q₃ : put_mid (8 + w - 3) (8 + w - (8 + w - 3)) (put_mid 5 (8 + w - 3 - 5) (put_mid 0 (5 - 0) o h) d) t ≡ ((h ++ d) ++ t) ++ drop (8 + w) o
  q₃ =
      let e : 8 + w - 3 + (8 + w - (8 + w - 3)) ≡ 8 + w = omega arith in
      let l : length (h ++ d) ≡ 8 + w - 3 = omega (arith, length-append h d) in
      rw q₂ (next (h ++ d) o t (8 + w - 3) (8 + w - (8 + w - 3)) l ∙ rw e)

  -- what stands before the tail
  front : h ≡ head_text (8 + w) kind number → h ++ d ≡ 10 ∷ body_of kind number d
  unfolding body_of
  front e = let k : length d + 8 ≡ 8 + w = omega arith in rw (e, k, append_assoc)

  -- what the checksum sums
  pub summed : h ≡ head_text (8 + w) kind number → take (8 + w - 3 - 1) (drop 1 (put_mid 5 (8 + w - 3 - 5) (put_mid 0 (5 - 0) o h) d)) ≡ body_of kind number d
  summed e =
      let l : length (10 ∷ body_of kind number d) ≡ 5 + w = ap length (sym (front e)) ∙ length-append h d ∙ omega arith in
      rw (q₂, front e) (take_at (body_of kind number d) (drop (8 + w - 3) o) (8 + w - 3 - 1) (omega arith))

  pub telegram-put : h ≡ head_text (8 + w) kind number → t ≡ tail_text (checksum_of (body_of kind number d))
      → put_mid (8 + w - 3) (8 + w - (8 + w - 3)) (put_mid 5 (8 + w - 3 - 5) (put_mid 0 (5 - 0) o h) d) t ≡ frame_of kind number d ++ drop (8 + w) o
  unfolding frame_of
  telegram-put e f = q₃ ∙ rw (front e, f)

-- the head of a telegram has five bytes
pub head-length : (n kind number : ℕ) → length (head_text n kind number) ≡ 5
unfolding count_text numeral_on
head-length n kind number = refl
