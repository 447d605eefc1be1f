-- What a row's text means, at the front of an array, and the room that a row gives. Assumes nothing.
use mathlib.Core.Path.{◌≡◌, refl, sym, ap, ◌∙◌}
use mathlib.Core.List.{List, [], ◌∷◌, ◌++◌, append-nil}
use Prim.Native.Char.{code}
use Prim.Native.Nat.{ℕ, zero, suc, ◌-◌, ◌≤◌}
use native.Mathlib.Omega.{arith}
use native.Mathlib.Nat.{le_of_suc-le-suc, not-suc-le-zero}
use lib.ListN.{length, take, set, length-set}
use Rattle.std.proofs.lemmas.List.{length-take-le}
use lib.Seq.{take-nil, take-suc-set, append_snoc}
use borrow.Author.Tests.{lt-ltb, le-ltb}
use Rattle.laws.proofs.Passes.{order}
use Rattle.text.specs.Putting.{puts}
use Rattle.text.specs.Fields.{word_value}
use Rattle.scripts.specs.Meanings.{room_of, blank_of, meant_at, bytes_at}

-- what stands before the place behind a text that was put
before-place : (t : List ℕ) (at : ℕ) (out : List ℕ) → at ≤ length out → take (puts t at out).0 (puts t at out).1 ≡ take at out ++ take (length out - at) t
unfolding puts
before-place [] at out h = rw (take-nil {A = ℕ} (length out - at), append-nil (take at out))
before-place (b ∷ t) at out h =
    order at (length out)
    (λ l.
    let k : length out - at ≡ suc (length out - suc at) = omega arith in
    let g : suc at ≤ length (set out at b) = rw length-set (omega arith) in
    rw (lt-ltb at (length out) l, k)
    (before-place t (suc at) (set out at b) g
    ∙ rw (take-suc-set out at b l, length-set out at b)
    (append_snoc (take at out) b (take (length out - suc at) t))))
    (λ m.
    let k : length out - at ≡ 0 = omega arith in
    rw (le-ltb at (length out) m, k) (sym (append-nil (take at out))))

-- the bytes that a row's text means, at the front of 256
pub meant-front : (n : ℕ) (row out : List ℕ) (r : ℕ) (x : List ℕ) → length out ≡ 256 → (r, x) ≡ puts (meant_at n row) 0 out → take r x ≡ bytes_at n row
unfolding bytes_at
meant-front n row out r x l h =
    let k : length out - 0 ≡ 256 = omega (arith, l) in
    ap (λ (y : ℕ × List ℕ). take y.0 y.1) h
    ∙ before-place (meant_at n row) 0 out (omega arith)
    ∙ ap (λ (i : ℕ). take i (meant_at n row)) k

-- the front of an output that holds # all over
blank-front : (n k : ℕ) → n ≤ k → take n (blank_of k) ≡ blank_of n
blank-front zero k h = refl
blank-front (suc n) zero h = absurd (not-suc-le-zero h)
blank-front (suc n) (suc k) h = ap (λ (t : List ℕ). code "#" ∷ t) (blank-front n k (le_of_suc-le-suc h))

-- no row gives more room than 128
most : (row : List ℕ) → room_of row ≤ 128
unfolding room_of
most row =
    order (word_value 3 row) 128
    (λ l. rw (lt-ltb (word_value 3 row) 128 l) (omega arith))
    (λ m. rw (le-ltb (word_value 3 row) 128 m) (omega arith))

-- so a row's room lies within an output of 128 bytes, whose front of that length is lent, and holds # all over where the output does
pub within : (row : List ℕ) {room : ℕ} → room ≡ room_of row → room ≤ 128
within row e = omega (arith, e, most row)

pub lent_length : (row out : List ℕ) {room : ℕ} → room ≡ room_of row → length out ≡ 128 → room ≡ length (take room out)
lent_length row out e l = sym (length-take-le _ out (omega (arith, e, l, most row)))

pub lent : (row : List ℕ) {room : ℕ} → room ≡ room_of row → take room (blank_of 128) ≡ blank_of (room_of row)
lent row e = ap (λ (n : ℕ). take n (blank_of 128)) e ∙ blank-front (room_of row) 128 (most row)
