-- The parts of a row between separators, texts that are the same, and the place of a word. Assumes nothing.
use Rattle.std.proofs.Common.{◌≡◌, ℕ, zero, suc, ◌+◌, ◌-◌, ◌<◌, ◌≤◌, Bool, true, false, eqb, List, [], ◌∷◌, length, get_or, drop}
use Rattle.std.proofs.Common.{refl, ap, ◌∙◌, ap₂, add-zero, zero-add, add-one, arith, eq-eqb, eqb-true, le-ltb, lt-ltb, drop_of_length-le, drop-cons}
use Rattle.std.specs.Prelude.{not}
use Rattle.std.specs.Option.{unwrap_or}
use Rattle.std.proofs.lemmas.List.Sums.{prefix_len-le-length}
use Rattle.std.specs.List.{find, range_with_len, position, position_or_len, before_first, after_first}
use mathlib.Core.Bool.{◌&&◌}
use Rattle.laws.specs.Truth.{both}
use Rattle.laws.proofs.Truths.{clash, both_left, both_right}
use Rattle.laws.proofs.Passes.{order, on_test}
use Rattle.text.specs.Fields.{up_to, behind_first, from_field, same_text, word_place_from, word_place, word_of, SameIsEqual, EqualIsSame}

-- the first position at which a test holds, or the end
pub at_or_end : (p : ℕ → Bool) (s : List ℕ) → unwrap_or (position p s) (length s) ≡ position_or_len p s
at_or_end p s =
    order (position_or_len p s) (length s) (λ l. rw (lt-ltb (position_or_len p s) (length s) l))
    (λ m. rw (le-ltb (position_or_len p s) (length s) m) (omega (arith, m, prefix_len-le-length (λ x. not (p x)) s)))

-- a row up to its first separator, and what stands behind it, in the library's words
next : (n : ℕ) → 1 + n ≡ suc n
next n = omega arith

pub up_to_is : (sep : ℕ) (s : List ℕ) → up_to sep s ≡ before_first (λ b. eqb b sep) s
unfolding up_to
up_to_is sep [] = refl
up_to_is sep (b ∷ s) =
    on_test (eqb b sep) (λ e. rw e)
    (λ e. rw (e, next (position_or_len (λ x. eqb x sep) s)) (ap (λ (x : List ℕ). b ∷ x) (up_to_is sep s)))

pub behind_first_is : (sep : ℕ) (s : List ℕ) → behind_first sep s ≡ after_first (λ b. eqb b sep) s
unfolding behind_first
behind_first_is sep [] = refl
behind_first_is sep (b ∷ s) =
    on_test (eqb b sep) (λ e. rw e)
    (λ e. let k : 1 + position_or_len (λ x. eqb x sep) s + 1 ≡ suc (position_or_len (λ x. eqb x sep) s + 1) = omega arith in rw (e, k) (behind_first_is sep s))

-- one field more is passed
pub field_passed : (sep n k : ℕ) (s : List ℕ) → k < n → from_field sep (n - (k + 1)) (behind_first sep s) ≡ from_field sep (n - k) s
unfolding from_field
field_passed sep n k s l = let e : n - k ≡ suc (n - (k + 1)) = omega arith in rw e

pub all_passed : (sep n k : ℕ) (s : List ℕ) → n ≤ k → from_field sep (n - k) s ≡ s
unfolding from_field
all_passed sep n k s l = let e : n - k ≡ 0 = omega arith in rw e

-- texts of another length are not the same
pub other_length : (a b : List ℕ) → (length a ≡ length b → ⊥) → false ≡ same_text a b
unfolding same_text
other_length [] [] h = absurd (h refl)
other_length [] (y ∷ ys) h = refl
other_length (x ∷ xs) [] h = refl
other_length (x ∷ xs) (y ∷ ys) h = on_test (eqb x y) (λ e. rw e (other_length xs ys (λ l. h (ap suc l)))) (λ e. rw e)

-- the bytes at a place differ, or agree, or there are none
swapped : (p q r : Bool) → both (both p q) r ≡ both q (both p r)
swapped true q r = refl
swapped false true r = refl
swapped false false r = refl

-- the bytes at a place agree, and all did before
pub all_so_far : (all now : Bool) → (all && now) ≡ both now all
all_so_far true true = refl
all_so_far true false = refl
all_so_far false true = refl
all_so_far false false = refl

pub same-on : (a b : List ℕ) (i x y : ℕ) (all more : Bool) → i < length a → length a ≡ length b → x ≡ get_or a i 0 → y ≡ get_or b i 0 → more ≡ both (eqb x y) all
    → both more (same_text (drop (i + 1) a) (drop (i + 1) b)) ≡ both all (same_text (drop i a) (drop i b))
unfolding same_text
same-on a b i x y all more l e p q h =
    let m : i < length b = omega arith in
    rw (add-one i, drop-cons a i 0 l, drop-cons b i 0 m, ← p, ← q, h) (swapped (eqb x y) all _)

pub all_seen : (all s : Bool) → true ≡ s → all ≡ both all s
all_seen true s h = h
all_seen false s h = refl

pub none_left : (a b : List ℕ) (i : ℕ) → length a ≤ i → length a ≡ length b → true ≡ same_text (drop i a) (drop i b)
unfolding same_text
none_left a b i l e = rw (drop_of_length-le a {i = i} l, drop_of_length-le b {i = i} (omega arith))

-- the place of a word is that of the first number at which the words are the same
place_from : (words one : List ℕ) (k n : ℕ) → word_place_from k n words one ≡ unwrap_or (find (λ j. same_text (word_of j words) one) (range_with_len n k)) (n + k)
unfolding word_place_from
place_from words one zero n = rw add-zero
place_from words one (suc k) n =
    let e : suc n + k ≡ n + suc k = omega arith in
    let f = place_from words one k (suc n) in
    on_test (same_text (word_of n words) one) (λ t. rw t) (λ t. rw (t, add-one n, ← e) f)

pub word_place_is : (words one : List ℕ) (n : ℕ) → word_place words n one ≡ unwrap_or (find (λ j. same_text (word_of j words) one) (range_with_len 0 n)) n
unfolding word_place
word_place_is words one n = place_from words one n 0 ∙ rw zero-add

-- the test of two texts says that they are equal
pub same-is-equal : SameIsEqual
unfolding same_text
same-is-equal [] [] h = refl
same-is-equal [] (y ∷ ys) h = clash h
same-is-equal (x ∷ xs) [] h = clash h
same-is-equal (x ∷ xs) (y ∷ ys) h =
    ap₂ (λ (i : ℕ) (t : List ℕ). i ∷ t) (eqb-true x y (both_left (eqb x y) (same_text xs ys) h)) (same-is-equal xs ys (both_right (eqb x y) (same_text xs ys) h))

pub equal-is-same : EqualIsSame
unfolding same_text
equal-is-same [] = refl
equal-is-same (x ∷ xs) = rw (eq-eqb x x refl) (equal-is-same xs)
