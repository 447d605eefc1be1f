-- The records that wait in the queue, and what queueing one and taking the oldest make of them. Assumes nothing.
use mathlib.Core.Path.{◌≡◌, refl}
use mathlib.Core.Bool.{Bool, true}
use mathlib.Core.List.{List, [], ◌∷◌, ◌++◌}
use Prim.Native.Nat.{ℕ, zero, suc, ◌+◌, ◌-◌, ◌≤◌, ◌<◌}
use native.Mathlib.Omega.{arith}
use native.Mathlib.Numerals.{add-one}
use lib.ListN.{length, get_or, take, drop, set, length-drop, drop_of_length-le}
use lib.Seq.{drop-cons, take-nil, take-append-le, take-suc-set}
use Rattle.laws.specs.Truth.{every}
use Rattle.laws.proofs.Truths.{both_left, both_right, both_true}
use Rattle.desk.specs.Waiting.{blank, shifted}
use Rattle.desk.specs.declared.waiting.Waiting.{Waiting}

-- a place filled behind those that are queued
pub filled-behind : (q : List Waiting) (n : ℕ) (s : Waiting) → n < length q → take (n + 1) (set q n s) ≡ take n q ++ (s ∷ [])
filled-behind q n s h = rw (add-one n) (take-suc-set q n s h)

-- the places without the oldest, in a queue of 8
shifted_row : (q : List Waiting) → length q ≡ 8 → shifted q ≡ drop 1 q ++ (get_or q 7 blank ∷ [])
shifted_row q l =
    rw (
      drop-cons q 1 blank (omega arith),
      drop-cons q 2 blank (omega arith),
      drop-cons q 3 blank (omega arith),
      drop-cons q 4 blank (omega arith),
      drop-cons q 5 blank (omega arith),
      drop-cons q 6 blank (omega arith),
      drop-cons q 7 blank (omega arith),
      drop_of_length-le q {i = 8} (omega arith),
    )

-- the front of a list without its first
front-tail : (n : ℕ) (q : List Waiting) → take n (drop 1 q) ≡ drop 1 (take (suc n) q)
front-tail n [] = take-nil n
front-tail n (s ∷ q) = refl

-- taking the oldest leaves the others in their order
pub oldest-taken : (q : List Waiting) (n : ℕ) → length q ≡ 8 → n ≤ 8 → take (n - 1) (shifted q) ≡ drop 1 (take n q)
oldest-taken q zero l h = refl
oldest-taken q (suc n) l h =
    let k : n ≤ length (drop 1 q) = omega (arith, length-drop 1 q) in
    let e : suc n - 1 ≡ n = omega arith in
    rw (e, shifted_row q l, take-append-le n (drop 1 q) (get_or q 7 blank ∷ []) k) (front-tail n q)

-- the oldest stands in front
pub oldest-first : (q : List Waiting) (n : ℕ) → length q ≡ 8 → 0 < n → take n q ≡ get_or q 0 blank ∷ drop 1 (take n q)
oldest-first q zero l h = absurd (omega arith)
oldest-first [] (suc n) l h = absurd (omega arith)
oldest-first (s ∷ q) (suc n) l h = refl

pub every-behind : (f : Waiting → Bool) (xs : List Waiting) (s : Waiting) → every f xs ≡ true → f s ≡ true → every f (xs ++ (s ∷ [])) ≡ true
every-behind f [] s h k = rw k
every-behind f (x ∷ xs) s h k = both_true (f x) _ (both_left (f x) _ h) (every-behind f xs s (both_right (f x) _ h) k)

pub every-tail : (f : Waiting → Bool) (xs : List Waiting) → every f xs ≡ true → every f (drop 1 xs) ≡ true
every-tail f [] h = refl
every-tail f (x ∷ xs) h = both_right (f x) (every f xs) h
