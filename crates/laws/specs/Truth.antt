-- The words in which the definitions test bytes, and in which the theorems speak of each element of a list. Assumes nothing.
use Rattle.std.specs.Prelude.{ℕ, zero, suc, ◌+◌, Bool, true, false, cond, List, [], ◌∷◌, ltb, eqb}

abbrev pub both : Bool → Bool → Bool
both a b = cond a b false

abbrev pub either : Bool → Bool → Bool
either a b = cond a true b

-- if the first test holds, so does the second
abbrev pub implies : Bool → Bool → Bool
implies a b = cond a b true

-- b is one of lo to hi
abbrev pub from : ℕ → ℕ → ℕ → Bool
from lo hi b = cond (ltb b lo) false (ltb b (hi + 1))

-- b is one of the list
abbrev pub one_of : List ℕ → ℕ → Bool
one_of [] b = false
one_of (x ∷ xs) b = either (eqb b x) (one_of xs b)

-- the test holds of each element
abbrev pub every : {A : Type 0} → (A → Bool) → List A → Bool
every f [] = true
every f (x ∷ xs) = both (f x) (every f xs)

-- the fact holds of each element
abbrev pub All : {A : Type 0} → (A → Type 0) → List A → Type 0
All P [] = Unit {0}
All P (x ∷ xs) = P x × All P xs

-- the first n of a list, with 0 in the places behind it
abbrev pub pad : ℕ → List ℕ → List ℕ
pad zero xs = []
pad (suc n) [] = 0 ∷ pad n []
pad (suc n) (x ∷ xs) = x ∷ pad n xs
