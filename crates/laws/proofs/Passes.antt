-- What a choice of two tests says where it holds, and what tests over a list or a range say of one element that passes them. Assumes nothing.
use mathlib.Core.Path.{◌≡◌, refl, sym}
use mathlib.Core.Bool.{Bool, true, false, cond}
use mathlib.Core.List.{List, [], ◌∷◌}
use Prim.Native.Nat.{ℕ, zero, suc, ◌+◌, ◌-◌, ◌≤◌, ◌<◌}
use native.Mathlib.Omega.{arith}
use lib.Dec.{ltb, eqb}
use borrow.Author.Tests.{ltb-true, ltb-false, eqb-true, eqb-false}
use Rattle.laws.specs.Truth.{both, either, from, one_of, every, All}
use Rattle.laws.proofs.Truths.{clash, both_left, both_right}
use Rattle.laws.proofs.Listed.{listed}

-- a test holds or fails
pub on_test : {A : Type 0} (c : Bool) → (c ≡ true → A) → (c ≡ false → A) → A
on_test true f g = f refl
on_test false f g = g refl

-- of two numbers one is less, or not
pub order : {A : Type 0} (a b : ℕ) → (a < b → A) → (b ≤ a → A) → A
order a b less more = on_test (ltb a b) (λ e. less (ltb-true a b e)) (λ e. more (ltb-false a b e))

-- a choice of two tests holds by the one or by the other
pub on-cond : {A : Type 0} (c a b : Bool) → cond c a b ≡ true → (c ≡ true → a ≡ true → A) → (c ≡ false → b ≡ true → A) → A
on-cond true a b h f g = f refl h
on-cond false a b h f g = g refl h

-- what follows from each of two tests follows where one of them holds
pub on-either : {A : Type 0} (a b : Bool) → either a b ≡ true → (a ≡ true → A) → (b ≡ true → A) → A
on-either a b h f g = on-cond a true b h (λ e _. f e) (λ _. g)

-- both fail where the second does
pub both-off : (a b : Bool) → b ≡ false → both a b ≡ false
both-off true b h = h
both-off false b h = refl

-- two tests are the same if each holds where the other does
pub same_test : (a b : Bool) → (a ≡ true → b ≡ true) → (b ≡ true → a ≡ true) → a ≡ b
same_test true b to back = sym (to refl)
same_test false true to back = back refl
same_test false false to back = refl

-- a test that holds of each element is a fact of each
pub every-all : {A : Type 0} (t : A → Bool) (xs : List A) → every t xs ≡ true → All (λ (x : A). t x ≡ true) xs
every-all t [] h = tt
every-all t (x ∷ xs) h = (both_left (t x) (every t xs) h, every-all t xs (both_right (t x) (every t xs) h))

-- what follows from a fact of each element is a fact of each
pub all_map : {A : Type 0} (P Q : A → Type 0) → ((x : A) → P x → Q x) → (xs : List A) → All P xs → All Q xs
all_map P Q f [] a = tt
all_map P Q f (x ∷ xs) a = (f x a.0, all_map P Q f xs a.1)

-- a number of a list passes a test that each number of the list passes
pub one_of-passes : (t : ℕ → Bool) (xs : List ℕ) (b : ℕ) → every t xs ≡ true → one_of xs b ≡ true → t b ≡ true
one_of-passes t [] b h m = clash m
one_of-passes t (x ∷ xs) b h m =
    on-either (eqb b x) (one_of xs b) m
    (λ e. rw (eqb-true b x e) (both_left (t x) (every t xs) h))
    (one_of-passes t xs b (both_right (t x) (every t xs) h))

-- the n numbers from lo on
abbrev pub range : ℕ → ℕ → List ℕ
range lo n = listed (λ (k : ℕ). k) n lo

-- a number among them passes a test that each of them passes
range-passes : (t : ℕ → Bool) (n lo b : ℕ) → every t (range lo n) ≡ true → lo ≤ b → b < lo + n → t b ≡ true
range-passes t zero lo b h l u = absurd (omega arith)
range-passes t (suc n) lo b h l u =
    on_test (eqb lo b)
    (λ e. rw (← (eqb-true lo b e)) (both_left (t lo) (every t (range (suc lo) n)) h))
    (λ e. range-passes t n (suc lo) b (both_right (t lo) (every t (range (suc lo) n)) h) (omega (arith, eqb-false lo b e)) (omega arith))

-- the bounds of one of lo to hi
pub from-bounds : (lo hi b : ℕ) → from lo hi b ≡ true → (lo ≤ b) × (b ≤ hi)
from-bounds lo hi b h =
    on-cond (ltb b lo) false (ltb b (hi + 1)) h (λ _. clash) (λ e k. (ltb-false b lo e, omega (arith, ltb-true b (hi + 1) k)))

-- one of lo to hi passes a test that each of them passes
pub from-passes : (t : ℕ → Bool) (lo hi b : ℕ) → every t (range lo (hi + 1 - lo)) ≡ true → from lo hi b ≡ true → t b ≡ true
from-passes t lo hi b h m =
    let k = from-bounds lo hi b m in
    range-passes t (hi + 1 - lo) lo b h k.0 (omega arith)
