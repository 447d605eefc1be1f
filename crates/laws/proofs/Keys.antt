-- A match that finds one of an arm's keys, and one that finds none: what its facts say, once over the list of keys. Assumes nothing.
use mathlib.Core.Path.{◌≡◌, refl, ◌∙◌}
use mathlib.Core.Bool.{Bool, false, true}
use mathlib.Core.List.{List, [], ◌∷◌}
use mathlib.Core.Logic.{inl, inr}
use Prim.Native.Nat.{ℕ}
use lib.Dec.{eqb}
use types.Run.{OneOf}
use borrow.Author.Tests.{eqb-true, ne_eqb}
use Rattle.laws.specs.Truth.{either, one_of, every}
use Rattle.laws.proofs.Truths.{clash, both_left, both_right}
use Rattle.laws.proofs.Passes.{on-either}

-- b is one of an arm's keys, so it is one of a list that holds them all
pub hit-any : (js ks : List ℕ) (b : ℕ) → OneOf ks b → every (one_of js) ks ≡ true → one_of js b ≡ true
hit-any js [] b h a = absurd h
hit-any js (k ∷ []) b e a = rw e (both_left (one_of js k) true a)
hit-any js (k ∷ l ∷ ks) b (inl e) a = rw e (both_left (one_of js k) (every (one_of js) (l ∷ ks)) a)
hit-any js (k ∷ l ∷ ks) b (inr h) a = hit-any js (l ∷ ks) b h (both_right (one_of js k) (every (one_of js) (l ∷ ks)) a)

-- whether a number is one of the keys of some arm
abbrev pub any_of : List (List ℕ) → ℕ → Bool
any_of [] k = false
any_of (ks ∷ arms) k = either (one_of ks k) (any_of arms k)

-- arms of one key each, and then others
abbrev pub each : List ℕ → List (List ℕ) → List (List ℕ)
each [] arms = arms
each (k ∷ ks) arms = (k ∷ []) ∷ each ks arms

-- what is one of an arm's keys comes to that arm
comes : (ks : List ℕ) (b k : ℕ) → one_of ks k ≡ true → b ≡ k → OneOf ks b
comes [] b k h e = clash h
comes (x ∷ []) b k h e = on-either (eqb k x) false h (λ q. e ∙ eqb-true k x q) (λ q. clash q)
comes (x ∷ y ∷ ks) b k h e = on-either (eqb k x) (one_of (y ∷ ks) k) h (λ q. inl (e ∙ eqb-true k x q)) (λ q. inr (comes (y ∷ ks) b k q e))

-- b is none of the arms' keys, the last arm first
abbrev pub Misses : List (List ℕ) → ℕ → Type 0
Misses [] b = Unit {0}
Misses (ks ∷ arms) b = Misses arms b × (OneOf ks b → ⊥)

-- so it is not any one of them
pub missed : (arms : List (List ℕ)) (b : ℕ) → Misses arms b → (k : ℕ) → any_of arms k ≡ true → eqb b k ≡ false
missed [] b m k h = clash h
missed (ks ∷ arms) b m k h =
    on-either (one_of ks k) (any_of arms k) h
    (λ q. ne_eqb b k (λ e. m.1 (comes ks b k q e)))
    (missed arms b m.0 k)

-- nor one of several
pub missed-all : (arms : List (List ℕ)) (b : ℕ) → Misses arms b → (js : List ℕ) → every (any_of arms) js ≡ true → one_of js b ≡ false
missed-all arms b m [] h = refl
missed-all arms b m (j ∷ js) h =
    rw (missed arms b m j (both_left (any_of arms j) (every (any_of arms) js) h)) (missed-all arms b m js (both_right (any_of arms j) (every (any_of arms) js) h))
