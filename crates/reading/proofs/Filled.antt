-- An array that is filled from the front with the values of a field. Assumes nothing.
use mathlib.Core.Path.{◌≡◌, refl, sym, ap, ◌∙◌}
use mathlib.Core.List.{List, [], ◌∷◌, ◌++◌, append_assoc}
use Prim.Native.Nat.{ℕ, zero, suc, ◌+◌, ◌-◌, ◌≤◌, ◌<◌}
use native.Mathlib.Omega.{arith}
use native.Mathlib.Numerals.{add-one}
use native.Mathlib.Nat.{le_of_suc-le-suc}
use lib.ListN.{length, take, drop, set, take-append-drop}
use lib.Seq.{drop-drop, drop-set-lt, take-suc-set}
use Rattle.laws.specs.Truth.{pad}
use Rattle.reading.specs.DataField.{values_in}

-- one value more stands in the array
pub filled-step : (vs : List ℕ) (j x : ℕ) (more full : List ℕ) → j < length vs → take j vs ++ (x ∷ more) ≡ full → take (j + 1) (set vs j x) ++ more ≡ full
filled-step vs j x more full h e = rw (add-one j, take-suc-set vs j x h, append_assoc) e

-- what is behind it is as it was
pub behind-step : (vs zs : List ℕ) (j x : ℕ) → drop j vs ≡ drop j zs → drop (j + 1) (set vs j x) ≡ drop (j + 1) zs
behind-step vs zs j x e =
    drop-set-lt (j + 1) vs j x (omega arith) ∙ sym (drop-drop 1 j vs) ∙ ap (λ (l : List ℕ). drop 1 l) e ∙ drop-drop 1 j zs

-- no packets, no values
none : (n : ℕ) (d : List ℕ) → values_in n [] d ≡ pad n []
unfolding values_in
none zero d = refl
none (suc n) d = ap (λ (l : List ℕ). 0 ∷ l) (none n d)

zeros : (n j : ℕ) → j ≤ n → drop j (pad n []) ≡ pad (n - j) []
zeros n zero h = let e : n - 0 ≡ n = omega arith in rw e
zeros zero (suc j) h = let z : ⊥ = omega arith in absurd z
zeros (suc n) (suc j) h = let e : suc n - suc j ≡ n - j = omega arith in rw e (zeros n j (le_of_suc-le-suc h))

-- all values stand in the array
pub filled-end : (vs : List ℕ) (j : ℕ) (d full : List ℕ) → j ≤ 10 → drop j vs ≡ drop j (pad 10 []) → take j vs ++ values_in (10 - j) [] d ≡ full → vs ≡ full
filled-end vs j d full h e f =
    sym (take-append-drop j vs) ∙ ap (λ (l : List ℕ). take j vs ++ l) (e ∙ zeros 10 j h ∙ sym (none (10 - j) d)) ∙ f
