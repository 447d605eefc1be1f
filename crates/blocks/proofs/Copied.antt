-- The bytes of a telegram, copied over zeros. Assumes nothing.
use mathlib.Core.Path.{◌≡◌, refl, ap, ◌∙◌}
use mathlib.Core.List.{List, [], ◌∷◌, ◌++◌}
use Prim.Native.Nat.{ℕ, zero, suc, ◌≤◌}
use native.Mathlib.Omega.{arith}
use lib.ListN.{length, take, drop, replicate, length-take}
use Rattle.laws.specs.Truth.{pad}
use Rattle.characters.specs.Marks.{longest}

pub most : (n : ℕ) (l : List ℕ) → length (take n l) ≤ n
most n l = omega (arith, length-take n l)

zeros : (k : ℕ) → replicate k 0 ≡ pad k []
zeros zero = refl
zeros (suc k) = ap (λ (l : List ℕ). 0 ∷ l) (zeros k)

over : (k : ℕ) (s : List ℕ) → take (length (take k s)) (take k s) ++ drop (length (take k s)) (replicate k 0) ≡ pad k s
over zero s = refl
over (suc k) [] = ap (λ (l : List ℕ). 0 ∷ l) (zeros k)
over (suc k) (x ∷ s) = ap (λ (l : List ℕ). x ∷ l) (over k s)

-- a part that was copied over zeros
pub copied : (s t new : List ℕ) → t ≡ take longest (drop 0 s) → new ≡ take (length t) t ++ drop (length t) (replicate longest 0) → new ≡ pad longest s
copied s t new e h = (rw e at h) ∙ over longest s
