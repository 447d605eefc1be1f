-- A table's rule: the list of what a definition says of each number, and what stands at each place of it. Assumes nothing.
use mathlib.Core.Path.{◌≡◌, sym, ◌∙◌, ap}
use mathlib.Core.List.{List, [], ◌∷◌}
use Prim.Native.Nat.{ℕ, zero, suc, ◌+◌, ◌<◌}
use native.Mathlib.Nat.{add-zero, zero-add, add-suc, suc-add, le_of_suc-le-suc, not-suc-le-zero}
use lib.ListN.{get_or}

-- f of n numbers from i on
abbrev pub listed : {A : Type 0} → (ℕ → A) → ℕ → ℕ → List A
listed f zero i = []
listed f (suc n) i = f i ∷ listed f n (suc i)

listed-from : {A : Type 0} (d : A) (f : ℕ → A) (n i k : ℕ) → k < n → get_or (listed f n i) k d ≡ f (i + k)
listed-from d f zero i k h = absurd (not-suc-le-zero h)
listed-from d f (suc n) i zero h = ap f (sym (add-zero i))
listed-from d f (suc n) i (suc k) h = listed-from d f n (suc i) k (le_of_suc-le-suc h) ∙ ap f (suc-add i k ∙ sym (add-suc i k))

-- what stands at k in the list of what f says of each number
pub listed_at : {A : Type 0} (d : A) (f : ℕ → A) (n k : ℕ) → k < n → get_or (listed f n 0) k d ≡ f k
listed_at d f n k h = listed-from d f n 0 k h ∙ ap f (zero-add k)
