-- What the search looks for: the next CR, and from it back the nearest LF (rules C2, C3, C5). Assumes nothing.
use Rattle.std.specs.Prelude.{◌≡◌, List, ℕ, ◌+◌, ◌-◌, ◌≤◌, ◌<◌, length, get_or, Option, MatchOption}
use Rattle.characters.specs.Marks.{lf, cr, unfinished}

-- a byte stands nowhere, or first at i; or last at i
abbrev pub Nowhere : List ℕ → ℕ → Type 0
Nowhere s b = (k : ℕ) → k < length s → ¬ (get_or s k 0 ≡ b)

abbrev pub First : List ℕ → ℕ → Option ℕ → Type 0
First s b r = MatchOption r (Nowhere s b) (λ i. (i < length s) × (get_or s i 0 ≡ b) × ((k : ℕ) → k < i → ¬ (get_or s k 0 ≡ b)))

abbrev pub Last : List ℕ → ℕ → Option ℕ → Type 0
Last s b r = MatchOption r (Nowhere s b) (λ i. (i < length s) × (get_or s i 0 ≡ b) × ((k : ℕ) → i < k → k < length s → ¬ (get_or s k 0 ≡ b)))

-- from a place on no CR stands before r, and one stands at r, if r is within the bytes
pub record NextCr (s : List ℕ) (from r : ℕ) : Type 0 where
  pub onwards : from ≤ r
  pub stands : r < length s → get_or s r 0 ≡ cr
  pub none : (k : ℕ) → from ≤ k → k < r → ¬ (get_or s k 0 ≡ cr)

-- the nearest LF before end stands so many bytes back: at most 65, and not before a place; 0 where there is none
pub record NearLf (s : List ℕ) (from end back : ℕ) : Type 0 where
  pub stands : 0 < back → (get_or s (end - back) 0 ≡ lf) × (back ≤ unfinished) × (from + back ≤ end)
  pub nearest : (k : ℕ) → 0 < k → k < back → ¬ (get_or s (end - k) 0 ≡ lf)
  pub none : back ≡ 0 → (k : ℕ) → 0 < k → k ≤ unfinished → from + k ≤ end → ¬ (get_or s (end - k) 0 ≡ lf)
