-- What the loops that look for the next CR and for the nearest LF before it keep. Assumes nothing.
use mathlib.Core.Path.{◌≡◌}
use mathlib.Core.List.{List}
use Prim.Native.Nat.{ℕ, ◌≤◌, ◌<◌}
use lib.ListN.{get_or}
use Rattle.characters.specs.Marks.{lf, cr}

-- no CR stands from a place up to i
abbrev pub NoCr : List ℕ → ℕ → ℕ → Type 0
NoCr s from i = (from ≤ i) × ((k : ℕ) → from ≤ k → k < i → ¬ (get_or s k 0 ≡ cr))

-- no LF stands from i up to end
abbrev pub NoLf : List ℕ → ℕ → ℕ → Type 0
NoLf s i end = (k : ℕ) → i ≤ k → k < end → ¬ (get_or s k 0 ≡ lf)
