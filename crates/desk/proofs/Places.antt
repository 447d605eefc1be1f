-- The places of the queue. Assumes nothing.
use Rattle.std.proofs.Common.{◌≡◌, refl, Bool, true, false, ◌&&◌, List, [], ◌∷◌}
use Rattle.std.specs.List.{list_all}
use Rattle.laws.specs.Truth.{both, every}

joined : (t : Bool) {a b : Bool} → a ≡ b → (t && a) ≡ both t b
joined true e = e
joined false e = refl

-- the library's test of all
pub all-every : {A : Type 0} (f : A → Bool) (xs : List A) → list_all f xs ≡ every f xs
all-every f [] = refl
all-every f (x ∷ xs) = joined (f x) (all-every f xs)
