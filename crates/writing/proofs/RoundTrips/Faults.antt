-- A row of checks finds no fault just where each check finds none. Assumes nothing.
use Rattle.std.specs.Prelude.{Option, None, Some}
use mathlib.Core.Path.{◌≡◌, refl}
use mathlib.Core.Bool.{Bool, true, false, cond}
use mathlib.Core.List.{List, [], ◌∷◌, ◌++◌}
use Prim.Native.Nat.{ℕ, zero, suc, ◌+◌}
use lib.ListN.{get_or}
use Rattle.records.specs.Refusals.{no}
use Rattle.laws.specs.Truth.{All}
use Rattle.laws.proofs.Truths.{clash}
use Rattle.records.specs.declared.records.Record.{Record}
use Rattle.records.specs.Answers.{Fault, good, fails, first_fault, accepted, refused, unless}
use Rattle.reading.specs.Frame.{needs}

-- none of the checks finds a fault
abbrev pub Faultless : List (Option ℕ) → Type 0
Faultless spots = All (λ (x : Option ℕ). x ≡ None) spots

-- two rows of checks find no fault together just where each finds none
pub faultless-append : (xs ys : List (Option ℕ)) → Faultless xs → Faultless ys → Faultless (xs ++ ys)
faultless-append [] ys a b = b
faultless-append (x ∷ xs) ys a b = (a.0, faultless-append xs ys a.1 b)

pub faultless-parts : (xs ys : List (Option ℕ)) → Faultless (xs ++ ys) → Faultless xs × Faultless ys
faultless-parts [] ys a = (tt, a)
faultless-parts (x ∷ xs) ys a = let b = faultless-parts xs ys a.1 in ((a.0, b.0), b.1)

-- the test of a check that finds no fault holds
pub needs-held : (t : Bool) (place : ℕ) → needs t place ≡ None → t ≡ true
needs-held true place h = refl
needs-held false place h = clash (cc)

-- a check with no fault passed its test, and so did those behind it
pub no-fault : (t : Bool) (at : ℕ) (rest : Option ℕ) → cond t rest (Some at) ≡ None → (t ≡ true) × (rest ≡ None)
no-fault true at rest h = (refl, h)
no-fault false at rest h = clash (cc)

-- no fault is the first where there is none
pub faultless-good : (k : ℕ) (spots : List (Option ℕ)) → Faultless spots → first_fault k spots ≡ good
faultless-good k [] a = refl
faultless-good k (x ∷ spots) a = rw a.0 (faultless-good (k + 1) spots a.1)

-- and where none is the first there is none
pub good-faultless : (k : ℕ) (spots : List (Option ℕ)) → first_fault k spots ≡ good → Faultless spots
good-faultless k [] h = tt
good-faultless k (None ∷ spots) h = (refl, good-faultless (k + 1) spots h)
good-faultless k (Some place ∷ spots) h = clash (cc)

-- no check of such a row finds one, whatever its index
pub faultless-at : (spots : List (Option ℕ)) (i : ℕ) → Faultless spots → get_or spots i None ≡ None
faultless-at [] i a = refl
faultless-at (x ∷ spots) zero a = a.0
faultless-at (x ∷ spots) (suc i) a = faultless-at spots i a.1

-- what is accepted has no fault, and is what would be accepted
pub accepted-good : (t : Bool) (f : Fault) (x r : Record) (m n : ℕ) → cond t (unless f (accepted x m)) (refused (no 15 0)) ≡ accepted r n → (f ≡ good) × (x ≡ r) × (m ≡ n)
accepted-good true good x r m n h = (refl, cc, cc)
accepted-good true (fails y) x r m n h = clash (cc)
accepted-good false f x r m n h = clash (cc)
