-- The codes of the set are below 128. Assumes nothing.
use mathlib.Core.Path.{◌≡◌}
use mathlib.Core.Bool.{Bool, true, false, cond}
use Prim.Native.Nat.{ℕ, ◌≤◌, ◌<◌}
use native.Mathlib.Omega.{arith}
use lib.Dec.{ltb, eqb}
use borrow.Author.Rules.{rules}
use borrow.Author.Tests.{ltb-true, eqb-true}
use Rattle.laws.specs.Truth.{either}
use Rattle.laws.proofs.Truths.{clash}
use Rattle.laws.proofs.Passes.{on-cond, on-either}
use Rattle.characters.specs.Characters.{in_set}

-- where each of two tests says that a code is below 128, so does either of them
either-low : (b : ℕ) (p q : Bool) → (p ≡ true → b < 128) → (q ≡ true → b < 128) → either p q ≡ true → b < 128
either-low b p q f g h = on-either p q h f g

-- a range that ends below 128, and a single code
range-low : (b first end : ℕ) → end ≤ 128 → cond (ltb b first) false (ltb b end) ≡ true → b < 128
range-low b first end l h = on-cond (ltb b first) false (ltb b end) h (λ _. clash) (λ _ k. omega (arith, ltb-true b end k))

one-low : (b k : ℕ) → k < 128 → eqb b k ≡ true → b < 128
one-low b k l h = omega (arith, eqb-true b k h)

-- a code of the set is below 128
pub low : (b : ℕ) → in_set b ≡ true → b < 128
unfolding in_set
low b = search (rules, either-low, range-low, one-low) depth 16
