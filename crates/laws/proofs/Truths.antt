-- What a test that holds says of its parts. Assumes nothing.
-- a test whose negation holds fails, and one whose negation fails holds
use mathlib.Core.Path.{◌≡◌, refl}
use mathlib.Core.Bool.{Bool, true, false}
use Prim.Native.Nat.{ℕ}
use native.Mathlib.Omega.{arith}
use Rattle.laws.specs.Truth.{both}
pub use borrow.Author.Tests.{not-true, not-false}

pub both_left : (a b : Bool) → both a b ≡ true → a ≡ true
both_left true b h = refl
both_left false b h = h

-- true is not false
pub clash : {A : Type 0} → false ≡ true → A
clash h = let z : ◌≡◌ {A = ℕ} 0 1 = cc in let y : ⊥ = omega arith in absurd y

pub both_right : (a b : Bool) → both a b ≡ true → b ≡ true
both_right true b h = h
both_right false b h = clash h

pub both_true : (a b : Bool) → a ≡ true → b ≡ true → both a b ≡ true
both_true true b h k = k
both_true false b h k = h
