-- A number's digits, one after the other: written and taken from the last, read from the first. Assumes nothing.
use mathlib.Core.Path.{◌≡◌, refl}
use mathlib.Core.Bool.{Bool, true, false}
use Prim.Native.Nat.{ℕ, suc, ◌+◌, ◌-◌, ◌*◌, ◌/◌, ◌%◌, ◌^◌, ◌≤◌, ◌<◌}
use native.Mathlib.Omega.{arith}
use native.Mathlib.Numerals.{add-one}
use native.Mathlib.Nat.{pow-suc, pow-le-pow_right}
use lib.Dec.{lit<}
use Rattle.laws.specs.Numerals.{base, nought, left_of}

-- one digit more is taken
pub left_step : (decimal : Bool) (m q w k : ℕ) → k < w → q ≡ m / base decimal → left_of decimal (w - (k + 1)) q ≡ left_of decimal (w - k) m
unfolding left_of
left_step decimal m q w k h e = let i : w - k ≡ suc (w - (k + 1)) = omega arith in rw (i, e)

-- no digits say a number below 1
pub no_digit : (decimal : Bool) → 0 < base decimal ^ 0
no_digit true = lit< tt
no_digit false = lit< tt

-- so many digits say a number below that power of the base
pub digit_more : (decimal : Bool) (i a b : ℕ) → a < base decimal ^ i → a * base decimal + (b - nought decimal) % base decimal < base decimal ^ (i + 1)
digit_more true i a b h = rw (add-one, pow-suc) (omega arith)
digit_more false i a b h = rw (add-one, pow-suc) (omega arith)

-- and it is small where the digits are few
pub few : (decimal : Bool) (n i : ℕ) → n ≤ 6 → (decimal ≡ false → n ≤ 3) → i < n → base decimal ^ i ≤ 100000
few true n i a b h = pow-le-pow_right {n = 10} (lit< tt) {j = 5} (omega arith)
few false n i a b h = let k : n ≤ 3 = b refl in let p : 256 ^ i ≤ 256 ^ 2 = pow-le-pow_right {n = 256} (lit< tt) {j = 2} (omega arith) in omega arith
