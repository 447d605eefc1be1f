-- A number's four bytes, written and read. Assumes nothing.
use Rattle.std.proofs.Common.{◌≡◌, ℕ, ◌+◌, ◌*◌, ◌/◌, ◌%◌, ◌^◌, ◌<◌, List, [], ◌∷◌, length, arith}
use Rattle.laws.specs.Numerals.{numeral_on}
use Rattle.laws.proofs.Digits.{numeral-length}
use Rattle.text.specs.Putting.{puts}
use Rattle.text.specs.Fours.{four_bytes, four_said}

-- the bytes one by one
pub spelt : (n : ℕ) → n / 16777216 % 256 ∷ n / 65536 % 256 ∷ n / 256 % 256 ∷ n % 256 ∷ [] ≡ four_bytes n
unfolding four_bytes numeral_on
spelt n =
    let a : n / 16777216 % 256 ≡ 0 + n / 256 / 256 / 256 % 256 = omega arith in
    let b : n / 65536 % 256 ≡ 0 + n / 256 / 256 % 256 = omega arith in
    let c : n / 256 % 256 ≡ 0 + n / 256 % 256 = omega arith in
    let d : n % 256 ≡ 0 + n % 256 = omega arith in
    cc

-- so putting them puts the number
pub put-spelt : (n at : ℕ) (out : List ℕ) (r : ℕ) (x : List ℕ) → (r, x) ≡ puts (n / 16777216 % 256 ∷ n / 65536 % 256 ∷ n / 256 % 256 ∷ n % 256 ∷ []) at out
    → (r, x) ≡ puts (four_bytes n) at out
put-spelt n at out r x h = rw (spelt n) at h

pub four-length : (n : ℕ) → length (four_bytes n) ≡ 4
unfolding four_bytes
four-length n = numeral-length _ 4 n

last_byte : (n : ℕ) → n / 256 * 256 + n % 256 ≡ n
last_byte n = omega arith

-- a number of 32 bits is read again
pub four-back : (n : ℕ) → n < 2 ^ 32 → four_said (four_bytes n) ≡ n
unfolding four_bytes numeral_on four_said
four-back n h = omega (arith, last_byte n, last_byte (n / 256), last_byte (n / 256 / 256))
