-- Numbers in decimal (rule P9; docs/SCENES.md). Assumes nothing.
use Rattle.std.specs.Prelude.{◌≡◌, ℕ, zero, suc, ◌/◌, ◌%◌, ◌^◌, ◌<◌, ◌≤◌, true, cond, List, nat_lt, slice_index}
use Prim.Native.Char.{code}
use Rattle.laws.specs.Numerals.{numeral, number_on}

-- the digits of a number: one, and one more for each division by 10 that leaves something; as many divisions as its value are enough
unfoldable pub count_on : ℕ → ℕ → ℕ
count_on zero n = 1
count_on (suc k) n = cond (nat_lt n 10) 1 (suc (count_on k (n / 10)))

unfoldable pub digit_count : ℕ → ℕ
digit_count n = count_on n n

-- a number in decimal, with no leading zeros
unfoldable pub decimal_text : ℕ → List ℕ
decimal_text n = numeral true (digit_count n) n

-- the number that decimal digits say, modulo 2^64; each character counts as the last digit of its code less that of 0
unfoldable pub number_said : List ℕ → ℕ
number_said s = number_on true 0 s % 2 ^ 64

-- a number's text says the number
abbrev pub DecimalSays : Type 0
DecimalSays = (n : ℕ) → number_on true 0 (decimal_text n) ≡ n

-- its first digit is no 0, but that of the number 0
abbrev pub NoLeadingZero : Type 0
NoLeadingZero = (n : ℕ) → 0 < n → code "0" < slice_index (decimal_text n) 0

-- a 64-bit number has 1 to 20 digits
abbrev pub AtMostTwenty : Type 0
AtMostTwenty = (n : ℕ) → n < 2 ^ 64 → (1 ≤ digit_count n) × (digit_count n ≤ 20)

-- a 64-bit number that was put is parsed again
abbrev pub NumberRead : Type 0
NumberRead = (n : ℕ) → n < 2 ^ 64 → number_said (decimal_text n) ≡ n
