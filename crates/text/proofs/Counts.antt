-- The number of a number's decimal digits, and what the digits say. Assumes nothing.
use Rattle.std.proofs.Common.{◌≡◌, ℕ, zero, suc, ◌+◌, ◌*◌, ◌/◌, ◌%◌, ◌<◌, ◌≤◌, true, List, [], ◌∷◌, ◌++◌, length, get_or, sym, refl, ap, ◌∙◌, append_assoc, arith, le-ltb, lt-ltb}
use Prim.Native.Char.{code}
use Rattle.laws.proofs.Passes.{order}
use Rattle.laws.specs.Numerals.{left_of, numeral_on}
use Rattle.laws.proofs.Digits.{numeral-length, number-numeral}
use Rattle.text.specs.Numbers.{count_on, digit_count, decimal_text, number_said, DecimalSays, NoLeadingZero, AtMostTwenty, NumberRead}

-- as many divisions as a number's value are enough
enough : (k j n : ℕ) → n ≤ k → n ≤ j → count_on k n ≡ count_on j n
unfolding count_on
enough zero zero n h g = refl
enough zero (suc j) n h g = rw (lt-ltb n 10 (omega arith))
enough (suc k) zero n h g = rw (lt-ltb n 10 (omega arith))
enough (suc k) (suc j) n h g =
    order n 10 (λ l. rw (lt-ltb n 10 l)) (λ m. rw (le-ltb n 10 m) (ap suc (enough k j (n / 10) (omega arith) (omega arith))))

-- a number under 10 has one digit, any other one more than a tenth of it
pub count_small : (n : ℕ) → n < 10 → digit_count n ≡ 1
unfolding digit_count count_on
count_small zero h = refl
count_small (suc n) h = rw (lt-ltb (suc n) 10 h)

pub count-more : (n : ℕ) → 10 ≤ n → digit_count n ≡ suc (digit_count (n / 10))
unfolding digit_count count_on
count-more zero h = let z : ⊥ = omega arith in absurd z
count-more (suc n) h = rw (le-ltb (suc n) 10 h) (ap suc (enough n (suc n / 10) (suc n / 10) (omega arith) (omega arith)))

-- the numbers of at most w digits are those under the w-th power of 10
abbrev tens : ℕ → ℕ
tens zero = 1
tens (suc w) = 10 * tens w

few : (w n : ℕ) → n < tens (suc w) → (1 ≤ digit_count n) × (digit_count n ≤ suc w)
few zero n h = let e = count_small n (omega arith) in (omega arith, omega arith)
few (suc w) n h =
    order n 10 (λ l. let e = count_small n l in (omega arith, omega arith))
    (λ m. let e = count-more n m in let f = few w (n / 10) (omega arith) in (omega arith, omega arith))

-- a 64-bit number has 1 to 20 digits
pub at-most-twenty : AtMostTwenty
at-most-twenty n h = few 19 n (omega arith)

pub decimal-length : (n : ℕ) → length (decimal_text n) ≡ digit_count n
unfolding decimal_text
decimal-length n = numeral-length true (digit_count n) n

-- nothing is left of a number when its digits are taken, so they say the number
nothing_left : (k n : ℕ) → n ≤ k → left_of true (digit_count n) n ≡ 0
unfolding left_of
nothing_left zero n h = rw (count_small n (omega arith)) (omega arith)
nothing_left (suc k) n h = order n 10 (λ l. rw (count_small n l) (omega arith)) (λ m. rw (count-more n m) (nothing_left k (n / 10) (omega arith)))

pub decimal-says : DecimalSays
unfolding decimal_text
decimal-says n = number-numeral true (digit_count n) n (nothing_left n n (omega arith))

-- and the first is no 0, but that of the number 0
first-digit : (k n : ℕ) (t : List ℕ) → n ≤ k → 0 < n → code "0" < get_or (numeral_on true (digit_count n) n t) 0 0
unfolding numeral_on
first-digit zero n t h z = let y : ⊥ = omega arith in absurd y
first-digit (suc k) n t h z =
    order n 10 (λ l. rw (count_small n l) (omega arith)) (λ m. rw (count-more n m) (first-digit k (n / 10) ((48 + n % 10) ∷ t) (omega arith) (omega arith)))

pub no-leading-zero : NoLeadingZero
unfolding decimal_text
no-leading-zero n h = first-digit n n [] (omega arith) h

-- a number that was put is parsed again
pub number_read : NumberRead
unfolding number_said
number_read n h = rw (decimal-says n) (omega arith)

-- the text of a number under 10, and that of any other, which is a tenth's and the last digit
digits-behind : (w n : ℕ) (t : List ℕ) → numeral_on true w n t ≡ numeral_on true w n [] ++ t
unfolding numeral_on
digits-behind zero n t = refl
digits-behind (suc w) n t =
    digits-behind w (n / 10) ((48 + n % 10) ∷ t)
    ∙ sym (append_assoc (numeral_on true w (n / 10) []) ((48 + n % 10) ∷ []) t)
    ∙ ap (λ (s : List ℕ). s ++ t) (sym (digits-behind w (n / 10) ((48 + n % 10) ∷ [])))

pub decimal-small : (n : ℕ) → n < 10 → decimal_text n ≡ (48 + n % 10) ∷ []
unfolding decimal_text numeral_on
decimal-small n h = rw (count_small n h)

pub decimal-more : (n : ℕ) → 10 ≤ n → decimal_text n ≡ decimal_text (n / 10) ++ ((48 + n % 10) ∷ [])
unfolding decimal_text numeral_on
decimal-more n h = rw (count-more n h) (digits-behind (digit_count (n / 10)) (n / 10) ((48 + n % 10) ∷ []))
