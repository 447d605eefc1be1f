-- The two round trips of a number and its characters, once over the width and the base. Assumes nothing.
use mathlib.Core.Path.{◌≡◌, refl, ap, ◌∙◌, subst}
use mathlib.Core.Bool.{Bool, true, false}
use mathlib.Core.List.{List, [], ◌∷◌, ◌++◌, append-nil}
use Prim.Native.Nat.{ℕ, zero, suc, ◌+◌, ◌-◌, ◌*◌, ◌/◌, ◌%◌, ◌≤◌, ◌<◌}
use native.Mathlib.Omega.{arith}
use native.Mathlib.Nat.{zero-add, add-zero, add-suc, suc-add}
use lib.ListN.{length}
use Rattle.laws.specs.Numerals.{base, nought, numeral_on, numeral, left_of, number_on}

-- a digit written behind a number reads back as that number's next
again : (decimal : Bool) (n : ℕ) → n / base decimal * base decimal + (nought decimal + n % base decimal - nought decimal) % base decimal ≡ n
again true n = omega arith
again false n = omega arith

-- reading what was written: nothing is lost but what is left of the number
number-numeral_on : (decimal : Bool) (w n : ℕ) (t : List ℕ) → number_on decimal (left_of decimal w n) (numeral_on decimal w n t) ≡ number_on decimal n t
unfolding numeral_on left_of number_on
number-numeral_on decimal zero n t = refl
number-numeral_on decimal (suc w) n t =
    number-numeral_on decimal w (n / base decimal) ((nought decimal + n % base decimal) ∷ t) ∙ ap (λ (m : ℕ). number_on decimal m t) (again decimal n)

pub number-numeral : (decimal : Bool) (w n : ℕ) → left_of decimal w n ≡ 0 → number_on decimal 0 (numeral decimal w n) ≡ n
unfolding number_on
number-numeral decimal w n h = rw h at (number-numeral_on decimal w n [])

-- each character is a digit of the base
unfoldable pub AllDigits : Bool → List ℕ → Type 0
AllDigits decimal [] = Unit {0}
AllDigits decimal (b ∷ bs) = (nought decimal ≤ b) × (b < nought decimal + base decimal) × AllDigits decimal bs

quotient : (decimal : Bool) (a b : ℕ) → nought decimal ≤ b → b < nought decimal + base decimal → (a * base decimal + (b - nought decimal) % base decimal) / base decimal ≡ a
quotient true a b lo hi = omega arith
quotient false a b lo hi = omega arith

remainder : (decimal : Bool) (a b : ℕ) → nought decimal ≤ b → b < nought decimal + base decimal → nought decimal + (a * base decimal + (b - nought decimal) % base decimal) % base decimal ≡ b
remainder true a b lo hi = omega arith
remainder false a b lo hi = omega arith

-- writing what was read
numeral_on-number : (decimal : Bool) (s : List ℕ) (w a : ℕ) (t : List ℕ) → AllDigits decimal s → numeral_on decimal (length s + w) (number_on decimal a s) t ≡ numeral_on decimal w a (s ++ t)
unfolding numeral_on number_on AllDigits
numeral_on-number decimal [] w a t h = rw zero-add
numeral_on-number decimal (b ∷ s) w a t (lo, hi, h) =
    rw (suc-add, ← add-suc) (numeral_on-number decimal s (suc w) (a * base decimal + (b - nought decimal) % base decimal) t h ∙ rw (quotient decimal a b lo hi, remainder decimal a b lo hi))

pub numeral-number : (decimal : Bool) (s : List ℕ) → AllDigits decimal s → numeral decimal (length s) (number_on decimal 0 s) ≡ s
unfolding numeral_on
numeral-number decimal s h =
    subst (λ (k : ℕ). numeral_on decimal k (number_on decimal 0 s) [] ≡ s) (add-zero (length s)) (numeral_on-number decimal s 0 0 [] h ∙ append-nil s)

-- nothing is left of a number that as many characters said
left-number : (decimal : Bool) (s : List ℕ) (w a : ℕ) → AllDigits decimal s → left_of decimal (length s + w) (number_on decimal a s) ≡ left_of decimal w a
unfolding left_of number_on AllDigits
left-number decimal [] w a h = rw zero-add
left-number decimal (b ∷ s) w a (lo, hi, h) =
    rw (suc-add, ← add-suc) (left-number decimal s (suc w) (a * base decimal + (b - nought decimal) % base decimal) h ∙ rw (quotient decimal a b lo hi))

pub nothing_left : (decimal : Bool) (s : List ℕ) → AllDigits decimal s → left_of decimal (length s) (number_on decimal 0 s) ≡ 0
unfolding left_of
nothing_left decimal s h =
    subst (λ (k : ℕ). left_of decimal k (number_on decimal 0 s) ≡ 0) (add-zero (length s)) (left-number decimal s 0 0 h)

-- a numeral is as long as it was asked to be
numeral_on-length : (decimal : Bool) (w n : ℕ) (t : List ℕ) → length (numeral_on decimal w n t) ≡ w + length t
unfolding numeral_on
numeral_on-length decimal zero n t = rw zero-add
numeral_on-length decimal (suc w) n t = let h = numeral_on-length decimal w (n / base decimal) ((nought decimal + n % base decimal) ∷ t) in omega arith

pub numeral-length : (decimal : Bool) (w n : ℕ) → length (numeral decimal w n) ≡ w
numeral-length decimal w n = omega (arith, numeral_on-length decimal w n [])
