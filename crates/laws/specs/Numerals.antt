-- Numbers as characters: decimal digits, or whole characters as digits of base 256. Assumes nothing.
use Rattle.std.specs.Prelude.{ℕ, zero, suc, ◌+◌, ◌-◌, ◌*◌, ◌/◌, ◌%◌, List, [], ◌∷◌, Bool, cond}

-- the base of a value's characters, and the character of its digit 0
abbrev pub base : Bool → ℕ
base decimal = cond decimal 10 256

abbrev pub nought : Bool → ℕ
nought decimal = cond decimal 48 0

-- the w low digits of n, as characters, in front of t
unfoldable pub numeral_on : Bool → ℕ → ℕ → List ℕ → List ℕ
numeral_on decimal zero n t = t
numeral_on decimal (suc w) n t = numeral_on decimal w (n / base decimal) ((nought decimal + n % base decimal) ∷ t)

abbrev pub numeral : Bool → ℕ → ℕ → List ℕ
numeral decimal w n = numeral_on decimal w n []

-- what is left of n when its w low digits are taken
unfoldable pub left_of : Bool → ℕ → ℕ → ℕ
left_of decimal zero n = n
left_of decimal (suc w) n = left_of decimal w (n / base decimal)

-- the number that characters say, highest digit first, behind a
unfoldable pub number_on : Bool → ℕ → List ℕ → ℕ
number_on decimal a [] = a
number_on decimal a (b ∷ bs) = number_on decimal (a * base decimal + (b - nought decimal) % base decimal) bs
