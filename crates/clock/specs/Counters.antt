-- The numbers of telegrams (rule K5; 001 section 4.2). Assumes nothing.
use Rattle.std.specs.Prelude.{ℕ, ◌-◌, Bool, cond, ◌==◌, nat_lt}
use Prim.Native.Char.{code}
use Rattle.laws.specs.Truth.{one_of}
use Rattle.laws.specs.Text.{codes}

-- a number is 0 or 1
abbrev pub in_range : ℕ → Bool
in_range number = nat_lt number 2

-- the number changes: 0 to 1, and 1 to 0
abbrev pub changed_of : ℕ → ℕ
changed_of number = cond (number == 0) 1 0

-- two numbers are the same
abbrev pub same_number : ℕ → ℕ → Bool
same_number a b = a == b

-- a number byte is '0' or '1'
abbrev pub is_number : ℕ → Bool
is_number byte = one_of (codes "01") byte

-- the number of a number byte
abbrev pub number_in : ℕ → ℕ
number_in byte = byte - code "0"
