-- What stands for a packet's value: its fixed character, whether it is a number, and the rule for that number (rules V1 to V17). Assumes nothing.
use Rattle.std.specs.Prelude.{ℕ, Bool, true, cond, [], ◌∷◌, eqb}
use Prim.Native.Char.{code}
use Rattle.laws.specs.Truth.{one_of}
use Rattle.laws.specs.Text.{codes}

-- the fixed character that a value begins with: F is the letter C and digits, M and V are a colon and characters
unfoldable pub lead_of : ℕ → ℕ
lead_of letter = cond (eqb letter (code "F")) (code "C") (cond (one_of (codes "MV") letter) (code ":") 0)

-- a value of digits is their number; any other is its characters
unfoldable pub is_decimal : ℕ → Bool
is_decimal letter = one_of (codes "L%HESDCTRFP") letter

-- whether there is a rule for the number of a packet's value
unfoldable pub ruled : ℕ → ℕ → Bool
ruled line letter = eqb letter (code "R")

-- whether that number is permitted: R is 88 or 00
unfoldable pub permits_number : ℕ → ℕ → ℕ → Bool
permits_number line letter n = cond (eqb letter (code "R")) (one_of (0 ∷ 88 ∷ []) n) true
