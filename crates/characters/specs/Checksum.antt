-- The checksum (rules B4, B5; 001 section 4.4). Assumes nothing.
use Rattle.std.specs.Prelude.{ℕ, ◌+◌, ◌-◌, ◌/◌, ◌%◌, cond, List, [], ◌∷◌, ltb}
use Prim.Native.Char.{code}

-- the sum of all bytes
unfoldable pub total : List ℕ → ℕ
total [] = 0
total (b ∷ bs) = b + total bs

-- its two's complement, modulo 256
unfoldable pub checksum_of : List ℕ → ℕ
checksum_of s = (256 - total s % 256) % 256

-- a digit of base 16 as a character 0-9 A-F
abbrev pub hex_of : ℕ → ℕ
hex_of n = cond (ltb (n % 16) 10) (n % 16 + code "0") (n % 16 + 55)

-- two characters, high digit first
unfoldable pub check_text : ℕ → List ℕ
check_text sum = hex_of (sum / 16) ∷ hex_of sum ∷ []
