-- A byte that was put in hex is parsed again. Assumes nothing.
use Rattle.std.proofs.Common.{◌≡◌, ℕ, ◌+◌, ◌/◌, ◌%◌, ◌<◌, ◌≤◌, arith, le-ltb, lt-ltb}
use Rattle.laws.proofs.Passes.{order}
use Rattle.characters.specs.Checksum.{hex_of}
use Rattle.text.specs.Hex.{hex_digit, hex_says, HexRead}

-- a digit, by what it says
low : (d : ℕ) → d < 10 → hex_digit (d + 48) ≡ d
unfolding hex_digit
low d h = rw (le-ltb (d + 48) 48 (omega arith), lt-ltb (d + 48) 58 (omega arith)) (omega arith)

high : (d : ℕ) → 10 ≤ d → d < 16 → hex_digit (d + 55) ≡ d
unfolding hex_digit
high d h g = rw (le-ltb (d + 55) 48 (omega arith), le-ltb (d + 55) 58 (omega arith), le-ltb (d + 55) 65 (omega arith), lt-ltb (d + 55) 71 (omega arith)) (omega arith)

digit-read : (n : ℕ) → hex_digit (hex_of n) ≡ n % 16
digit-read n = order (n % 16) 10 (λ l. rw (lt-ltb (n % 16) 10 l) (low (n % 16) l)) (λ m. rw (le-ltb (n % 16) 10 m) (high (n % 16) m (omega arith)))

pub hex-read : HexRead
unfolding hex_says
hex-read b h = rw (digit-read (b / 16), digit-read b) (omega arith)
