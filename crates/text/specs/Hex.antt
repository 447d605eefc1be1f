-- A byte as two digits 0-9 A-F (docs/SCENES.md). Assumes nothing.
use Rattle.std.specs.Prelude.{◌≡◌, ℕ, ◌+◌, ◌-◌, ◌*◌, ◌/◌, ◌<◌, cond}
use Prim.Native.Char.{code}
use Rattle.laws.specs.Truth.{from}
use Rattle.characters.specs.Checksum.{hex_of}

-- what a digit says; any other character says 0
unfoldable pub hex_digit : ℕ → ℕ
hex_digit b = cond (from (code "0") (code "9") b) (b - code "0") (cond (from (code "A") (code "F") b) (b - code "A" + 10) 0)

-- what two digits say, high digit first
unfoldable pub hex_says : ℕ → ℕ → ℕ
hex_says high low = hex_digit high * 16 + hex_digit low

-- a byte that was put is parsed again
abbrev pub HexRead : Type 0
HexRead = (b : ℕ) → b < 256 → hex_says (hex_of (b / 16)) (hex_of b) ≡ b
