-- A number of 32 bits as four bytes, the highest first. Assumes nothing.
use Rattle.std.specs.Prelude.{ℕ, ◌+◌, ◌*◌, false, List, slice_index}
use Rattle.laws.specs.Numerals.{numeral}

-- its digits of base 256
unfoldable pub four_bytes : ℕ → List ℕ
four_bytes n = numeral false 4 n

-- the number that the first four bytes say, 0 for each that is not there
unfoldable pub four_said : List ℕ → ℕ
four_said b = slice_index b 0 * 16777216 + slice_index b 1 * 65536 + slice_index b 2 * 256 + slice_index b 3
