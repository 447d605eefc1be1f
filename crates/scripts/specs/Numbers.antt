-- Which words of a row are numbers (rule P12; docs/SCENES.md). Assumes nothing.
use Rattle.std.specs.Prelude.{Bool, true, List, ℕ, zero, suc, ◌-◌}
use Prim.Native.Char.{code}
use Rattle.laws.specs.Truth.{both, from, every}
use Rattle.text.specs.Fields.{word_of}

abbrev pub is_digit : ℕ → Bool
is_digit b = from (code "0") (code "9") b

-- a number has nothing but digits; a missing word has none, and is a number too
unfoldable pub is_number : List ℕ → Bool
is_number word = every is_digit word

-- so many words of a row are numbers, from one on
unfoldable pub numbers_from : ℕ → ℕ → List ℕ → Bool
numbers_from zero n row = true
numbers_from (suc k) n row = both (is_number (word_of n row)) (numbers_from k (suc n) row)

-- the words of a row from one up to another are numbers
abbrev pub are_numbers : ℕ → ℕ → List ℕ → Bool
are_numbers first end row = numbers_from (end - first) first row
