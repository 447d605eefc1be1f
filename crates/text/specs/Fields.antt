-- The fields and words of a row (docs/SCENES.md). Assumes nothing.
use Rattle.std.specs.Prelude.{◌≡◌, ℕ, zero, suc, ◌%◌, ◌^◌, Bool, true, false, cond, List, [], ◌∷◌, ◌==◌}
use Prim.Native.Char.{code}
use Rattle.laws.specs.Truth.{both}
use Rattle.text.specs.Numbers.{number_said}

-- a row up to its first separator, all of it where there is none
unfoldable pub up_to : ℕ → List ℕ → List ℕ
up_to separator [] = []
up_to separator (b ∷ s) = cond (b == separator) [] (b ∷ up_to separator s)

-- what stands behind its first separator, nothing where there is none
unfoldable pub behind_first : ℕ → List ℕ → List ℕ
behind_first separator [] = []
behind_first separator (b ∷ s) = cond (b == separator) s (behind_first separator s)

-- a row from its field of this number on: behind so many separators
unfoldable pub from_field : ℕ → ℕ → List ℕ → List ℕ
from_field separator zero s = s
from_field separator (suc n) s = from_field separator n (behind_first separator s)

-- the field of this number, from 0; nothing where there are fewer
unfoldable pub row_field : ℕ → ℕ → List ℕ → List ℕ
row_field separator n s = up_to separator (from_field separator n s)

-- the words of a row are its fields between spaces
abbrev pub word_of : ℕ → List ℕ → List ℕ
word_of n s = row_field (code " ") n s

-- a word as a number of 32 bits
abbrev pub word_value : ℕ → List ℕ → ℕ
word_value n s = number_said (word_of n s) % 2 ^ 32

-- two texts are the same
unfoldable pub same_text : List ℕ → List ℕ → Bool
same_text [] [] = true
same_text [] (y ∷ ys) = false
same_text (x ∷ xs) [] = false
same_text (x ∷ xs) (y ∷ ys) = both (x == y) (same_text xs ys)

-- the number of a word among k of a text from the n-th on, or the number behind them
unfoldable pub word_place_from : ℕ → ℕ → List ℕ → List ℕ → ℕ
word_place_from zero n words one = n
word_place_from (suc k) n words one = cond (same_text (word_of n words) one) n (word_place_from k (suc n) words one)

unfoldable pub word_place : List ℕ → ℕ → List ℕ → ℕ
word_place words count one = word_place_from count 0 words one

-- the test of two texts says that they are equal
abbrev pub SameIsEqual : Type 0
SameIsEqual = (a b : List ℕ) → same_text a b ≡ true → a ≡ b

abbrev pub EqualIsSame : Type 0
EqualIsSame = (a : List ℕ) → same_text a a ≡ true
