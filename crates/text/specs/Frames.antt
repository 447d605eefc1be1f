-- Frames as rows write them (docs/SCENES.md). Assumes nothing.
use Rattle.std.specs.Prelude.{◌≡◌, ℕ, zero, suc, false, cond, List, [], ◌∷◌, ◌==◌, slice_index}
use Prim.Native.Char.{code}
use Rattle.laws.specs.Text.{codes}
use Rattle.laws.specs.Truth.{All, one_of}
use Rattle.characters.specs.Marks.{lf, cr}
use Rattle.text.specs.Hex.{hex_says}

-- < is LF, > is CR, any other character itself
unfoldable pub end_meant : ℕ → ℕ
end_meant b = cond (b == (code "<")) lf (cond (b == (code ">")) cr b)

-- the byte that a text begins with: =HH is the byte HH hex, where digits that are missing are 0
unfoldable pub byte_meant : List ℕ → ℕ
byte_meant s = cond (slice_index s 0 == (code "=")) (hex_says (slice_index s 1) (slice_index s 2)) (end_meant (slice_index s 0))

-- how many characters behind the first belong to it
unfoldable pub passed : ℕ → ℕ
passed b = cond (b == (code "=")) 2 0

-- the bytes that a text means behind so many characters
unfoldable pub meant_on : ℕ → List ℕ → List ℕ
meant_on k [] = []
meant_on zero (b ∷ s) = byte_meant (b ∷ s) ∷ meant_on (passed b) s
meant_on (suc k) (b ∷ s) = meant_on k s

unfoldable pub meant_by : List ℕ → List ℕ
meant_by s = meant_on 0 s

-- LF and CR in their readable form
unfoldable pub shown_byte : ℕ → ℕ
shown_byte b = cond (b == lf) (code "<") (cond (b == cr) (code ">") b)

unfoldable pub shown_as : List ℕ → List ℕ
shown_as [] = []
shown_as (b ∷ s) = shown_byte b ∷ shown_as s

-- bytes without < = > mean themselves where they are shown
abbrev pub ShownMeans : Type 0
ShownMeans = (s : List ℕ) → All (λ (b : ℕ). one_of (codes "<=>") b ≡ false) s → meant_by (shown_as s) ≡ s
