-- The listing of rule P4, and the inputs that print `no 15 0` or nothing. Assumes nothing.
use Rattle.std.specs.Prelude.{◌≡◌, ℕ, false, List, [], ◌∷◌, ◌++◌}
use Prim.Native.Char.{code}
use Prim.Native.String.{String}
use Rattle.laws.specs.Truth.{from}
use Rattle.laws.specs.Text.{codes}
use Rattle.characters.specs.Marks.{lf, cr}
use Rattle.captures.specs.Captures.{listing_of}

-- a telegram, and a line of text
abbrev framed : String → List ℕ
framed text = lf ∷ (codes text ++ (cr ∷ []))

abbrev printed : String → List ℕ
printed text = codes text ++ (lf ∷ [])

-- digit 3 and the telegrams of a and i
abbrev pub PaperListing : Type 0
PaperListing = listing_of (codes "3" ++ (framed "08A0AAA5" ++ framed "08A0AAA6")) ≡ printed "1 0 ok A 0" ++ printed "2 10 no 6 7"

-- empty input or any other first byte
abbrev pub NoInput : Type 0
NoInput = listing_of [] ≡ printed "no 15 0"

abbrev pub OtherByte : Type 0
OtherByte = (byte : ℕ) (s : List ℕ) → from (code "1") (code "3") byte ≡ false → listing_of (byte ∷ s) ≡ printed "no 15 0"

-- a digit alone prints nothing
abbrev pub DigitAlone : Type 0
DigitAlone = listing_of (codes "3") ≡ []
