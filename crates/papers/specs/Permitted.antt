-- What each packet permits, as the texts of rules V1 to V17, and that the definitions permit just their characters. Assumes nothing.
use Rattle.std.specs.Prelude.{◌≡◌, Bool, true, false, cond, not, List, [], ◌∷◌, ℕ, ◌+◌, eqb, length, get_or}
use Prim.Native.Char.{code}
use Prim.Native.String.{String}
use Rattle.laws.specs.Truth.{both, either, implies, one_of, every}
use Rattle.laws.specs.Text.{codes}
use Rattle.forms.specs.Lines.{up_from, line_numbers}
use Rattle.forms.specs.Forms.{forms, on_line, Slot, slots_of}
use Rattle.forms.specs.declared.rows.Form.{Form}
use Rattle.values.specs.Packets.{permits}
use Rattle.values.specs.Values.{permitted}
use Rattle.reading.specs.Frame.{is_two}

-- packets, the types and lines of their telegrams, and the characters of each place of their values
pub record Allowed : Type 0 where
  pub letters : List ℕ
  pub types : List ℕ
  pub lines : List ℕ
  pub places : List String

abbrev pub are : String → String → String → List String → Allowed
are letters types lines places = record { letters = codes letters; types = codes types; lines = codes lines; places = places }

-- where neither type nor line matters
abbrev pub anywhere : String → List String → Allowed
anywhere letters places = are letters "ANrtc5oGFnBKO1" "123" places

abbrev pub digits : String
digits = "0123456789"

-- the 75 codes of the limited character set (rule B7): the six national letters stand in the order of their codes
abbrev pub character_set : String
character_set = "%()-:+ 0123456789ABCDEFGHIJKLMNOPQRSTUVWXYZabcdefghijklmnopqrstuvwxyz[\\]{|}"

-- the sentences of the paper, one after the other
abbrev pub paper : List Allowed
paper =
    -- L, %, H, E three digits
    anywhere "L%HE" (digits ∷ digits ∷ digits ∷ []) ∷
    -- S, D, C two digits
    anywhere "SDC" (digits ∷ digits ∷ []) ∷
    -- T six digits
    anywhere "T" (digits ∷ digits ∷ digits ∷ digits ∷ digits ∷ digits ∷ []) ∷
    -- F is the letter C and two digits
    anywhere "F" ("C" ∷ digits ∷ digits ∷ []) ∷
    -- P is a digit 0 to 7 and three digits
    anywhere "P" ("01234567" ∷ digits ∷ digits ∷ digits ∷ []) ∷
    -- R is 88 or 00: two digits, and which they are says `DirectionExact`
    anywhere "R" (digits ∷ digits ∷ []) ∷
    -- m is S or T
    anywhere "m" ("ST" ∷ []) ∷
    -- U is + or -
    anywhere "U" ("+-" ∷ []) ∷
    -- N is 1, 2 or A
    anywhere "N" ("12A" ∷ []) ∷
    -- M is a colon and one of A B C D, in telegram 1 also F
    are "M" "KO" "3" (":" ∷ "ABCD" ∷ []) ∷
    are "M" "1" "2" (":" ∷ "ABCDF" ∷ []) ∷
    -- V is a colon and two characters, each one of A B C D or space, in telegram 1 also F
    are "V" "KO" "3" (":" ∷ "ABCD " ∷ "ABCD " ∷ []) ∷
    are "V" "1" "2" (":" ∷ "ABCDF " ∷ "ABCDF " ∷ []) ∷
    -- W and X are each F, 1 or 6
    anywhere "WX" ("F16" ∷ []) ∷
    -- Y is one of 0 to 9 and A to V
    anywhere "Y" ("0123456789ABCDEFGHIJKLMNOPQRSTUV" ∷ []) ∷
    -- Z is 0 to 7
    anywhere "Z" ("01234567" ∷ []) ∷
    -- B in r names the wanted type: B on line 1, 5 on line 2, K on line 3
    are "B" "r" "1" ("B" ∷ []) ∷
    are "B" "r" "2" ("5" ∷ []) ∷
    are "B" "r" "3" ("K" ∷ []) ∷
    -- B in t is any character of the set
    are "B" "t" "123" (character_set ∷ []) ∷
    -- A on line 3 is A, X or Y; on lines 1 and 2 any character of the set
    are "A" "A" "3" ("AXY" ∷ []) ∷
    are "A" "A" "12" (character_set ∷ []) ∷
    []

-- a row speaks of a packet in a telegram of a type on a line
abbrev pub speaks_of : ℕ → ℕ → ℕ → Allowed → Bool
speaks_of line kind letter a = both (one_of a.letters letter) (both (one_of a.types kind) (one_of a.lines (code "0" + line)))

-- two tests say the same
abbrev pub alike : Bool → Bool → Bool
alike a b = cond a b (not b)

-- the definition permits of all 256 bytes just the characters of each place's text, from a place on
abbrev pub just_these : ℕ → ℕ → ℕ → ℕ → List String → Bool
just_these line kind letter at [] = true
just_these line kind letter at (text ∷ places) =
    both (every (λ (b : ℕ). alike (permits line kind letter at b) (one_of (codes text) b)) (up_from 0 256)) (just_these line kind letter (at + 1) places)

-- the row has a place for each character of the packet's value, and the definition permits just what it says
abbrev pub row_holds : ℕ → ℕ → Slot → Allowed → Bool
row_holds line kind p a = both (eqb (length a.places) p.len) (just_these line kind p.letter 0 a.places)

-- no row speaks of a packet
abbrev pub unspoken : ℕ → ℕ → Slot → List Allowed → Bool
unspoken line kind p rows = every (λ (a : Allowed). not (speaks_of line kind p.letter a)) rows

-- one row speaks of a packet, and it holds
abbrev pub one_holds : ℕ → ℕ → Slot → List Allowed → Bool
one_holds line kind p [] = false
one_holds line kind p (a ∷ rows) = cond (speaks_of line kind p.letter a) (both (unspoken line kind p rows) (row_holds line kind p a)) (one_holds line kind p rows)

-- so it is for each packet of each form on each line
abbrev pub ExactValues : Type 0
ExactValues =
    every (λ (line : ℕ). every (λ (f : Form). implies (on_line f line) (every (λ (p : Slot). one_holds line f.kind p paper) (slots_of f))) forms) line_numbers ≡ true

-- R is 88 or 00, and no other two bytes
abbrev pub DirectionExact : Type 0
DirectionExact =
    (line kind a b : ℕ)
    → permitted line kind (code "R") (a ∷ b ∷ []) ≡ either (is_two (a ∷ b ∷ []) 0 (codes "88")) (is_two (a ∷ b ∷ []) 0 (codes "00"))

-- any other value is permitted just when each of its characters is
abbrev pub EachCharacter : Type 0
EachCharacter =
    (line kind letter : ℕ) (value : List ℕ) → eqb letter (code "R") ≡ false
    → permitted line kind letter value ≡ every (λ (at : ℕ). permits line kind letter at (get_or value at 0)) (up_from 0 (length value))
