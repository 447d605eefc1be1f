-- A telegram's frame, and checks 1 to 7 (rules B1 to B5, R1 to R7). Assumes nothing.
use Rattle.std.specs.Prelude.{ℕ, ◌+◌, ◌-◌, Bool, true, false, List, [], ◌∷◌, ◌++◌, leb, eqb, length, get_or, take, drop, Option, None, Some}
use Prim.Native.Char.{code}
use Rattle.laws.specs.Truth.{both, one_of}
use Rattle.laws.specs.Text.{codes}
use Rattle.laws.specs.Numerals.{numeral}
use Rattle.characters.specs.Checksum.{checksum_of, check_text}
pub use Rattle.characters.specs.Marks.{lf, cr}

-- the byte count of a telegram of n bytes: its length less 2, as two decimal digits
unfoldable pub count_text : ℕ → List ℕ
count_text n = numeral true 2 (n - 2)

-- the bytes from index 1 to the end of the data field: count, type, number, data
unfoldable pub body_of : ℕ → ℕ → List ℕ → List ℕ
body_of kind number field = count_text (length field + 8) ++ (kind ∷ (code "0" + number) ∷ field)

-- the telegram of a type, number and data field
unfoldable pub frame_of : ℕ → ℕ → List ℕ → List ℕ
frame_of kind number field = lf ∷ (body_of kind number field ++ (check_text (checksum_of (body_of kind number field)) ++ (cr ∷ [])))

-- what stands before the data field of a telegram of n bytes, and behind it
abbrev pub head_text : ℕ → ℕ → ℕ → List ℕ
head_text n kind number = lf ∷ (count_text n ++ (kind ∷ (code "0" + number) ∷ []))

abbrev pub tail_text : ℕ → List ℕ
tail_text sum = check_text sum ++ (cr ∷ [])

-- the bytes of a telegram that its checksum sums
unfoldable pub summed_of : List ℕ → List ℕ
summed_of s = take (length s - 4) (drop 1 s)

-- the data field of a telegram
unfoldable pub field_of : List ℕ → List ℕ
field_of s = take (length s - 8) (drop 5 s)

-- the two characters at a place are these
abbrev pub is_two : List ℕ → ℕ → List ℕ → Bool
is_two s at text = both (eqb (get_or s at 0) (get_or text 0 0)) (eqb (get_or s (at + 1) 0) (get_or text 1 0))

-- a check that finds its fault at a place, where its test fails
abbrev pub needs : Bool → ℕ → Option ℕ
needs true place = None
needs false place = Some place

-- checks 1 to 7, in order
unfoldable pub frame_checks : List ℕ → List (Option ℕ)
frame_checks s =
    -- 1: under 10 bytes
    needs (leb 10 (length s)) 0 ∷
    -- 2: over 66 bytes
    needs (leb (length s) 66) 0 ∷
    -- 3: index 0 is not LF
    needs (eqb (get_or s 0 0) lf) 0 ∷
    -- 4: count is not two digits, or is not length less 2
    needs (is_two s 1 (count_text (length s))) 1 ∷
    -- 5: last byte is not CR
    needs (eqb (get_or s (length s - 1) 0) cr) (length s - 1) ∷
    -- 6: checksum wrong, or not 0-9 A-F
    needs (is_two s (length s - 3) (check_text (checksum_of (summed_of s)))) (length s - 3) ∷
    -- 7: number is not '0' or '1'
    needs (one_of (codes "01") (get_or s 4 0)) 4 ∷
    []
