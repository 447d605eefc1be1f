-- What each packet permits (rules V1 to V17). Assumes nothing.
use Rattle.std.specs.Prelude.{ℕ, Bool, false, cond, eqb}
use Prim.Native.Char.{code}
use Rattle.laws.specs.Truth.{either, from, one_of}
use Rattle.laws.specs.Text.{codes}
use Rattle.characters.specs.Characters.{in_set}
use Rattle.forms.specs.Lines.{line_of, is_key}
use Rattle.forms.specs.Forms.{data_type}
unfoldable pub use Rattle.values.specs.PacketNumbers.{lead_of, is_decimal, ruled, permits_number}

abbrev pub digit : ℕ → Bool
digit b = from (code "0") (code "9") b

-- F is the letter C and two digits
abbrev pub in_channel : ℕ → ℕ → Bool
in_channel at b = cond (eqb at 0) (eqb b (code "C")) (digit b)

-- P is a digit 0 to 7 and three digits
abbrev pub in_position : ℕ → ℕ → Bool
in_position at b = cond (eqb at 0) (from (code "0") (code "7") b) (digit b)

-- one of A B C D, in telegram 1 also F
abbrev pub operational : ℕ → ℕ → Bool
operational kind b = cond (eqb b (code "F")) (eqb kind (code "1")) (from (code "A") (code "D") b)

-- M is a colon and one of these
abbrev pub in_mode : ℕ → ℕ → ℕ → Bool
in_mode kind at b = cond (eqb at 0) (eqb b (code ":")) (operational kind b)

-- V is a colon and two characters, each one of these or space
abbrev pub in_watch : ℕ → ℕ → ℕ → Bool
in_watch kind at b = cond (eqb at 0) (eqb b (code ":")) (either (eqb b (code " ")) (operational kind b))

-- W and X are each F, 1 or 6
abbrev pub in_effect : ℕ → Bool
in_effect b = one_of (codes "F16") b

-- B in r names the wanted type, the slave's data type on the line; B in t is any character of the set
abbrev pub in_request : ℕ → ℕ → ℕ → Bool
in_request line kind b = cond (eqb kind (code "r")) (eqb b (data_type line)) (in_set b)

-- A on line 3 is A, X or Y (001 section 8.8); on lines 1 and 2 any character of the set
abbrev pub in_approval : ℕ → ℕ → Bool
in_approval line b = cond (line_of line).keyed (is_key b) (in_set b)

-- whether the byte at a place of a value is permitted: by line, telegram type and packet letter
unfoldable pub permits : ℕ → ℕ → ℕ → ℕ → ℕ → Bool
permits line kind letter at b =
    -- L, %, H, E three digits; S, D, C two digits; T six digits; R is 88 or 00
    cond (one_of (codes "L%HESDCTR") letter) (digit b)
    (cond (eqb letter (code "F")) (in_channel at b)
    (cond (eqb letter (code "P")) (in_position at b)
    -- m is S or T
    (cond (eqb letter (code "m")) (from (code "S") (code "T") b)
    -- U is + or -
    (cond (eqb letter (code "U")) (one_of (codes "+-") b)
    -- N is 1, 2 or A
    (cond (eqb letter (code "N")) (either (eqb b (code "A")) (from (code "1") (code "2") b))
    (cond (eqb letter (code "M")) (in_mode kind at b)
    (cond (eqb letter (code "V")) (in_watch kind at b)
    (cond (one_of (codes "WX") letter) (in_effect b)
    -- Y is one of 0 to 9 and A to V
    (cond (eqb letter (code "Y")) (either (from (code "0") (code "9") b) (from (code "A") (code "V") b))
    -- Z is 0 to 7
    (cond (eqb letter (code "Z")) (from (code "0") (code "7") b)
    (cond (eqb letter (code "B")) (in_request line kind b)
    (cond (eqb letter (code "A")) (in_approval line b)
    false))))))))))))
