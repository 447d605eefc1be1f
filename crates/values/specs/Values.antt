-- A value's number and its characters, and what is permitted (rules V18, R11, R13). Assumes nothing.
use Rattle.std.specs.Prelude.{ℕ, zero, suc, ◌+◌, ◌-◌, Bool, true, cond, List, [], ◌∷◌, eqb, leb, length, get_or, drop}
use Rattle.laws.specs.Truth.{both, either}
use Rattle.laws.specs.Numerals.{numeral, left_of, number_on}
use Rattle.forms.specs.Forms.{Looked, Slot, slots_of, width_of, form_of}
use Rattle.values.specs.Packets.{lead_of, is_decimal, permits, ruled, permits_number}
use Rattle.records.specs.Records.{type_of, letter_of, values_of}
use Rattle.records.specs.declared.records.Record.{Record}

-- the lead, and behind it the number, in w characters
abbrev pub led : ℕ → Bool → ℕ → ℕ → List ℕ
led lead decimal zero n = []
led lead decimal (suc w) n = lead ∷ numeral decimal w n

-- the w characters of a packet's value n
unfoldable pub text_of : ℕ → ℕ → ℕ → List ℕ
text_of letter w n = cond (eqb (lead_of letter) 0) (numeral (is_decimal letter) w n) (led (lead_of letter) (is_decimal letter) w n)

-- a value of w characters is a number of 32 bits
unfoldable pub narrow : ℕ → ℕ → Bool
narrow letter w = both (leb w 6) (either (is_decimal letter) (leb w 3))

-- the number that the characters of a packet's value say, 0 where it is none of 32 bits
unfoldable pub value_of : ℕ → List ℕ → ℕ
value_of letter text = cond (narrow letter (length text)) (number_on (is_decimal letter) 0 (cond (eqb (lead_of letter) 0) text (drop 1 text))) 0

-- how many characters of w are the number's
unfoldable pub number_width : ℕ → ℕ → ℕ
number_width letter w = cond (eqb (lead_of letter) 0) w (w - 1)

-- a packet in w bytes: its letter, and then its value
abbrev pub packet_text : ℕ → ℕ → ℕ → List ℕ
packet_text letter zero n = []
packet_text letter (suc w) n = letter ∷ text_of letter w n

-- each character from a place on is permitted
unfoldable pub permitted_from : ℕ → ℕ → ℕ → ℕ → List ℕ → Bool
permitted_from line kind letter at [] = true
permitted_from line kind letter at (b ∷ bs) = both (permits line kind letter at b) (permitted_from line kind letter (at + 1) bs)

-- a packet has no rule for its value's number, or the number of w characters passes it
unfoldable pub number_fits : ℕ → ℕ → ℕ → ℕ → Bool
number_fits line letter w n = cond (ruled line letter) (both (narrow letter w) (permits_number line letter n)) true

-- a value is permitted as a whole: each of its characters, and its number
unfoldable pub permitted : ℕ → ℕ → ℕ → List ℕ → Bool
permitted line kind letter text = both (permitted_from line kind letter 0 text) (number_fits line letter (length text) (value_of letter text))

-- a number is permitted as a value of w characters when it has no more digits, its characters are permitted, and it is
unfoldable pub permits_value : ℕ → ℕ → ℕ → ℕ → ℕ → Bool
permits_value line kind letter w n =
    both (eqb (left_of (is_decimal letter) (number_width letter w) n) 0)
    (both (permitted_from line kind letter 0 (text_of letter w n)) (number_fits line letter w n))

-- each packet's value is permitted
unfoldable pub permits_values : ℕ → ℕ → List Slot → List ℕ → Bool
permits_values line kind [] vs = true
permits_values line kind (p ∷ ps) vs = both (permits_value line kind p.letter p.len (get_or vs 0 0)) (permits_values line kind ps (drop 1 vs))

-- the row of a record on a line
abbrev pub row_of : ℕ → Record → Looked
row_of line r = form_of line (type_of r) (letter_of r)

-- a record is permitted on a line when its type is on the line and each of its values is permitted
unfoldable pub permits_record : ℕ → Record → Bool
permits_record line r = both (row_of line r).found (permits_values line (type_of r) (slots_of (row_of line r).form) (values_of r))

-- the length of its telegram, 0 where its type is not on the line
unfoldable pub length_of : ℕ → Record → ℕ
length_of line r = cond (row_of line r).found (8 + width_of (row_of line r).form) 0
