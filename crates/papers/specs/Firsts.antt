-- 'First' in rules R9, R10 and R11, said of a telegram's bytes and not by a search. Assumes nothing.
use Rattle.std.specs.Prelude.{◌≡◌, Bool, true, false, List, ℕ, zero, suc, ◌+◌, ◌-◌, ◌≤◌, ◌<◌, eqb, length, get_or, take, drop}
use Rattle.laws.specs.Truth.{every}
use Rattle.records.specs.Refusals.{no}
use Rattle.records.specs.declared.records.Record.{Record}
use Rattle.characters.specs.Characters.{in_set}
use Rattle.forms.specs.Forms.{forms, on_line, count_of, width_of}
use Rattle.forms.specs.declared.rows.Form.{Form}
use Rattle.values.specs.Values.{permitted}
use Rattle.records.specs.Answers.{accepted, refused}
use Rattle.reading.specs.Contents.{row_in}
use Rattle.reading.specs.Reading.{reading_of}

-- an index of the data field: from 5 up to the two checksum characters and CR
abbrev pub InField : List ℕ → ℕ → Type 0
InField s i = (5 ≤ i) × (i + 3 < length s)

-- each byte of the data field is of the set
abbrev pub AllInside : List ℕ → Type 0
AllInside s = (i : ℕ) → InField s i → in_set (get_or s i 0) ≡ true

-- 9: a byte of the data field is outside the set, and each byte of the field before it is of the set
pub record FirstOutside (s : List ℕ) (place : ℕ) : Type 0 where
  pub in_field : InField s place
  pub outside : in_set (get_or s place 0) ≡ false
  pub before : (i : ℕ) → 5 ≤ i → i < place → in_set (get_or s i 0) ≡ true

abbrev pub NineFirst : Type 0
NineFirst = (line : ℕ) (s : List ℕ) (place : ℕ) → reading_of line s ≡ refused (no 9 place) → FirstOutside s place

-- how many bytes the first j packets of a form fill: each a letter and then its value
abbrev pub filled_by : Form → ℕ → ℕ
filled_by f zero = 0
filled_by f (suc j) = filled_by f j + (1 + get_or f.lens j 0)

-- the index of the letter of packet j, counted from 0
abbrev pub letter_place : Form → ℕ → ℕ
letter_place f j = 5 + filled_by f j

-- the data field is as long as its form's packets
abbrev pub length_right : Form → List ℕ → Bool
length_right f s = eqb (length s - 8) (width_of f)

-- packet j has its letter
abbrev pub letter_right : Form → List ℕ → ℕ → Bool
letter_right f s j = eqb (get_or s (letter_place f j) 0) (get_or f.letters j 0)

-- packet j has a permitted value, in the bytes behind its letter
abbrev pub value_right : ℕ → Form → List ℕ → ℕ → Bool
value_right line f s j = permitted line (get_or s 3 0) (get_or f.letters j 0) (take (get_or f.lens j 0) (drop (letter_place f j + 1) s))

-- each packet of a form passes a test
abbrev pub EachPacket : Form → (ℕ → Bool) → Type 0
EachPacket f test = (j : ℕ) → j < count_of f → test j ≡ true

-- a packet of a form fails a test, each packet before it passes, and the place is the packet's letter
pub record FirstPacket (f : Form) (test : ℕ → Bool) (place : ℕ) : Type 0 where
  pub packet : ℕ
  pub of-form : packet < count_of f
  pub at-letter : place ≡ letter_place f packet
  pub fails : test packet ≡ false
  pub before : (j : ℕ) → j < packet → test j ≡ true

-- a row of the table of forms, of the telegram's type and on the line; on a line no type has two (`NoTwoRows`)
pub record OwnRow (line : ℕ) (s : List ℕ) (f : Form) : Type 0 where
  -- what each row has it has
  pub of-table : (test : Form → Bool) → every test forms ≡ true → test f ≡ true
  pub of-type : f.kind ≡ get_or s 3 0
  pub on_line : on_line f line ≡ true

-- 10: no fault of 9; place 5 where the data field has another length, else the first wrong letter
pub record FirstMisshapen (line : ℕ) (s : List ℕ) (f : Form) (place : ℕ) : Type 0 where
  pub own_row : OwnRow line s f
  pub inside : AllInside s
  pub another-length : length_right f s ≡ false → place ≡ 5
  pub another-letter : length_right f s ≡ true → FirstPacket f (letter_right f s) place

abbrev pub TenFirst : Type 0
TenFirst = (line : ℕ) (s : List ℕ) (place : ℕ) → reading_of line s ≡ refused (no 10 place) → FirstMisshapen line s (row_in line s).form place

-- no fault of 9 and 10
pub record Shaped (line : ℕ) (s : List ℕ) (f : Form) : Type 0 where
  pub own_row : OwnRow line s f
  pub inside : AllInside s
  pub length-right : length_right f s ≡ true
  pub letters-right : EachPacket f (letter_right f s)

-- 11: no fault of 9 and 10; the letter of the first packet whose value is not permitted
abbrev pub ElevenFirst : Type 0
ElevenFirst =
    (line : ℕ) (s : List ℕ) (place : ℕ) → reading_of line s ≡ refused (no 11 place)
    → Shaped line s (row_in line s).form × FirstPacket (row_in line s).form (value_right line (row_in line s).form s) place

-- what is accepted has no fault of 9, 10 and 11
abbrev pub AcceptedSound : Type 0
AcceptedSound =
    (line : ℕ) (s : List ℕ) (rec : Record) (n : ℕ) → reading_of line s ≡ accepted rec n
    → Shaped line s (row_in line s).form × EachPacket (row_in line s).form (value_right line (row_in line s).form s)
