-- A record as a block of bytes (rule F5). Assumes nothing.
use Rattle.std.specs.Prelude.{◌≡◌, cond, List, ◌∷◌, ◌++◌, ℕ, ◌+◌, ◌<◌, ◌^◌, eqb, length, get_or, replicate, Result, Ok, Err}
use Rattle.laws.specs.Truth.{All}
use Rattle.records.specs.Records.{type_of, fields_of, values_of, record_of}
use Rattle.records.specs.Refusals.{No, no, refusal_of}
use Rattle.records.specs.declared.records.Record.{Record}
use Rattle.text.specs.Fields.{same_text}
use Rattle.blocks.specs.Layout.{joined, each, stretch, filled}
use Rattle.text.specs.Fours.{four_bytes, four_said}
use Rattle.records.specs.declared.refusals.Refusal.{Refusal}

-- the bytes of the values; those for a text, which no record of the three lines has; and all bytes of a block
abbrev pub values_length : ℕ
values_length = 40

abbrev pub text_length : ℕ
text_length = 23

abbrev pub record_length : ℕ
record_length = 1 + values_length + text_length

-- the type, ten values of four bytes with 0 behind the last, and no text
unfoldable pub record_bytes : Record → List ℕ
record_bytes rec = type_of rec ∷ (joined four_bytes (values_of rec) ++ replicate text_length 0)

-- the record that a block's type and values make
unfoldable pub record_at : List ℕ → Record
record_at b = record_of (get_or b 0 0) (each 4 four_said 10 (stretch 1 values_length b))

-- what a block holds: a record, or a refusal's number and place
pub data Holding : Type 0 where
  is : Record → Holding
  refused : No → Holding

abbrev pub found_of : Result Record Refusal → Holding
found_of (Ok rec) = is rec
found_of (Err x) = refused (refusal_of x)

-- 12 where the length is another or no record has the type, so that the one made has another; 13 where the block of the record made is another
unfoldable pub record_in : List ℕ → Holding
record_in b =
    cond (eqb (length b) record_length)
    (cond (eqb (type_of (record_at b)) (get_or b 0 0)) (cond (same_text (record_bytes (record_at b)) b) (is (record_at b)) (refused (no 13 0))) (refused (no 12 0)))
    (refused (no 12 0))

-- a promise through these definitions allows one answer only
abbrev pub OneFound : Type 0
OneFound = (x y : Result Record Refusal) → found_of x ≡ found_of y → x ≡ y

-- a record's values are numbers of 32 bits, as its type says
abbrev pub Narrow : Record → Type 0
Narrow rec = All (λ (n : ℕ). n < 2 ^ 32) (fields_of rec)

-- reading what was put gives the record, for every record
abbrev pub RecordBack : Type 0
RecordBack = (rec : Record) (b : List ℕ) → Narrow rec → length b ≡ record_length → record_in (filled record_length (record_bytes rec) b) ≡ is rec

-- a block in which a record is read is that record's block
abbrev pub RecordBlock : Type 0
RecordBlock = (rec : Record) (b : List ℕ) → record_in b ≡ is rec → b ≡ record_bytes rec
