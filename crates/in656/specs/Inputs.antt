-- Numbers of the header as the rules take them, and what a record block means to a call (include/in656.h). Assumes nothing.
use Rattle.std.specs.Prelude.{◌≡◌, ℕ, Bool, true, false, cond, List, ltb, eqb, length, get_or, replicate}
use Rattle.records.specs.Records.{type_of, record_of}
use Rattle.records.specs.declared.records.Record.{Record}
use Rattle.records.specs.declared.records.Record.TheVariants.{Approved}
use Rattle.values.specs.Values.{permits_record}
use Rattle.blocks.specs.Record.{Holding, is, refused, record_in}

-- a number as a byte; a wider one is never cut, and another byte stands for it
unfoldable pub byte_or : ℕ → ℕ → ℕ
byte_or other n = cond (ltb n 256) n other

-- a line; 0, which is none, for a wider number
abbrev pub line_in : ℕ → ℕ
line_in n = byte_or 0 n

-- a telegram's number; 2, which is out of its range, for a wider one
abbrev pub number_in : ℕ → ℕ
number_in n = byte_or 2 n

-- a key position; 0, which is none, for a wider number
abbrev pub key_in : ℕ → ℕ
key_in n = byte_or 0 n

-- the line that a start takes: none where the state has another length
unfoldable pub line_for : ℕ → List ℕ → ℕ → ℕ
line_for size state line = cond (eqb (length state) size) (line_in line) 0

-- a block is of a record's type, its values in their ranges or not
abbrev pub typed : Holding → Bool
typed (is rec) = true
typed (refused x) = eqb x.number 13

-- the record of a type with values that no packet permits
unfoldable pub outside : ℕ → Record
outside kind = record_of kind (replicate 10 4294967295)

-- the record that a block means to a call, which refuses it in its own order of 12 and 13: a block of no record's type means A, which
-- neither end takes from its caller; a block that the record does not fill means its type with values that no packet permits
abbrev pub meant_by : Holding → ℕ → Record
meant_by (is rec) kind = rec
meant_by (refused x) kind = cond (eqb x.number 13) (outside kind) (Approved 0)

abbrev pub record_meant : List ℕ → Record
record_meant block = meant_by (record_in block) (get_or block 0 0)

-- no line permits that record of any type
abbrev pub NoneOutside : Type 0
NoneOutside = (line : ℕ) (r : Record) → permits_record line (outside (type_of r)) ≡ false
