-- What the words of a row mean (docs/SCENES.md). Assumes nothing.
use Rattle.std.specs.Prelude.{cond, List, ℕ, ◌%◌, ltb, take, replicate}
use Prim.Native.Char.{code}
use Rattle.records.specs.declared.records.Record.{Record}
use Rattle.text.specs.Frames.{meant_by}
use Rattle.text.specs.Fields.{from_field, word_value}
use Rattle.text.specs.Items.{record_said}

-- a word as a number kept in a byte
abbrev pub small_at : ℕ → List ℕ → ℕ
small_at n row = word_value n row % 256

-- the room that a row gives an output: at most 128
unfoldable pub room_of : List ℕ → ℕ
room_of row = cond (ltb (word_value 3 row) 128) (word_value 3 row) 128

-- an output of so many bytes before a call: # all over
abbrev pub blank_of : ℕ → List ℕ
blank_of n = replicate n (code "#")

-- the record that begins at a word
abbrev pub record_at : ℕ → List ℕ → Record
record_at n row = record_said (from_field (code " ") n row)

-- the bytes that a row's text means from a word on, to the row's end
abbrev pub meant_at : ℕ → List ℕ → List ℕ
meant_at n row = meant_by (from_field (code " ") n row)

-- at most 256 of them
unfoldable pub bytes_at : ℕ → List ℕ → List ℕ
bytes_at n row = take 256 (meant_at n row)
