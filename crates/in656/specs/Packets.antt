-- The packets of telegrams, and the values of record blocks by their packets' letters (include/in656.h; rules F17 to F19). Assumes nothing.
use Rattle.std.specs.Prelude.{◌≡◌, ℕ, suc, ◌+◌, ◌*◌, ◌<◌, ◌^◌, true, cond, List, [], ◌∷◌, eqb, ltb, length, take, drop, get_or, replicate, Option, None, Some, Result, Ok, Err}
use Rattle.records.specs.Refusals.{No, no, refusal_of}
use Rattle.records.specs.Records.{type_of, values_of, record_of}
use Rattle.records.specs.declared.records.Record.{Record}
use Rattle.forms.specs.Lines.{is_line}
use Rattle.forms.specs.declared.rows.Form.{Form}
use Rattle.forms.specs.Forms.{Looked, Slot, slots_of, count_of, form_of}
use Rattle.text.specs.Fours.{four_bytes, four_said}
use Rattle.text.specs.Putting.{puts}
use Rattle.blocks.specs.Layout.{stretch, filled}
use Rattle.blocks.specs.Record.{record_length, record_bytes, record_in, is, Narrow}
use Rattle.records.specs.declared.refusals.Refusal.{Refusal}
use Rattle.in656.specs.declared.results.result.In656Result.{In656Result}
use Rattle.in656.specs.Inputs.{byte_or, line_in}
use Rattle.in656.specs.Results.Result.{Call, zeros, saying, refusing, with_written, with_count, with_record}

-- the form of a type on a line by the letter of its first packet; a number wider than a byte is no line, type or letter
abbrev pub row_meant : ℕ → ℕ → ℕ → Looked
row_meant line kind first = form_of (line_in line) (byte_or 0 kind) (byte_or 0 first)

-- who sends it: 1 for the master, 2 for the slave
abbrev pub sender_of : Form → ℕ
sender_of f = cond f.master 1 2

-- how many packets a form has
abbrev pub packet_count : Form → ℕ
packet_count f = length (slots_of f)

abbrev pub no_slot : Slot
no_slot = record { letter = 0; len = 0 }

-- who sends a packet's form, its letter, how many characters its value has, and how many packets there are
abbrev pub packet_said : Form → Slot → In656Result
packet_said f p = with_count (with_written (saying (sender_of f) p.letter) p.len) (packet_count f)

-- the packet at an index, or only how many there are
unfoldable pub packet_result : Form → ℕ → In656Result
packet_result f index = cond (ltb index (packet_count f)) (packet_said f (get_or (slots_of f) index no_slot)) (with_count zeros (packet_count f))

-- 15, then 12 where neither end sends the type on the line
unfoldable pub packet_call : ℕ → ℕ → ℕ → ℕ → In656Result
packet_call line kind first index =
    cond (is_line (line_in line))
    (cond (row_meant line kind first).found (packet_result (row_meant line kind first).form index) (refusing (no 12 0)))
    (refusing (no 15 0))

-- a form's record whose values are all 0
abbrev pub empty_of : Form → List ℕ
empty_of f = record_bytes (record_of f.kind (replicate 10 0))

-- 15, then 14 where the block has another length, then 12
unfoldable pub record_call : ℕ → ℕ → ℕ → List ℕ → Call
record_call line kind first block =
    cond (is_line (line_in line))
    (cond (eqb (length block) record_length)
    (cond (row_meant line kind first).found
    (with_record zeros, filled record_length (empty_of (row_meant line kind first).form) block)
    (refusing (no 12 0), block))
    (refusing (no 14 0), block))
    (refusing (no 15 0), block)

-- the place of a letter among packets; how many they are where none has it
unfoldable pub letter_place : List Slot → ℕ → ℕ
letter_place [] letter = 0
letter_place (p ∷ ps) letter = cond (eqb p.letter letter) 0 (suc (letter_place ps letter))

-- the place of a letter among a form's packets, where one has it
abbrev pub place_found : Form → ℕ → Option ℕ
place_found f letter = cond (ltb (letter_place (slots_of f) letter) (packet_count f)) (Some (letter_place (slots_of f) letter)) None

-- where a value lies in a block, or a refusal's number and place
pub data Lying : Type 0 where
  at : ℕ → Lying
  refused : No → Lying

abbrev pub lies : Result ℕ Refusal → Lying
lies (Ok n) = at n
lies (Err x) = refused (refusal_of x)

-- the value of the packet at place i stands behind the type and i values of four bytes; 10 where a form has no packet of the letter
unfoldable pub lying_in : Form → ℕ → Lying
lying_in f letter = cond (ltb (letter_place (slots_of f) letter) (packet_count f)) (at (1 + 4 * letter_place (slots_of f) letter)) (refused (no 10 0))

-- the form of a block: that of its type
abbrev pub row_in : ℕ → List ℕ → Looked
row_in line block = form_of (line_in line) (get_or block 0 0) 0

-- 15, then 12 where the block has another length or neither end sends its type on the line, then 10
unfoldable pub lying : ℕ → List ℕ → ℕ → Lying
lying line block letter =
    cond (is_line (line_in line))
    (cond (eqb (length block) record_length)
    (cond (row_in line block).found (lying_in (row_in line block).form (byte_or 0 letter)) (refused (no 12 0)))
    (refused (no 12 0)))
    (refused (no 15 0))

-- the value there
abbrev pub value_in : Lying → List ℕ → In656Result
value_in (at n) block = saying 0 (four_said (stretch n 4 block))
value_in (refused x) block = refusing x

abbrev pub value_call : ℕ → List ℕ → ℕ → In656Result
value_call line block letter = value_in (lying line block letter) block

-- a value put there
abbrev pub put_in : Lying → List ℕ → ℕ → Call
put_in (at n) block value = (zeros, (puts (four_bytes value) n block).1)
put_in (refused x) block value = (refusing x, block)

abbrev pub put_call : ℕ → List ℕ → ℕ → ℕ → Call
put_call line block letter value = put_in (lying line block letter) block value

-- how many packets there are is the form's count, which the reader goes by
abbrev pub CountSame : Type 0
CountSame = (f : Form) → packet_count f ≡ count_of f

-- the letter of the packet at a place
abbrev pub letter_at : Form → ℕ → ℕ
letter_at f i = (get_or (slots_of f) i no_slot).letter

-- a block of the right length whose type is on the line
pub record OfLine (line : ℕ) (b : List ℕ) : Type 0 where
  pub known : is_line (line_in line) ≡ true
  pub whole : length b ≡ record_length
  pub found : (row_in line b).found ≡ true

-- the value of each packet lies where the block has it: behind the type, four bytes for each packet in front
abbrev pub EachLies : Type 0
EachLies = (line : ℕ) (b : List ℕ) (i : ℕ) → OfLine line b → i < packet_count (row_in line b).form → lying line b (letter_at (row_in line b).form i) ≡ at (1 + 4 * i)

-- the value of a record's block by the letter of the packet at place i is the i-th value of the record
abbrev pub ValueHeld : Type 0
ValueHeld = (line : ℕ) (b : List ℕ) (rec : Record) (i : ℕ) → OfLine line b → record_in b ≡ is rec → Narrow rec → i < packet_count (row_in line b).form
    → value_call line b (letter_at (row_in line b).form i) ≡ saying 0 (get_or (values_of rec) i 0)

-- a value of 32 bits that was put is read back
abbrev pub PutBack : Type 0
PutBack = (line : ℕ) (b : List ℕ) (letter value n : ℕ) → lying line b letter ≡ at n → value < 2 ^ 32 → value_call line (put_call line b letter value).1 letter ≡ saying 0 value

-- every other value stays
abbrev pub OthersStay : Type 0
OthersStay = (line : ℕ) (b : List ℕ) (letter value n other m : ℕ) → lying line b letter ≡ at n → lying line b other ≡ at m → (n ≡ m → ⊥)
    → value_call line (put_call line b letter value).1 other ≡ value_call line b other

-- and so do the type and all that lies around the value
abbrev pub AroundStays : Type 0
AroundStays = (line : ℕ) (b : List ℕ) (letter value n : ℕ) → lying line b letter ≡ at n
    → (0 < n) × (length (put_call line b letter value).1 ≡ length b) × (take n (put_call line b letter value).1 ≡ take n b) × (drop (n + 4) (put_call line b letter value).1 ≡ drop (n + 4) b)

-- a filled block is that of the type's record, and all values of it are 0
abbrev pub RecordEmpty : Type 0
RecordEmpty = (line kind first : ℕ) (b : List ℕ) (rec : Record) → is_line (line_in line) ≡ true → length b ≡ record_length → (row_meant line kind first).found ≡ true
    → rec ≡ record_of (byte_or 0 kind) (replicate 10 0) → (record_in (record_call line kind first b).1 ≡ is rec) × (type_of rec ≡ byte_or 0 kind) × (values_of rec ≡ replicate 10 0)
