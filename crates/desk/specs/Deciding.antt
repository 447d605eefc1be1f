-- Which rule settles what the desk hears, by the line, whether it is good, the last number taken and the frame
-- (rules D5 to D9). Assumes nothing.
use Rattle.std.specs.Prelude.{ℕ, Bool, cond, List, eqb, get_or}
use Prim.Native.Char.{code}
use Rattle.laws.specs.Truth.{both, from}
use Rattle.forms.specs.Forms.{by_master}
use Rattle.records.specs.Records.{type_of}
use Rattle.records.specs.declared.records.Record.{Record}
use Rattle.records.specs.Answers.{Answer, accepted, refused}
use Rattle.reading.specs.Reading.{reading_of}
use Rattle.clock.specs.Counters.{same_number, is_number, number_in}
use Rattle.records.specs.Refusals.{No, refusal_of}
use Rattle.desk.specs.declared.deciding.Matter as m
use Rattle.desk.specs.declared.deciding.Rule as r

-- what a telegram in a good frame is: contents refused 8 to 11; a type the master does not send on this line; r; t; another type's record
pub data What : Type 0 where
  contents : No → What
  not_master : What
  request : What
  poll : What
  other : Record → What

abbrev pub matter_of : m.Matter → What
matter_of (m.TheVariants.Contents x) = contents (refusal_of x)
matter_of m.TheVariants.NotMaster = not_master
matter_of m.TheVariants.Request = request
matter_of m.TheVariants.Poll = poll
matter_of (m.TheVariants.Other rec) = other rec

-- the rules: silent on the reading's refusal; N with 1 and a number for a checksum fault; a repeat of a number; handled, with its number
pub data Ruling : Type 0 where
  silent : No → Ruling
  fault : No → ℕ → Ruling
  repeat : ℕ → What → Ruling
  handle : ℕ → What → Ruling

abbrev pub ruling_of : r.Rule → Ruling
ruling_of (r.TheVariants.Silent x) = silent (refusal_of x)
ruling_of (r.TheVariants.Fault x n) = fault (refusal_of x) n
ruling_of (r.TheVariants.Repeat n matter) = repeat n (matter_of matter)
ruling_of (r.TheVariants.Handle n matter) = handle n (matter_of matter)

-- line good, number equal to the last taken
unfoldable pub repeats : Bool → ℕ → ℕ → Bool
repeats good last number = both good (same_number last number)

-- a type the master does not send on this line; r; t; other types
unfoldable pub matter_in : ℕ → Record → What
matter_in line rec =
    cond (by_master line (type_of rec))
    (cond (eqb (type_of rec) (code "r")) request
    (cond (eqb (type_of rec) (code "t")) poll
    (other rec)))
    not_master

-- good frame, line good, number equal to the last taken: a repeat; good frame otherwise: handled
unfoldable pub good_frame : Bool → ℕ → ℕ → What → Ruling
good_frame good last number what = cond (repeats good last number) (repeat number what) (handle number what)

-- refused 6 with number byte '0' or '1': N with 1 and that number; refused 8 to 11: a good frame, contents refused;
-- refused 1 to 5, 7, or 6 with another number byte: silent
unfoldable pub bad_frame : Bool → ℕ → No → ℕ → Ruling
bad_frame good last x byte =
    cond (eqb x.number 6)
    (cond (is_number byte) (fault x (number_in byte)) (silent x))
    (cond (from 8 11 x.number) (good_frame good last (number_in byte) (contents x))
    (silent x))

abbrev pub ruled_by : ℕ → Bool → ℕ → ℕ → Answer → Ruling
ruled_by line good last byte (accepted rec number) = good_frame good last number (matter_in line rec)
ruled_by line good last byte (refused x) = bad_frame good last x byte

-- the rule for a frame, by its reading and its number byte
unfoldable pub ruling_in : ℕ → Bool → ℕ → List ℕ → Ruling
ruling_in line good last frame = ruled_by line good last (get_or frame 4 0) (reading_of line frame)

-- the number that a rule answers with, 0 where it is silent
abbrev pub answers_with : Ruling → ℕ
answers_with (silent x) = 0
answers_with (fault x n) = n
answers_with (repeat n what) = n
answers_with (handle n what) = n
