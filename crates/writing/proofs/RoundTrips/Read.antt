-- Bytes that were accepted: what they carry is permitted, and its telegram is those bytes. Assumes nothing.
use mathlib.Core.Path.{◌≡◌}
use mathlib.Core.Bool.{true}
use mathlib.Core.List.{List}
use Prim.Native.Nat.{ℕ, ◌-◌}
use Prim.Native.Char.{code}
use lib.ListN.{get_or}
use Rattle.laws.proofs.Truths.{both_true}
use Rattle.forms.specs.Lines.{is_line}
use Rattle.forms.specs.Forms.{Slot, slots_of}
use Rattle.records.specs.Records.{type_of, values_of}
use Rattle.forms.proofs.Found.{found-line, found-again}
use Rattle.values.specs.Values.{row_of, permits_record}
use Rattle.reading.specs.Frame.{field_of}
use Rattle.reading.specs.Contents.{row_in, values_in}
use Rattle.reading.specs.Reading.{record_in}
use Rattle.writing.specs.Writing.{telegram_of}
use Rattle.writing.proofs.RoundTrips.Rows.{Row, row}
use Rattle.writing.proofs.RoundTrips.Fields.{values-permitted, values-data}
use Rattle.writing.proofs.RoundTrips.Records.{values-again}
use Rattle.writing.proofs.RoundTrips.Frames.{Framed, framed-frame}
use Rattle.writing.proofs.RoundTrips.Checks.{Carried}

module _ (line : ℕ) (s : List ℕ) (f : Framed s) (c : Carried line s) where
  -- the telegram's type, its packets and what the table says of its form
  abbrev kind : ℕ
  kind = get_or s 3 0

  abbrev slots : List Slot
  slots = slots_of (row_in line s).form

  known : Row kind (row_in line s).form
  known = row line kind (get_or s 5 0) c.found

  -- its type is on the line, so there is such a line
  lined : is_line line ≡ true
  lined = found-line line kind (get_or s 5 0) c.found

  -- the record has the telegram's type and values
  carried-type : type_of (record_in line s) ≡ kind
  unfolding record_in
  carried-type = known.type (values_in 10 slots (field_of s))

  -- its type and first letter find the telegram's row again
  carried_row : row_of line (record_in line s) ≡ row_in line s
  unfolding record_in
  carried_row = rw (carried-type, known.letter (values_in 10 slots (field_of s))) (found-again line kind (get_or s 5 0) c.found)

  carried-values : values_of (record_in line s) ≡ values_in 10 slots (field_of s)
  unfolding record_in
  carried-values = values-again line kind (get_or s 5 0) (field_of s) c.found

  -- so it is permitted
  pub carried-permitted : permits_record line (record_in line s) ≡ true
  unfolding permits_record
  carried-permitted =
      rw (carried_row, carried-type, carried-values)
      (both_true _ _ c.found (values-permitted line kind lined 10 5 slots (field_of s) known.few known.values-narrow c.clear))

  -- and its telegram is those bytes
  pub carried-telegram : telegram_of line (record_in line s) (get_or s 4 0 - code "0") ≡ s
  unfolding telegram_of
  carried-telegram =
      rw (carried_row, carried-type, carried-values, values-data line kind lined 10 5 slots (field_of s) known.few known.values-narrow c.clear)
      (framed-frame s f)
