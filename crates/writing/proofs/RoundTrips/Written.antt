-- The telegram of a permitted record: it passes checks 1 to 11, carries the record and has the form's length. Assumes nothing.
use Rattle.std.specs.Prelude.{None}
use mathlib.Core.Path.{◌≡◌}
use mathlib.Core.Bool.{true}
use mathlib.Core.List.{List}
use Prim.Native.Nat.{ℕ, ◌+◌, ◌-◌, ◌<◌}
use Prim.Native.Char.{code}
use native.Mathlib.Omega.{arith}
use lib.ListN.{length, get_or}
use Rattle.forms.specs.Forms.{Slot, slots_of, width_of}
use Rattle.forms.proofs.Found.{found-again}
use Rattle.records.specs.Records.{type_of, letter_of, fields_of, values_of}
use Rattle.records.proofs.Again.{record-again}
use Rattle.values.specs.Values.{row_of, permits_record}
use Rattle.records.specs.declared.records.Record.{Record}
use Rattle.reading.specs.Contents.{row_in, data_of, outside, values_in}
use Rattle.reading.specs.Reading.{record_in}
use Rattle.writing.specs.Writing.{telegram_of}
use Rattle.writing.proofs.RoundTrips.Rows.{Row, row}
use Rattle.writing.proofs.RoundTrips.Fields.{Clear, set-inside, data-length, data-first, data-letters, data-set, data-permitted, data-values}
use Rattle.writing.proofs.RoundTrips.Records.{permitted-found, permitted-line, permitted-values}
use Rattle.writing.proofs.RoundTrips.Frames.{Framed, frame-length, frame-kind, frame-letter, frame-number, frame-field, frame-framed}
use Rattle.writing.proofs.RoundTrips.Checks.{Carried}

module _ (line : ℕ) (rec : Record) (h : permits_record line rec ≡ true) where
  -- the packets of the record and its data field
  abbrev slots : List Slot
  slots = slots_of (row_of line rec).form

  abbrev field : List ℕ
  field = data_of slots (values_of rec)

  -- what the table says of its form
  known : Row (type_of rec) (row_of line rec).form
  known = row line (type_of rec) (letter_of rec) (permitted-found line rec h)

  -- the field fills the form
  field-length : length field ≡ width_of (row_of line rec).form
  unfolding width_of
  field-length = data-length slots (values_of rec)

  -- the values are read back from their packets
  field-values : values_in 10 slots field ≡ values_of rec
  field-values =
      let e : length slots ≡ length (fields_of rec) = rw (record-again rec) at (known.count (values_of rec)) in
      data-values line (type_of rec) 10 slots (fields_of rec) e known.values-narrow (permitted-values line rec h)

  -- its bytes are of the set, its letters the form's and its values permitted
  field-inside : outside 5 field ≡ None
  field-inside =
      set-inside 5 field (data-set line (type_of rec) slots (values_of rec) (permitted-line line rec h) known.letters known.values-narrow (permitted-values line rec h))

  field-clear : Clear line (type_of rec) 5 slots field
  field-clear =
      record {
        filled = data-length slots (values_of rec);
        letters = data-letters 5 slots (values_of rec);
        values = data-permitted line (type_of rec) 5 slots (values_of rec) known.values-narrow (permitted-values line rec h);
      }

  -- the telegram's type and first letter find the record's row again
  pub written_row : (number : ℕ) → row_in line (telegram_of line rec number) ≡ row_of line rec
  unfolding telegram_of
  written_row number =
      let some : 0 < length field = omega (arith, field-length, known.wide) in
      rw (frame-kind (type_of rec) number field, frame-letter (type_of rec) number field some, data-first slots (values_of rec), known.first)
      (found-again line (type_of rec) (letter_of rec) (permitted-found line rec h))

  -- checks 8 to 11 find no fault in the telegram
  pub written-carried : (number : ℕ) → Carried line (telegram_of line rec number)
  unfolding telegram_of
  written-carried number =
      record {
        found = rw (written_row number) (permitted-found line rec h);
        inside = rw (frame-field (type_of rec) number field) field-inside;
        clear = rw (written_row number, frame-kind (type_of rec) number field, frame-field (type_of rec) number field) field-clear;
      }

  -- and it carries the record
  pub written-carries : (number : ℕ) → record_in line (telegram_of line rec number) ≡ rec
  unfolding telegram_of record_in
  written-carries number = rw (written_row number, frame-kind (type_of rec) number field, frame-field (type_of rec) number field, field-values) (record-again rec)

  -- its length is the form's width and 8 more
  pub written-length : (number : ℕ) → length (telegram_of line rec number) ≡ 8 + width_of (row_of line rec).form
  unfolding telegram_of
  written-length number = omega (arith, frame-length (type_of rec) number field, field-length)

  -- checks 1 to 7 find no fault in it
  pub written-framed : (number : ℕ) → number < 2 → Framed (telegram_of line rec number)
  unfolding telegram_of
  written-framed number n =
      frame-framed (type_of rec) number field (omega (arith, field-length, known.wide)) (omega (arith, field-length, known.narrow)) n

  -- and it carries the number
  pub written-number : (number : ℕ) → get_or (telegram_of line rec number) 4 0 - code "0" ≡ number
  unfolding telegram_of
  written-number number = omega (arith, frame-number (type_of rec) number field)
