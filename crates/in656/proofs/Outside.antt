-- No line permits the record that stands for a block with bytes in places that its record does not use. Assumes nothing.
use mathlib.Core.Path.{◌≡◌, refl}
use mathlib.Core.Bool.{false}
use mathlib.Core.List.{List}
use Prim.Native.Nat.{ℕ}
use lib.ListN.{get_or}
use Rattle.laws.specs.Truth.{All}
use Rattle.laws.specs.Numerals.{left_of}
use Rattle.laws.proofs.Passes.{on_test}
use Rattle.values.specs.Packets.{lead_of, is_decimal}
use Rattle.forms.specs.declared.rows.Form.{Form}
use Rattle.forms.specs.Forms.{forms, slots_of, slots_in, count_of}
use Rattle.forms.proofs.Found.{found-row}
use Rattle.records.specs.declared.records.Record.{Record}
use Rattle.records.specs.declared.records.Record.TheVariants.{Approved, Rejected, Request, Idling, Test, Stop, RadioFault, Fault, Position, Train, TrainData, RadioData, RadioUpdate, Transponder}
use Rattle.records.specs.Records.{type_of, letter_of, values_of, record_of}
use Rattle.values.specs.Values.{number_width, permits_value, permits_values, row_of, permits_record}
use Rattle.in656.specs.Inputs.{outside, NoneOutside}

-- the first value is the largest number of 32 bits
abbrev First : List ℕ → Type 0
First vs = get_or vs 0 0 ≡ 4294967295

-- in each row that has more digits or characters than the first packet
rows : (line kind : ℕ) (vs : List ℕ) → First vs → All (λ (f : Form). permits_values line kind (slots_of f) vs ≡ false) forms
unfolding forms slots_of slots_in count_of permits_values permits_value number_width lead_of is_decimal left_of
rows line kind vs h = (rw h, (rw h, (rw h, (rw h, (rw h, (rw h, (rw h, (rw h, (rw h, (rw h, (rw h, (rw h, (rw h, (rw h, tt))))))))))))))

refused : (line : ℕ) (r : Record) → First (values_of r) → permits_record line r ≡ false
unfolding permits_record
refused line r h =
    on_test (row_of line r).found
    (λ e. rw e (found-row (λ (f : Form). permits_values line (type_of r) (slots_of f) (values_of r) ≡ false) line (type_of r) (rows line (type_of r) (values_of r) h) (letter_of r) e).has)
    (λ e. rw e)

-- of each type
first : (r : Record) → First (values_of (outside (type_of r)))
unfolding outside record_of
first (Approved a) = refl
first (Rejected a) = refl
first (Request a) = refl
first (Idling a) = refl
first (Test a) = refl
first (Stop a) = refl
first (RadioFault a) = refl
first (Fault a) = refl
first (Position a) = refl
first (Train a) = refl
first (TrainData a b c d) = refl
first (RadioData k) = refl
first (RadioUpdate k a) = refl
first (Transponder k a b c d) = refl

pub none-outside : NoneOutside
none-outside line r = refused line (outside (type_of r)) (first r)
