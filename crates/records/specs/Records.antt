-- A record's type and values, and the record of a type and values (rules L6 to L19, V18). Assumes nothing.
use Rattle.std.specs.Prelude.{◌≡◌, ℕ, cond, List, [], ◌∷◌, eqb, get_or}
use Prim.Native.Char.{code}
use Rattle.laws.specs.Truth.{pad}
use Rattle.records.specs.declared.records.Radio.{Radio}
use Rattle.records.specs.declared.records.Record.{Record}
use Rattle.records.specs.declared.records.Record.TheVariants.{Approved, Rejected, Request, Idling, Test, Stop, RadioFault, Fault, Position, Train, TrainData, RadioData, RadioUpdate, Transponder}

-- the type letter (001 section 5.2)
abbrev pub type_of : Record → ℕ
type_of (Approved a) = code "A"
type_of (Rejected n) = code "N"
type_of (Request b) = code "r"
type_of (Idling b) = code "t"
type_of (Test m) = code "c"
type_of (Stop u) = code "5"
type_of (RadioFault s) = code "o"
type_of (Fault e) = code "G"
type_of (Position p) = code "F"
type_of (Train t) = code "n"
type_of (TrainData l p h r) = code "B"
type_of (RadioData k) = code "K"
type_of (RadioUpdate k t) = code "O"
type_of (Transponder k w x y z) = code "1"

-- the letter of the first packet (rules L6 to L19)
abbrev pub letter_of : Record → ℕ
letter_of (Approved a) = code "A"
letter_of (Rejected n) = code "N"
letter_of (Request b) = code "B"
letter_of (Idling b) = code "B"
letter_of (Test m) = code "m"
letter_of (Stop u) = code "U"
letter_of (RadioFault s) = code "S"
letter_of (Fault e) = code "E"
letter_of (Position p) = code "P"
letter_of (Train t) = code "T"
letter_of (TrainData l p h r) = code "L"
letter_of (RadioData k) = code "F"
letter_of (RadioUpdate k t) = code "F"
letter_of (Transponder k w x y z) = code "F"

-- F D C M V P
abbrev pub radio_values : Radio → List ℕ → List ℕ
radio_values k more = k.fc ∷ k.d ∷ k.c ∷ k.mode ∷ k.watch ∷ k.position ∷ more

-- a number for each packet of the record's form, in order
abbrev pub fields_of : Record → List ℕ
fields_of (Approved a) = a ∷ []
fields_of (Rejected n) = n ∷ []
fields_of (Request b) = b ∷ []
fields_of (Idling b) = b ∷ []
fields_of (Test m) = m ∷ []
fields_of (Stop u) = u ∷ []
fields_of (RadioFault s) = s ∷ []
fields_of (Fault e) = e ∷ []
fields_of (Position p) = p ∷ []
fields_of (Train t) = t ∷ []
fields_of (TrainData l p h r) = l ∷ p ∷ h ∷ r ∷ []
fields_of (RadioData k) = radio_values k []
fields_of (RadioUpdate k t) = radio_values k (t ∷ [])
fields_of (Transponder k w x y z) = radio_values k (w ∷ x ∷ y ∷ z ∷ [])

-- the same with 0 in the places behind them, as many as the longest form has
abbrev pub values_of : Record → List ℕ
values_of r = pad 10 (fields_of r)

abbrev pub radio_of : List ℕ → Radio
radio_of v =
    record {
      fc = get_or v 0 0;
      d = get_or v 1 0;
      c = get_or v 2 0;
      mode = get_or v 3 0;
      watch = get_or v 4 0;
      position = get_or v 5 0;
    }

-- the record of a type letter and values
unfoldable pub record_of : ℕ → List ℕ → Record
record_of kind v =
    cond (eqb kind (code "N")) (Rejected (get_or v 0 0))
    (cond (eqb kind (code "r")) (Request (get_or v 0 0))
    (cond (eqb kind (code "t")) (Idling (get_or v 0 0))
    (cond (eqb kind (code "c")) (Test (get_or v 0 0))
    (cond (eqb kind (code "5")) (Stop (get_or v 0 0))
    (cond (eqb kind (code "o")) (RadioFault (get_or v 0 0))
    (cond (eqb kind (code "G")) (Fault (get_or v 0 0))
    (cond (eqb kind (code "F")) (Position (get_or v 0 0))
    (cond (eqb kind (code "n")) (Train (get_or v 0 0))
    (cond (eqb kind (code "B")) (TrainData (get_or v 0 0) (get_or v 1 0) (get_or v 2 0) (get_or v 3 0))
    (cond (eqb kind (code "K")) (RadioData (radio_of v))
    (cond (eqb kind (code "O")) (RadioUpdate (radio_of v) (get_or v 6 0))
    (cond (eqb kind (code "1")) (Transponder (radio_of v) (get_or v 6 0) (get_or v 7 0) (get_or v 8 0) (get_or v 9 0))
    (Approved (get_or v 0 0))))))))))))))

-- every record is the record of its own type and values
abbrev pub RecordAgain : Type 0
RecordAgain = (r : Record) → record_of (type_of r) (values_of r) ≡ r
