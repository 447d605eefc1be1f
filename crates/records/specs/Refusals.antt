-- A refusal in the paper's values: its number and its place (rules R1 to R20). Assumes nothing.
use Rattle.std.specs.Prelude.{◌≡◌, ℕ}
use Rattle.records.specs.declared.refusals.Refusal.{Refusal}
use Rattle.records.specs.declared.refusals.Refusal.TheVariants.{Short, Long, NoStart, Count, NoEnd, Checksum, Number, Kind, Character, Form, Value, NotSent, Range, NoRoom, State, Busy, Full, Mark, Length, CutOff}

-- what every answer of every definition holds of a refusal
pub record No : Type 0 where
  pub number : ℕ
  pub place : ℕ

-- as the listing prints it: no, number, place
abbrev pub no : ℕ → ℕ → No
no number place = record { number = number; place = place }

-- each case of the enum: its number, and the place that the paper fixes or that the case holds
abbrev pub refusal_of : Refusal → No
refusal_of Short = no 1 0
refusal_of Long = no 2 0
refusal_of NoStart = no 3 0
refusal_of Count = no 4 1
refusal_of (NoEnd place) = no 5 place
refusal_of (Checksum place) = no 6 place
refusal_of Number = no 7 4
refusal_of Kind = no 8 3
refusal_of (Character place) = no 9 place
refusal_of (Form place) = no 10 place
refusal_of (Value place) = no 11 place
refusal_of NotSent = no 12 0
refusal_of Range = no 13 0
refusal_of NoRoom = no 14 0
refusal_of State = no 15 0
refusal_of Busy = no 16 0
refusal_of Full = no 17 0
refusal_of (Mark place) = no 18 place
refusal_of (Length place) = no 19 place
refusal_of (CutOff place) = no 20 place

-- number and place tell the refusals apart
abbrev pub OneRefusal : Type 0
OneRefusal = (x y : Refusal) → refusal_of x ≡ refusal_of y → x ≡ y
