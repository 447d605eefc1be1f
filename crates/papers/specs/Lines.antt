-- The table of forms has the lines and senders of rules L1 to L3. Assumes nothing.
use Rattle.std.specs.Prelude.{◌≡◌, Bool, true, false, cond, not, List, [], ◌∷◌, map, ℕ, eqb, get_or}
use Prim.Native.String.{String}
use Rattle.laws.specs.Truth.{both, one_of, every, All, implies}
use Rattle.laws.specs.Text.{codes}
use Rattle.forms.specs.Lines.{line_numbers, is_line}
use Rattle.forms.specs.Forms.{forms, on_line, form_of, by_master, by_slave, data_type}
use Rattle.forms.specs.declared.rows.Form.{Form}

-- a line: what the master sends and what the slave sends
pub record Senders : Type 0 where
  pub line : ℕ
  pub masters : List ℕ
  pub slaves : List ℕ

abbrev pub joins : ℕ → String → String → Senders
joins line masters slaves = record { line = line; masters = codes masters; slaves = codes slaves }

-- the paper's table; the slave's data type comes first
abbrev pub paper : List Senders
paper =
    joins 1 "cFGrt" "BAN" ∷
    joins 2 "1Frt" "5AN" ∷
    joins 3 "Oonrt" "KAN" ∷
    []

-- there are the lines of the paper, with its numbers
abbrev pub SameNumbers : Type 0
SameNumbers = map (λ (l : Senders). l.line) paper ≡ line_numbers

-- a form on a line is sent by the end that lists its type
abbrev pub listed_by : Senders → Form → Bool
listed_by l f = implies (on_line f l.line) (one_of (cond f.master l.masters l.slaves) f.kind)

-- the table of forms and the paper's line agree
pub record Agrees (l : Senders) : Type 0 where
  -- the master sends each type that the paper lists for it
  pub masters-sent : every (by_master l.line) l.masters ≡ true
  -- and the slave each that it lists for the slave
  pub slaves-sent : every (by_slave l.line) l.slaves ≡ true
  -- each form on the line is listed for the end that sends it
  pub rows-listed : every (listed_by l) forms ≡ true
  -- the slave's data type is B, 5 or K
  pub data-type : data_type l.line ≡ get_or l.slaves 0 0

abbrev pub SameLines : Type 0
SameLines = All Agrees paper

-- two rows of one line are of two types
abbrev pub differ : ℕ → Form → Form → Bool
differ line f g = not (both (both (on_line f line) (on_line g line)) (eqb f.kind g.kind))

abbrev pub apart : ℕ → List Form → Bool
apart line [] = true
apart line (f ∷ fs) = both (every (differ line f) fs) (apart line fs)

-- so no type has two rows on a line
abbrev pub NoTwoRows : Type 0
NoTwoRows = every (λ (l : Senders). apart l.line forms) paper ≡ true

-- of every byte: an end sends it as a type just where the paper lists it for that end
pub record Exact (l : Senders) : Type 0 where
  pub by-master : (b : ℕ) → by_master l.line b ≡ one_of l.masters b
  pub by-slave : (b : ℕ) → by_slave l.line b ≡ one_of l.slaves b

abbrev pub ExactLines : Type 0
ExactLines = All Exact paper

-- no type is on another line
abbrev pub NoOtherLine : Type 0
NoOtherLine = (line kind letter : ℕ) → is_line line ≡ false → (form_of line kind letter).found ≡ false
