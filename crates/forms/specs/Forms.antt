-- What the table of forms says of a type on a line (rules L1 to L19). Assumes nothing.
use Rattle.std.specs.Prelude.{ℕ, zero, suc, ◌+◌, ◌-◌, List, [], ◌∷◌, map, Bool, true, false, cond, not, eqb, ltb, get_or, drop, Option, Some, None}
use Prim.Native.Char.{code}
use Rattle.laws.specs.Truth.{both, pad}
use Rattle.forms.specs.declared.rows.Form.{Form}
unfoldable pub use Rattle.forms.specs.Rows.{forms}
use Rattle.forms.specs.declared.lines.Line.{Line}
use Rattle.forms.specs.Lines.{lines, is_line}

-- what stands for a row where none was found
abbrev pub none : Form
none = record { kind = 0; lines = map (λ (l : Line). false) lines; master = false; count = 0; letters = pad 10 []; lens = pad 10 [] }

unfoldable pub on_line : Form → ℕ → Bool
on_line f line = cond (is_line line) (get_or f.lines (line - 1) false) false

-- a form of a type on a line
abbrev pub of_type : ℕ → ℕ → Form → Bool
of_type line kind f = both (eqb f.kind kind) (on_line f line)

-- the letter of its first packet
abbrev pub first_letter : Form → ℕ
first_letter f = get_or f.letters 0 0

-- a form of a type on a line whose first packet has a letter
abbrev pub of_letter : ℕ → ℕ → ℕ → Form → Bool
of_letter line kind letter f = both (eqb (first_letter f) letter) (of_type line kind f)

-- the slave's data on a line: the slave sends it, and it is neither A nor N
abbrev pub is_data : ℕ → Form → Bool
is_data line f =
    cond f.master false
    (cond (eqb f.kind (code "A")) false
    (cond (eqb f.kind (code "N")) false
    (on_line f line)))

-- a row that was looked for: whether there is one, and it, or what stands for it
pub record Looked : Type 0 where
  pub found : Bool
  pub form : Form

-- the same of a row that may be missing
abbrev pub looked_of : Option Form → Looked
looked_of None = record { found = false; form = none }
looked_of (Some f) = record { found = true; form = f }

-- the first row that passes a test
unfoldable pub look_in : List Form → (Form → Bool) → Looked
look_in [] test = record { found = false; form = none }
look_in (f ∷ fs) test = cond (test f) (record { found = true; form = f }) (look_in fs test)

-- what was found, or else what another search finds
abbrev pub or_else : Looked → Looked → Looked
or_else l m = cond l.found l m

-- the first row of a type on a line
unfoldable pub type_row : ℕ → ℕ → Looked
type_row line kind = look_in forms (of_type line kind)

-- the row of a type on a line by the letter of its first packet; where no row has the letter, the type's first row
unfoldable pub form_of : ℕ → ℕ → ℕ → Looked
form_of line kind letter = or_else (look_in forms (of_letter line kind letter)) (type_row line kind)

-- who sends a type on a line
abbrev pub by_master : ℕ → ℕ → Bool
by_master line kind = both (type_row line kind).found (type_row line kind).form.master

abbrev pub by_slave : ℕ → ℕ → Bool
by_slave line kind = both (type_row line kind).found (not (type_row line kind).form.master)

-- the slave's data type on a line: B, 5 or K
unfoldable pub data_type : ℕ → ℕ
data_type line = (look_in forms (is_data line)).form.kind

-- a packet of a form: its letter, and how long its value is
pub record Slot : Type 0 where
  pub letter : ℕ
  pub len : ℕ

-- n packets, of these letters and lengths
unfoldable pub slots_in : ℕ → List ℕ → List ℕ → List Slot
slots_in zero letters lens = []
slots_in (suc n) letters lens = record { letter = get_or letters 0 0; len = get_or lens 0 0 } ∷ slots_in n (drop 1 letters) (drop 1 lens)

-- how many packets a form has, at most ten
unfoldable pub count_of : Form → ℕ
count_of f = cond (ltb 10 f.count) 10 f.count

-- the packets of a form, in order
unfoldable pub slots_of : Form → List Slot
slots_of f = slots_in (count_of f) f.letters f.lens

-- how many bytes packets fill
unfoldable pub width_in : List Slot → ℕ
width_in [] = 0
width_in (p ∷ ps) = 1 + p.len + width_in ps

unfoldable pub width_of : Form → ℕ
width_of f = width_in (slots_of f)
