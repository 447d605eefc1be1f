-- The data field: its packets, what checks 9 to 11 find, and its values (rules L5, R9 to R11). Assumes nothing.
use Rattle.std.specs.Prelude.{◌≡◌, ℕ, zero, suc, Bool, ◌+◌, cond, List, [], ◌∷◌, ◌++◌, eqb, length, get_or, take, drop, Option, None, Some}
use denote.Param.Members.{Shared}
use denote.Ref.{Bor}
use Rattle.characters.specs.Characters.{in_set}
use Rattle.forms.specs.Forms.{Slot, slots_of, width_of}
use Rattle.values.specs.Values.{text_of, value_of, permitted}
use Rattle.forms.specs.declared.rows.Form.{Form}

-- the data field of packets with these values: each a letter and then its value
unfoldable pub data_of : List Slot → List ℕ → List ℕ
data_of [] vs = []
data_of (p ∷ ps) vs = p.letter ∷ (text_of p.letter p.len (get_or vs 0 0) ++ data_of ps (drop 1 vs))

-- the place behind a packet, and what stands from there on
abbrev pub behind : Slot → ℕ → ℕ
behind p at = at + (1 + p.len)

abbrev pub data_behind : Slot → List ℕ → List ℕ
data_behind p d = drop (1 + p.len) d

-- the characters of the packet that d begins with
abbrev pub packet_value : Slot → List ℕ → List ℕ
packet_value p d = take p.len (drop 1 d)

-- a closure on a letter and characters answers as a test of them does
abbrev pub AnswersAs : {F : Type 0} → Shared F (ℕ × (Bor (List ℕ) × Unit {0})) Bool → F → (ℕ → List ℕ → Bool) → Type 0
AnswersAs g f test = (letter : ℕ) (packet : Bor (List ℕ)) (b : Bool) → g.post f (letter, (packet, tt)) b → b ≡ test letter packet.now

-- the first packet whose letter and characters, its own letter first, fail a test
unfoldable pub first_packet : (ℕ → List ℕ → Bool) → ℕ → List Slot → List ℕ → Option ℕ
first_packet test at [] d = None
first_packet test at (p ∷ ps) d = cond (test p.letter (take (1 + p.len) d)) (first_packet test (behind p at) ps (data_behind p d)) (Some at)

-- the first byte outside the set
unfoldable pub outside : ℕ → List ℕ → Option ℕ
outside at [] = None
outside at (b ∷ bs) = cond (in_set b) (outside (at + 1) bs) (Some at)

-- the first packet letter that is not the form's
unfoldable pub wrong_letter : ℕ → List Slot → List ℕ → Option ℕ
wrong_letter at [] d = None
wrong_letter at (p ∷ ps) d = cond (eqb (get_or d 0 0) p.letter) (wrong_letter (behind p at) ps (data_behind p d)) (Some at)

-- the letter of the first packet whose value is not permitted
unfoldable pub bad_value : ℕ → ℕ → ℕ → List Slot → List ℕ → Option ℕ
bad_value line kind at [] d = None
bad_value line kind at (p ∷ ps) d = cond (permitted line kind p.letter (packet_value p d)) (bad_value line kind (behind p at) ps (data_behind p d)) (Some at)

-- the packets' values, with 0 in the places behind them, n in all
unfoldable pub values_in : ℕ → List Slot → List ℕ → List ℕ
values_in zero ps d = []
values_in (suc n) [] d = 0 ∷ values_in n [] d
values_in (suc n) (p ∷ ps) d = value_of p.letter (packet_value p d) ∷ values_in n ps (data_behind p d)

-- data field of another length (place 5), or a packet letter wrong
unfoldable pub misshapen : Form → List ℕ → Option ℕ
misshapen f d = cond (eqb (length d) (width_of f)) (wrong_letter 5 (slots_of f) d) (Some 5)
