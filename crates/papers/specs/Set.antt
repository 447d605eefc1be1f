-- The limited character set (rules B7 and B8), listed and counted, and the table's letters in it. Assumes nothing.
use Rattle.std.specs.Prelude.{◌≡◌, Bool, true, false, cond, not, List, [], ◌∷◌, ◌++◌, ℕ, zero, suc, ◌≤◌, length}
use Rattle.laws.specs.Truth.{both, one_of, every}
use Rattle.laws.specs.Text.{codes}
use Rattle.characters.specs.Characters.{in_set}
use Rattle.forms.specs.Lines.{is_line}
use Rattle.forms.specs.Forms.{forms, Slot, slots_of}
use Rattle.forms.specs.declared.rows.Form.{Form}
use Rattle.values.specs.Packets.{permits}

-- the codes of document 01, one by one
abbrev pub codes_listed : List ℕ
codes_listed = codes "%()-:+ 0123456789ABCDEFGHIJKLMNOPQRSTUVWXYZabcdefghijklmnopqrstuvwxyz" ++ 0x5B ∷ 0x5C ∷ 0x5D ∷ 0x7B ∷ 0x7C ∷ 0x7D ∷ []

-- the ranges say of every byte what the list says
abbrev pub AsListed : Type 0
AsListed = (b : ℕ) → in_set b ≡ one_of codes_listed b

-- how many numbers under n pass a test
abbrev pub how_many : (ℕ → Bool) → ℕ → ℕ
how_many p zero = 0
how_many p (suc n) = cond (p n) (suc (how_many p n)) (how_many p n)

-- the set has 75 codes
abbrev pub SeventyFive : Type 0
SeventyFive = how_many in_set 128 ≡ 75

-- no number stands twice in a list
abbrev pub none_twice : List ℕ → Bool
none_twice [] = true
none_twice (k ∷ ks) = both (not (one_of ks k)) (none_twice ks)

-- the list has as many, and none of them twice
abbrev pub ListedOnce : Type 0
ListedOnce = (length codes_listed ≡ 75) × (none_twice codes_listed ≡ true)

-- no byte from 80 hex on is one
abbrev pub NoneFrom128 : Type 0
NoneFrom128 = (b : ℕ) → 128 ≤ b → in_set b ≡ false

-- the row ^ has no code in 001 and is not valid
abbrev pub NoCaret : Type 0
NoCaret = in_set 0x5E ≡ false

-- a form's type and its packets' letters are of the set
abbrev pub letters_in : Form → Bool
letters_in f = both (in_set f.kind) (every (λ (p : Slot). in_set p.letter) (slots_of f))

abbrev pub LettersInSet : Type 0
LettersInSet = every letters_in forms ≡ true

-- every permitted byte of a value is a character of the set
abbrev pub PermittedInSet : Type 0
PermittedInSet = (line kind letter at b : ℕ) → is_line line ≡ true → permits line kind letter at b ≡ true → in_set b ≡ true
