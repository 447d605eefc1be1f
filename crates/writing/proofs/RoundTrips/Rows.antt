-- What the table of forms says of a row that it finds: each row passes the same tests, computed once. Assumes nothing.
use mathlib.Core.Path.{◌≡◌, refl}
use mathlib.Core.Bool.{Bool, true}
use mathlib.Core.List.{List, [], ◌∷◌}
use Prim.Native.Nat.{ℕ, ◌≤◌}
use lib.Dec.{eqb, leb}
use lib.ListN.{length, get_or}
use borrow.Author.Tests.{eqb-true, leb-true}
use Rattle.laws.specs.Truth.{every, All}
use Rattle.laws.proofs.Passes.{every-all}
use Rattle.characters.specs.Characters.{in_set}
use Rattle.forms.specs.Forms.{Slot, forms, first_letter, form_of, slots_in, count_of, slots_of, width_in, width_of}
use Rattle.records.specs.Records.{type_of, letter_of, fields_of, record_of}
use Rattle.values.specs.Packets.{is_decimal}
use Rattle.values.specs.Values.{narrow}
use Rattle.forms.specs.declared.rows.Form.{Form}
use Rattle.forms.proofs.Found.{Found, found-row}

-- what stands for a packet where there is none
abbrev pub no_slot : Slot
no_slot = record { letter = 0; len = 0 }

-- a packet's value is a number of 32 bits
abbrev pub narrow_slot : Slot → Bool
narrow_slot p = narrow p.letter p.len

-- what each row passes, whatever the values of a record are
abbrev tests : List ℕ → Form → List Bool
tests vs f =
    leb 2 (width_of f) ∷
    leb (width_of f) 58 ∷
    leb (length (slots_of f)) 10 ∷
    every (λ (p : Slot). in_set p.letter) (slots_of f) ∷
    eqb (length (slots_of f)) (length (fields_of (record_of f.kind vs))) ∷
    eqb (type_of (record_of f.kind vs)) f.kind ∷
    every narrow_slot (slots_of f) ∷
    eqb (get_or (slots_of f) 0 no_slot).letter (first_letter f) ∷
    eqb (letter_of (record_of f.kind vs)) (first_letter f) ∷
    []

abbrev passing : List ℕ → Form → Bool
passing vs f = every (λ (t : Bool). t) (tests vs f)

passes : (vs : List ℕ) → every (passing vs) forms ≡ true
unfolding in_set forms slots_in count_of slots_of width_in width_of record_of narrow is_decimal
passes vs = refl

-- what the tests say of the row of a type
pub record Row (kind : ℕ) (f : Form) : Type 0 where
  pub wide : 2 ≤ width_of f
  pub narrow : width_of f ≤ 58
  pub few : length (slots_of f) ≤ 10
  pub letters : every (λ (p : Slot). in_set p.letter) (slots_of f) ≡ true
  pub count : (vs : List ℕ) → length (slots_of f) ≡ length (fields_of (record_of kind vs))
  pub type : (vs : List ℕ) → type_of (record_of kind vs) ≡ kind
  pub values-narrow : every narrow_slot (slots_of f) ≡ true
  pub first : (get_or (slots_of f) 0 no_slot).letter ≡ first_letter f
  pub letter : (vs : List ℕ) → letter_of (record_of kind vs) ≡ first_letter f

told : (f : Form) → ((vs : List ℕ) → passing vs f ≡ true) → Row f.kind f
told f h =
    record {
      wide = leb-true _ _ (a []).0;
      narrow = leb-true _ _ (a []).1.0;
      few = leb-true _ _ (a []).1.1.0;
      letters = (a []).1.1.1.0;
      count = λ vs. eqb-true _ _ (a vs).1.1.1.1.0;
      type = λ vs. eqb-true _ _ (a vs).1.1.1.1.1.0;
      values-narrow = (a []).1.1.1.1.1.1.0;
      first = eqb-true _ _ (a []).1.1.1.1.1.1.1.0;
      letter = λ vs. eqb-true _ _ (a vs).1.1.1.1.1.1.1.1.0;
    }
  where
    a : (vs : List ℕ) → All (λ (t : Bool). t ≡ true) (tests vs f)
    a vs = every-all (λ (t : Bool). t) (tests vs f) (h vs)

-- what is true of the form of a type and letter that is on a line
pub row : (line kind letter : ℕ) → (form_of line kind letter).found ≡ true → Row kind (form_of line kind letter).form
row line kind letter h = rw (r []).of-type at (told (form_of line kind letter).form (λ vs. (r vs).has))
  where
    r : (vs : List ℕ) → Found (λ (f : Form). passing vs f ≡ true) line kind (form_of line kind letter).form
    r vs = found-row (λ (f : Form). passing vs f ≡ true) line kind (every-all (passing vs) forms (passes vs)) letter h
