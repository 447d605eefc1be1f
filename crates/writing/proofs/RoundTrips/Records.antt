-- What a permitted record has, and that the values of a record that was read are those it was made of. Assumes nothing.
use mathlib.Core.Path.{◌≡◌, refl}
use mathlib.Core.Bool.{true}
use mathlib.Core.List.{List}
use Prim.Native.Nat.{ℕ}
use Rattle.laws.specs.Truth.{All}
use Rattle.laws.proofs.Truths.{both_left, both_right}
use Rattle.forms.specs.Lines.{is_line}
use Rattle.forms.specs.Forms.{forms, form_of, slots_in, count_of, slots_of}
use Rattle.records.specs.Records.{type_of, letter_of, values_of, record_of}
use Rattle.values.specs.Values.{row_of, permits_values, permits_record}
use Rattle.records.specs.declared.records.Record.{Record}
use Rattle.forms.specs.declared.rows.Form.{Form}
use Rattle.forms.proofs.Found.{found-row, found-line}
use Rattle.reading.specs.Contents.{values_in}

module _ (line : ℕ) (r : Record) (h : permits_record line r ≡ true) where
  -- the type of a permitted record is on the line
  pub permitted-found : (row_of line r).found ≡ true
  unfolding permits_record
  permitted-found = both_left _ _ h

  -- so its line is 1, 2 or 3
  pub permitted-line : is_line line ≡ true
  permitted-line = found-line line (type_of r) (letter_of r) permitted-found

  -- and its values are permitted
  pub permitted-values : permits_values line (type_of r) (slots_of (row_of line r).form) (values_of r) ≡ true
  unfolding permits_record
  permitted-values = both_right (row_of line r).found _ h

-- the values of the record that a row's packets make are those packets' values
abbrev Again : Form → Type 0
Again f = (d : List ℕ) → values_of (record_of f.kind (values_in 10 (slots_of f) d)) ≡ values_in 10 (slots_of f) d

-- for each row by computing
again : All Again forms
unfolding forms slots_in count_of slots_of record_of values_in
again = (
  λ d. refl,
  (
    λ d. refl,
    (
      λ d. refl,
      (
        λ d. refl,
        (
          λ d. refl,
          (
            λ d. refl,
            (λ d. refl, (λ d. refl, (λ d. refl, (λ d. refl, (λ d. refl, (λ d. refl, (λ d. refl, (λ d. refl, tt)))))))),
          ),
        ),
      ),
    ),
  ),
)

-- the values of a record that was read are those that it was made of
pub values-again : (line kind letter : ℕ) (d : List ℕ) → (form_of line kind letter).found ≡ true
    → values_of (record_of kind (values_in 10 (slots_of (form_of line kind letter).form) d)) ≡ values_in 10 (slots_of (form_of line kind letter).form) d
values-again line kind letter d h = let r = found-row Again line kind again letter h in rw r.of-type at (r.has d)
