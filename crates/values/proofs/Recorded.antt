-- What is found of a record on a line. Assumes nothing.
use mathlib.Core.Path.{◌≡◌, ap, ◌∙◌, subst}
use mathlib.Core.Bool.{true, false, cond}
use mathlib.Core.List.{List}
use Prim.Native.Nat.{ℕ, ◌+◌}
use Rattle.forms.specs.Forms.{Looked, form_of, slots_of, width_of}
use Rattle.values.specs.Values.{row_of, permits_values, permits_record, length_of}
use Rattle.records.specs.Records.{type_of, letter_of, values_of}
use Rattle.records.specs.declared.records.Record.{Record}

-- the row that was looked up by a record's type and letter is its row
pub record-looked : (line : ℕ) (rec : Record) (k letter : ℕ) (looked : Looked) → k ≡ type_of rec → letter ≡ letter_of rec → looked ≡ form_of line k letter → looked ≡ row_of line rec
record-looked line rec k letter looked e l f = f ∙ ap (λ (x : ℕ). form_of line x letter) e ∙ ap (λ (x : ℕ). form_of line (type_of rec) x) l

module _ (line : ℕ) (rec : Record) (looked : Looked) (row : looked ≡ row_of line rec) where
  pub length-row : looked.found ≡ true → 8 + width_of looked.form ≡ length_of line rec
  unfolding length_of
  length-row h = subst (λ (l : Looked). 8 + width_of looked.form ≡ cond l.found (8 + width_of l.form) 0) row (rw h)

  pub record-row : (k : ℕ) (vs : List ℕ) → k ≡ type_of rec → vs ≡ values_of rec → looked.found ≡ true → permits_values line k (slots_of looked.form) vs ≡ permits_record line rec
  unfolding permits_record
  record-row k vs e g h =
      subst (λ (l : Looked). permits_values line k (slots_of looked.form) vs ≡ cond l.found (permits_values line (type_of rec) (slots_of l.form) (values_of rec)) false) row
      (rw h (ap (λ (x : ℕ). permits_values line x (slots_of looked.form) vs) e ∙ ap (λ (x : List ℕ). permits_values line (type_of rec) (slots_of looked.form) x) g))
