-- The refusals of writing, one after the other, and what is written. Assumes nothing.
use Rattle.std.specs.Prelude.{None, Some}
use mathlib.Core.Path.{◌≡◌, refl, sym, ◌∙◌}
use mathlib.Core.Bool.{Bool, true, false, cond}
use mathlib.Core.List.{List, ◌++◌}
use Prim.Native.Nat.{ℕ, ◌+◌, ◌≤◌, ◌<◌}
use native.Mathlib.Omega.{arith}
use lib.Dec.{ltb, leb}
use lib.ListN.{length, drop}
use borrow.Author.Tests.{lt-ltb, le-ltb, le-leb, lt-leb}
use Rattle.records.specs.Refusals.{no}
use Rattle.laws.specs.Truth.{both}
use Rattle.forms.specs.Lines.{is_line}
use Rattle.forms.specs.declared.rows.Form.{Form}
use Rattle.forms.specs.Forms.{Looked, looked_of, form_of, slots_of, width_of}
use Rattle.records.specs.Records.{type_of, letter_of, values_of}
use Rattle.values.specs.Values.{row_of, permits_values, permits_record, length_of}
use Rattle.values.proofs.Recorded.{record-looked, record-row}
use Rattle.records.specs.declared.records.Record.{Record}
use Rattle.records.specs.Answers.{written, refused, Write}
use Rattle.reading.specs.Frame.{frame_of}
use Rattle.reading.specs.Contents.{data_of}
use Rattle.writing.specs.Writing.{telegram_of, writing_of}

small : {n : ℕ} → n ≤ 1 → n < 2
small h = omega arith

-- the outcome for a row that was looked up
unfoldable result : ℕ → ℕ → Looked → List ℕ → Bool → Bool → ℕ → List ℕ → Write
result line kind l vs lined permits number out =
    cond lined
    (cond l.found
    (cond (both permits (ltb number 2))
    (cond (leb (cond l.found (8 + width_of l.form) 0) (length out))
    (written (cond l.found (8 + width_of l.form) 0), frame_of kind number (data_of (slots_of l.form) vs) ++ drop (cond l.found (8 + width_of l.form) 0) out)
    (refused (no 14 0), out))
    (refused (no 13 0), out))
    (refused (no 12 0), out))
    (refused (no 15 0), out)

whole : (line : ℕ) (rec : Record) (number : ℕ) (out : List ℕ)
    → result line (type_of rec) (row_of line rec) (values_of rec) (is_line line) (permits_record line rec) number out ≡ writing_of line rec number out
unfolding result writing_of length_of telegram_of
whole line rec number out = refl

pub no_line : (line : ℕ) (rec : Record) (number : ℕ) (out : List ℕ) → is_line line ≡ false → (refused (no 15 0), out) ≡ writing_of line rec number out
unfolding writing_of
no_line line rec number out h = rw h

-- the calls of `write`: the line is one, and the row is looked up by the record's type and letter
module _ (line : ℕ) (rec : Record) (number : ℕ) (out : List ℕ) {kind letter : ℕ} {lined : Bool}
    (a : lined ≡ is_line line) (l : lined ≡ true) (e : kind ≡ type_of rec) (f : letter ≡ letter_of rec) where
  same : (looked : Looked) (vs : List ℕ) (p : Bool) → looked ≡ form_of line kind letter → vs ≡ values_of rec → permits_record line rec ≡ p
      → result line kind looked vs true p number out ≡ writing_of line rec number out
  same looked vs p r g h =
      let w = whole line rec number out in
      let row = record-looked line rec kind letter looked e f r in
      cc

  pub not-sent : looked_of None ≡ form_of line kind letter → (refused (no 12 0), out) ≡ writing_of line rec number out
  unfolding result
  not-sent r = rw (← (same (looked_of None) (values_of rec) (permits_record line rec) r refl refl))

  -- there is one, and the values are permitted or not
  module _ {form : Form} {vs : List ℕ} {p : Bool} (r : looked_of (Some form) ≡ form_of line kind letter) (v : vs ≡ values_of rec)
      (q : p ≡ permits_values line kind (slots_of form) vs) where
    -- so is the record
    permits : (b : Bool) → p ≡ b → permits_record line rec ≡ b
    permits b t =
        sym (record-row line rec (looked_of (Some form)) (record-looked line rec kind letter (looked_of (Some form)) e f r) kind vs e v refl) ∙ sym q ∙ t

    pub not-permitted : p ≡ false → (refused (no 13 0), out) ≡ writing_of line rec number out
    unfolding result
    not-permitted t = rw (← (same (looked_of (Some form)) vs false r v (permits false t)))

    module _ (t : p ≡ true) where
      pub no_number : 1 < number → (refused (no 13 0), out) ≡ writing_of line rec number out
      unfolding result
      no_number g = rw (← (same (looked_of (Some form)) vs true r v (permits true t)), le-ltb number 2 g)

      pub no_room : number ≤ 1 → length out < 8 + width_of form → (refused (no 14 0), out) ≡ writing_of line rec number out
      unfolding result
      no_room g h = rw (← (same (looked_of (Some form)) vs true r v (permits true t)), lt-ltb number 2 (small g), lt-leb _ _ h)

      pub in-full : number ≤ 1 → 8 + width_of form ≤ length out
          → (written (8 + width_of form), frame_of kind number (data_of (slots_of form) vs) ++ drop (8 + width_of form) out) ≡ writing_of line rec number out
      unfolding result
      in-full g h = rw (← (same (looked_of (Some form)) vs true r v (permits true t)), lt-ltb number 2 (small g), le-leb _ _ h)
