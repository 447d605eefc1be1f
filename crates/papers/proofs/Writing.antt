-- What writing refuses first, computed, and what it leaves in the output. Assumes nothing.
use mathlib.Core.Path.{◌≡◌, refl, sym, ap, ◌∙◌}
use mathlib.Core.Bool.{Bool, true, false, cond}
use mathlib.Core.List.{List, ◌++◌}
use Prim.Native.Nat.{ℕ, ◌+◌, ◌-◌, ◌≤◌}
use native.Mathlib.Omega.{arith}
use lib.Dec.{ltb, leb}
use lib.ListN.{length, get_or, drop}
use lib.Seq.{length-take-le, length_front, get_or-append-add, get_or-drop}
use borrow.Author.Tests.{leb-true}
use Rattle.laws.specs.Truth.{both}
use Rattle.laws.specs.Numerals.{numeral_on, left_of}
use Rattle.laws.proofs.Truths.{both_left}
use Rattle.characters.specs.Characters.{in_set}
use Rattle.forms.specs.Lines.{is_line, line_of}
use Rattle.forms.specs.Forms.{forms, on_line, look_in, form_of, type_row, slots_in, count_of, slots_of, width_in, width_of}
use Rattle.values.specs.Packets.{lead_of, is_decimal, permits, ruled, permits_number}
use Rattle.values.specs.Values.{text_of, narrow, number_width, permitted_from, number_fits, permits_value, permits_values, row_of, permits_record, length_of}
use Rattle.writing.specs.Writing.{writing_of, telegram_of}
use Rattle.records.specs.Answers.{Write}
use Rattle.writing.proofs.Trips.{telegram-length}
use Rattle.papers.specs.Writing.{RefusedInOrder, OldBytes, KeepsBehind}

pub refused-in-order : RefusedInOrder
unfolding numeral_on left_of in_set line_of forms on_line look_in form_of type_row slots_in count_of slots_of width_in width_of lead_of is_decimal permits ruled permits_number
    text_of narrow number_width permitted_from number_fits permits_value permits_values permits_record length_of writing_of
refused-in-order = refl

-- bytes in front of an output, as many as they take of it
module _ (t out : List ℕ) (n : ℕ) (e : length t ≡ n) (room : n ≤ length out) where
  front_length : length (t ++ drop n out) ≡ length out
  front_length = length_front out t n (e ∙ sym (length-take-le n out room))

  behind-front : (i : ℕ) → n ≤ i → get_or (t ++ drop n out) i 0 ≡ get_or out i 0
  behind-front i h =
      let a : i ≡ length t + (i - n) = omega arith in
      let b : n + (i - n) ≡ i = omega arith in
      ap (λ (k : ℕ). get_or (t ++ drop n out) k 0) a ∙ get_or-append-add t (drop n out) (i - n) 0 ∙ get_or-drop n out (i - n) 0 ∙ ap (λ (k : ℕ). get_or out k 0) b

-- what each outcome of a test leaves
on-outcome : (out : List ℕ) (c : Bool) (x y : Write) → (c ≡ true → OldBytes out x) → (c ≡ false → OldBytes out y) → OldBytes out (cond c x y)
on-outcome out true x y f g = f refl
on-outcome out false x y f g = g refl

pub keeps-behind : KeepsBehind
unfolding writing_of
keeps-behind line rec number out =
    on-outcome out (is_line line) _ _
    (λ _. on-outcome out (row_of line rec).found _ _
    (λ _. on-outcome out (both (permits_record line rec) (ltb number 2)) _ _
    (λ p. on-outcome out (leb (length_of line rec) (length out)) _ _
    (λ r.
    let e = telegram-length line rec number (both_left _ _ p) in
    let room = leb-true (length_of line rec) (length out) r in
    (front_length (telegram_of line rec number) out (length_of line rec) e room, behind-front (telegram_of line rec number) out (length_of line rec) e room))
    (λ _. refl))
    (λ _. refl))
    (λ _. refl))
    (λ _. refl)
