-- The ranges of the master's state: what a state that passes their test has. Assumes nothing.
use mathlib.Core.Path.{◌≡◌, refl, sym}
use mathlib.Core.Bool.{Bool, true, false, cond}
use Prim.Native.Nat.{ℕ, ◌≤◌, ◌<◌}
use native.Mathlib.Omega.{arith}
use lib.Dec.{ltb}
use borrow.Author.Tests.{le-ltb, ltb-true, ltb-false}
use Rattle.laws.specs.Truth.{both}
use Rattle.laws.proofs.Truths.{both_left, both_right, both_true}
use Rattle.laws.specs.Numerals.{numeral_on, left_of}
use Rattle.forms.specs.Lines.{is_line, line_of}
use Rattle.forms.specs.Forms.{by_master, forms, on_line, look_in, type_row, form_of, data_type, slots_in, count_of, slots_of}
use Rattle.records.specs.Refusals.{No, no}
use Rattle.records.specs.Records.{type_of}
use Rattle.characters.specs.Characters.{in_set}
use Rattle.records.specs.declared.records.Record.{Record}
use Rattle.forms.proofs.Found.{each_line}
use Rattle.values.specs.Packets.{lead_of, is_decimal, permits, ruled, permits_number}
use Rattle.values.specs.Values.{permits_record, text_of, narrow, number_width, permitted_from, number_fits, permits_value, permits_values}
use Rattle.records.specs.Answers.{good, fails}
use Rattle.clock.specs.Counters.{in_range}
use Rattle.characters.specs.Marks.{longest}
use Rattle.master.specs.Rules.{poll_of}
use Rattle.master.specs.Times.{operation_fits}
use Rattle.master.specs.declared.state.Master.{Master}
use Rattle.master.specs.State.{is_free, sendable, fits_free, in_ranges, call_fault, with_line}

-- a fault is no pass
pub no-pass : {A : Type 0} {x : No} → fails x ≡ good → A
no-pass h = let z : ◌≡◌ {A = ℕ} 0 1 = cc in let y : ⊥ = omega arith in absurd y

-- what a state in its ranges has
module _ (m : Master) (h : in_ranges m ≡ true) where
  pub fits-free : fits_free m ≡ true
  unfolding in_ranges
  fits-free = both_left _ _ h

  pub lined : is_line m.line ≡ true
  unfolding fits_free
  lined = both_left _ _ fits-free

  rest : both (in_range m.number.0) (operation_fits m.line m.operation) ≡ true
  unfolding fits_free
  rest = both_right (is_line m.line) _ fits-free

  pub numbered : m.number.0 < 2
  numbered = ltb-true m.number.0 2 (both_left _ _ rest)

  pub flagged : operation_fits m.line m.operation ≡ true
  flagged = both_right (in_range m.number.0) _ rest

  busy : is_free m ≡ false → both (ltb m.count 4) (sendable m.line m.rec) ≡ true
  unfolding in_ranges
  busy b = rw b at (both_right (fits_free m) _ h)

  pub counted : is_free m ≡ false → m.count < 4
  counted b = ltb-true m.count 4 (both_left _ _ (busy b))

  pub sends : is_free m ≡ false → sendable m.line m.rec ≡ true
  sends b = both_right (ltb m.count 4) _ (busy b)

-- a record that the master may send is permitted
pub sendable_permits : (line : ℕ) (rec : Record) → sendable line rec ≡ true → permits_record line rec ≡ true
unfolding sendable
sendable_permits line rec h = both_right (by_master line (type_of rec)) (permits_record line rec) h

pub sendable-both : (line : ℕ) (rec : Record) → by_master line (type_of rec) ≡ true → permits_record line rec ≡ true → sendable line rec ≡ true
unfolding sendable
sendable-both line rec h k = both_true (by_master line (type_of rec)) (permits_record line rec) h k

-- the master may send the poll on each line
pub poll_sendable : (line : ℕ) → is_line line ≡ true → sendable line (poll_of line) ≡ true
poll_sendable line h =
    each_line (λ (l : ℕ). sendable l (poll_of l))
    (unfold sendable poll_of forms on_line look_in type_row form_of slots_in count_of slots_of data_type line_of lead_of is_decimal permits ruled permits_number text_of
    number_width permitted_from number_fits permits_value permits_values permits_record narrow numeral_on left_of in_set in refl)
    line h

-- noting the line changes no range
pub line-noted : (m n : Master) (g : Bool) → n ≡ with_line m g → in_ranges m ≡ true → in_ranges n ≡ true
unfolding fits_free in_ranges
line-noted m n g e h = rw e h

pub line-noted-busy : (m n : Master) (g : Bool) → n ≡ with_line m g → is_free m ≡ false → is_free n ≡ false
line-noted-busy m n g e h = rw e h

-- 15, then 14
module _ (m : Master) (room : ℕ) where
  pub passes : in_ranges m ≡ true → longest ≤ room → good ≡ call_fault m room
  unfolding call_fault
  passes h k = rw (h, le-ltb room longest k)

  pub passed : good ≡ call_fault m room → (in_ranges m ≡ true) × (longest ≤ room)
  unfolding call_fault
  passed h = go (in_ranges m) (ltb room longest) (ltb-false room longest) (sym h)
    where
      go : (r s : Bool) → (s ≡ false → longest ≤ room) → cond r (cond s (fails (no 14 0)) good) (fails (no 15 0)) ≡ good → (r ≡ true) × (longest ≤ room)
      go true false k e = (refl, k refl)
      go true true k e = no-pass e
      go false s k e = no-pass e
