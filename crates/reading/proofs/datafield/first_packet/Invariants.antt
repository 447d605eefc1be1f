-- The invariant of `reading::datafield::first_packet`.
use Rattle.std.proofs.Common.{◌≡◌, ℕ, List, Bool, ◌+◌, ◌-◌, ◌*◌, ◌≤◌, length, drop}
use Rattle.forms.specs.Forms.{slots_in}
use Rattle.reading.specs.DataField.{AnswersAs, first_packet}
use Rattle.reading.proofs.datafield.first_packet.Given as goal

abbrev pub invariant-loop-letter : goal.invariant-loop-letter
invariant-loop-letter g l =
    (l.count ≤ 10) × (length l.yielded ≤ l.count) × (l.at ≤ 256 * length l.yielded)
    × ((test : ℕ → List ℕ → Bool) → AnswersAs g.F.Fn l.fits test
    → first_packet test (5 + l.at) (slots_in (l.count - length l.yielded) (drop (length l.yielded) l.fn.form.letters) (drop (length l.yielded) l.fn.form.lens)) (drop l.at l.field)
    ≡ first_packet test 5 (slots_in l.count l.fn.form.letters l.fn.form.lens) l.field)
