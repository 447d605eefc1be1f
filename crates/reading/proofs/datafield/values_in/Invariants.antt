-- The invariant of `reading::datafield::values_in`.
use Rattle.std.proofs.Common.{◌≡◌, ◌-◌, ◌*◌, ◌≤◌, ◌++◌, [], length, take, drop}
use Rattle.laws.specs.Truth.{pad}
use Rattle.forms.specs.Forms.{slots_in}
use Rattle.reading.specs.DataField.{values_in}
use Rattle.reading.proofs.datafield.values_in.Given as goal

abbrev pub invariant-loop-j : goal.invariant-loop-j
invariant-loop-j l =
    (l.count ≤ 10) × (l.j ≤ l.count) × (l.at ≤ 256 * l.j) × (length l.values ≡ 10) × (drop l.j l.values ≡ drop l.j (pad 10 []))
    × (take l.j l.values ++ values_in (10 - l.j) (slots_in (l.count - l.j) (drop l.j l.letters) (drop l.j l.lens)) (drop l.at l.field) ≡ values_in 10 (slots_in l.count l.letters l.lens) l.field)
