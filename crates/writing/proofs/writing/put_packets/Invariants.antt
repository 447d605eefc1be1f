-- The invariant of `writing::writing::put_packets`.
use Rattle.std.proofs.Common.{◌≡◌, ◌+◌, ◌-◌, ◌≤◌, ◌++◌, length, take, drop}
use Rattle.forms.specs.Forms.{slots_in, width_in}
use Rattle.reading.specs.Contents.{data_of}
use Rattle.writing.proofs.writing.put_packets.Given as goal

abbrev pub invariant-loop-j : goal.invariant-loop-j
invariant-loop-j l =
    (l.count ≤ 10) × (l.j ≤ l.count) × (l.at + width_in (slots_in (l.count - l.j) (drop l.j l.letters) (drop l.j l.lens)) ≡ length l.field)
    × (take l.at l.field ++ data_of (slots_in (l.count - l.j) (drop l.j l.letters) (drop l.j l.lens)) (drop l.j l.values) ≡ data_of (slots_in l.count l.letters l.lens) l.values)
