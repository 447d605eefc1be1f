-- The number so far, in i digits in front of those that are written, is the whole number.
use Rattle.std.proofs.Common.{◌≡◌, ◌≤◌, length, drop}
use Rattle.laws.specs.Numerals.{numeral_on, numeral}
use Rattle.values.proofs.numbers.put_numeral.Given as goal

abbrev pub invariant-loop-i : goal.invariant-loop-i
invariant-loop-i l = (l.i ≤ length l.fn.part) × (length l.part ≡ length l.fn.part) × (numeral_on l.decimal l.i l.m (drop l.i l.part) ≡ numeral l.decimal (length l.fn.part) l.n)
