-- What is left of the number so far, when the digits that are still to take are taken, is what is left of the whole.
use Rattle.std.proofs.Common.{◌≡◌, ◌-◌}
use Rattle.laws.specs.Numerals.{left_of}
use Rattle.values.proofs.numbers.left_of.Given as goal

abbrev pub invariant-loop : goal.invariant-loop
invariant-loop l = left_of l.decimal (l.w - l.counter) l.m ≡ left_of l.decimal l.w l.n
