-- The number so far, and the digits that are still to read, say the whole number; it has i digits at most.
use Rattle.std.proofs.Common.{◌≡◌, ◌≤◌, ◌<◌, ◌^◌, length, drop}
use Rattle.laws.specs.Numerals.{base, number_on}
use Rattle.values.proofs.numbers.number_said.Given as goal

abbrev pub invariant-loop-b : goal.invariant-loop-b
invariant-loop-b l = (l.b-index ≤ length l.text) × (l.a < base l.decimal ^ l.b-index) × (number_on l.decimal l.a (drop l.b-index l.text) ≡ number_on l.decimal 0 l.text)
