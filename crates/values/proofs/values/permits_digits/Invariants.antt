-- The digits behind the i-th are permitted.
use Rattle.std.proofs.Common.{◌≡◌, ◌≤◌}
use Rattle.laws.specs.Numerals.{numeral}
use Rattle.values.specs.Values.{permitted_from}
use Rattle.values.proofs.values.permits_digits.Given as goal

abbrev pub invariant-loop-i : goal.invariant-loop-i
invariant-loop-i l = (l.i ≤ l.w) × (permitted_from l.line l.kind l.letter l.from (numeral l.decimal l.i l.m) ≡ permitted_from l.line l.kind l.letter l.from (numeral l.decimal l.w l.n))
