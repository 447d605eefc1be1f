-- `near_lf` looks back for the nearest LF byte by byte.
use Rattle.std.proofs.Common.{◌≤◌}
use Rattle.cutting.proofs.Looks.{NoLf}
use Rattle.cutting.proofs.search.near_lf.Given as goal

abbrev pub invariant-loop-i : goal.invariant-loop-i
invariant-loop-i l = (l.i ≤ l.end) × NoLf l.s l.i l.end
