-- `next_cr` looks for the next CR byte by byte.
use Rattle.std.proofs.Common.{◌≤◌, length}
use Rattle.cutting.proofs.Looks.{NoCr}
use Rattle.cutting.proofs.search.next_cr.Given as goal

abbrev pub invariant-loop-i : goal.invariant-loop-i
invariant-loop-i l = (l.i ≤ length l.s) × NoCr l.s l.from l.i
