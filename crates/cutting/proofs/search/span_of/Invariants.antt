-- `span_of` goes from CR to CR: no telegram ends before the loop's place.
use Rattle.std.proofs.Common.{◌-◌, length}
use Rattle.cutting.proofs.Looked.{Passed}
use Rattle.cutting.proofs.search.span_of.Given as goal

abbrev pub invariant-loop-place : goal.invariant-loop-place
invariant-loop-place l = Passed l.s l.from l.place

abbrev pub decreases-loop-place : goal.decreases-loop-place
decreases-loop-place l = length l.s - l.place
