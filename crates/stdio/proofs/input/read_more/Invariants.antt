-- What lies before the place stays. Assumes nothing.
use Rattle.std.proofs.Common.{◌≡◌, ◌<◌, length, take}
use Rattle.stdio.proofs.input.read_more.Given as goal

abbrev pub invariant-loop : goal.invariant-loop
invariant-loop l = (l.from < length l.buf) × (take l.from l.buf ≡ take l.from l.initial.buf)
